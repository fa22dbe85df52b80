-- The steps of a search for the next corner, at costs that a program read from a list.
use Rattle.std.proofs.Common.{◌≡◌, ℕ, ◌+◌, ◌<◌, List, length, get_or, sym, subst}
use Rattle.network.specs.declared.cost.Cost.{Cost}
use Rattle.geometry.specs.Exposed.{Exposed}
use Rattle.geometry.specs.Plane.{Pt}
use Rattle.geometry.specs.Steps.{Takes, Keeps, Found}
use Rattle.geometry.proofs.Mapped.{took_map, kept_map}
use Rattle.polygons.specs.Points.{place, places}

-- s was read at place i
module _ (xs : List Cost) (i : ℕ) (s : Cost) (h : i < length xs) (is : s ≡ get_or xs i s) where
  pub took_read : (p b : Pt) → Exposed (places xs) p → Found (places xs) p b i → Takes p b (place s) → Found (places xs) p (place s) (i + 1)
  took_read p b x f t =
      subst (λ z. Found (places xs) p (place z) (i + 1)) (sym is) (took_map place xs i s h p b x f (subst (λ z. Takes p b (place z)) is t))

  pub kept_read : (p b : Pt) → Exposed (places xs) p → Found (places xs) p b i → Keeps p b (place s) → Found (places xs) p b (i + 1)
  kept_read p b x f t = kept_map place xs i s h p b x f (subst (λ z. Keeps p b (place z)) is t)
