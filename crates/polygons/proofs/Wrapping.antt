-- A walk whose corners so far stand in the first cells of an array goes on, closes, or shows that too many are left.
use Rattle.std.proofs.Common.{◌≡◌, ℕ, ◌+◌, ◌<◌, ◌≤◌, List, [], ◌∷◌, ◌++◌, length, take, set, sym, subst, arith}
use Rattle.std.proofs.lemmas.List.{length-take-le, take_more_set, length-map}
use Rattle.network.specs.declared.cost.Cost.{Cost}
use Rattle.geometry.specs.Exposed.{Exposed}
use Rattle.geometry.specs.Plane.{Pt}
use Rattle.geometry.specs.Polygons.{Polygon as Rounded}
use Rattle.geometry.specs.Steps.{LeastOf, Found, Going}
use Rattle.geometry.specs.Support.{support}
use Rattle.geometry.specs.Walks.{Wraps}
use Rattle.geometry.proofs.Going.{begin, going_exposed, going_too_many}
use Rattle.geometry.proofs.Hull.{hull_polygon, hull_support}
use Rattle.geometry.proofs.Mapped.{closes_map, goes_map}
use Rattle.polygons.specs.Fits.{Fits}
use Rattle.polygons.specs.Points.{place, places}

module _ (xs : List Cost) (o : Pt) where
  pub begins : LeastOf (places xs) o (length xs) → Going (places xs) (places (take 0 xs)) o o
  begins l = begin (places xs) o (subst (LeastOf (places xs) o) (sym (length-map xs place)) l)

  -- the walk stands at c
  module _ (cs : List Cost) (n : ℕ) (room : length cs ≡ 32) (few : n < 32) (c : Cost) (g : Going (places xs) (places (take n cs)) o (place c)) where
    pub exposed : Exposed (places xs) (place c)
    exposed = going_exposed (places xs) (places (take n cs)) o (place c) g

    module _ (q : Pt) (f : Found (places xs) (place c) q (length xs)) where
      found : Found (places xs) (place c) q (length (places xs))
      found = subst (Found (places xs) (place c) q) (sym (length-map xs place)) f

      pushed : take (n + 1) (set cs n c) ≡ take n cs ++ c ∷ []
      pushed = take_more_set cs n c (omega arith)

      wraps : q ≡ o → Wraps (places xs) (places (take (n + 1) (set cs n c)))
      wraps e = subst (λ z. Wraps (places xs) (places z)) (sym pushed) (closes_map place (places xs) (take n cs) o c g q found e)

      pub closed_round : q ≡ o → Rounded (places (take (n + 1) (set cs n c)))
      closed_round e = hull_polygon (places xs) _ (wraps e)

      pub closed_support : q ≡ o → support (places (take (n + 1) (set cs n c))) ≡ support (places xs)
      closed_support e = hull_support (places xs) _ (wraps e)

      pub goes_on : ¬ (q ≡ o) → Going (places xs) (places (take (n + 1) (set cs n c))) o q
      goes_on d = subst (λ z. Going (places xs) (places z) o q) (sym pushed) (goes_map place (places xs) (take n cs) o c g q found d)

-- a walk that stands at one more than the array holds does not fit
pub misfit : (pts : List Pt) (cs : List Cost) (n : ℕ) (o p : Pt) → length cs ≡ 32 → n ≤ 32 → Going pts (places (take n cs)) o p
    → 32 ≤ n → Fits (support pts) → ⊥
misfit pts cs n o p e h g k f =
    going_too_many 32 pts (places (take n cs)) o p g (omega (arith, length-map (take n cs) place, length-take-le n cs (omega arith))) f.corners f.rounded f.few f.support_is
