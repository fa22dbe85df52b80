-- What `==` and `!=` of two costs find of their places, and `min`.
use Rattle.std.proofs.Common.{◌≡◌, ◌⊎◌, ◌<ℤ◌, Bool, true, false, cond, ◌&&◌, not, Decides, Ordering, Less, Equal, Greater, inl, inr, refl, subst, sym, ap, ◌∙◌}
use Rattle.std.proofs.lemmas.Bool.{false≢true, not-true, not-false}
use Rattle.std.proofs.lemmas.Bool.Decides.{Decides-and, Decides-int_eq}
use Rattle.std.specs.Cmp.{int_ranks}
use Rattle.std.specs.Ordering.{MatchOrdering, int_eq, int_cmp, is_lt, ordering_then}
use Rattle.geometry.specs.Plane.{Lex}
use Rattle.network.specs.declared.cost.Cost.{Cost}
use Rattle.polygons.specs.Points.{place}

module _ (p q : Cost) (r : Bool) where
  abbrev compared : Bool
  compared = int_eq p.price q.price && int_eq p.pressure q.pressure

  decided : Decides compared ((p.price ≡ q.price) × (p.pressure ≡ q.pressure))
  decided = Decides-and _ _ (Decides-int_eq p.price q.price) (Decides-int_eq p.pressure q.pressure)

  together : compared ≡ true → place p ≡ place q
  together t = let parts = decided.0 t in λ i. (parts.0 i, parts.1 i)

  apart : compared ≡ false → ¬ (place p ≡ place q)
  apart f h = false≢true (sym f ∙ decided.1 (ap (λ x. x.0) h, ap (λ x. x.1) h))

  pub same_place : r ≡ compared → r ≡ true → place p ≡ place q
  same_place e t = together (sym e ∙ t)

  pub other_place : r ≡ compared → r ≡ false → ¬ (place p ≡ place q)
  other_place e f = apart (sym e ∙ f)

  pub unequal_place : r ≡ not compared → r ≡ true → ¬ (place p ≡ place q)
  unequal_place e t = apart (not-true compared (sym e ∙ t))

  pub not_unequal_place : r ≡ not compared → r ≡ false → place p ≡ place q
  not_unequal_place e f = together (not-false compared (sym e ∙ f))

module _ (p q : Cost) where
  -- o is one of the two, and neither is below it
  abbrev Lesser : Cost → Type 0
  Lesser o = ((o ≡ p) ⊎ (o ≡ q)) × ((place p ≡ place o) ⊎ Lex (place o) (place p)) × ((place q ≡ place o) ⊎ Lex (place o) (place q))

  ranked : (a b : Ordering) → MatchOrdering a (q.price <ℤ p.price) (q.price ≡ p.price) (p.price <ℤ q.price)
      → MatchOrdering b (q.pressure <ℤ p.pressure) (q.pressure ≡ p.pressure) (p.pressure <ℤ q.pressure)
      → Lesser (cond (is_lt (ordering_then a b)) q p)
  ranked Less b h k = (inr refl, inr (record { lex = inl h }), inl refl)
  ranked Equal Less h k = (inr refl, inr (record { lex = inr (h, k) }), inl refl)
  ranked Equal Equal h k = (inl refl, inl refl, inl (λ i. (h i, k i)))
  ranked Equal Greater h k = (inl refl, inl refl, inr (record { lex = inr (sym h, k) }))
  ranked Greater b h k = (inl refl, inl refl, inr (record { lex = inl h }))

  pub lesser_of : (o : Cost) → o ≡ cond (is_lt (ordering_then (int_cmp q.price p.price) (int_cmp q.pressure p.pressure))) q p → Lesser o
  lesser_of o e = subst Lesser (sym e) (ranked _ _ (int_ranks q.price p.price) (int_ranks q.pressure p.pressure))
