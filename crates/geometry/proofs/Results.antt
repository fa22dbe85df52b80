-- What the walks come to, and the polygons that need none.
use Rattle.std.proofs.Common.{◌≡◌, ◌<◌, ◌⊎◌, List, [], ◌∷◌, ◌++◌, length, pos, Some, sym, ap, ◌∙◌, subst, inl, inr, arith}
use mathlib.Core.Path.{fun_ext}
use lib.IntN.{*ℤ-zero}
use Rattle.geometry.specs.Plane.{Pt, dot, Lex, nth, In}
use Rattle.geometry.specs.Polygons.{Polygon}
use Rattle.geometry.specs.Steps.{LeastOf}
use Rattle.geometry.specs.Sums.{sums}
use Rattle.geometry.specs.Support.{support, join, chain, free}
use Rattle.geometry.specs.Walks.{Wraps}
use Rattle.geometry.proofs.Hull.{hull_polygon, hull_support}
use Rattle.geometry.proofs.Integers.{lin}
use Rattle.geometry.proofs.LexOrder.{lex_trans}
use Rattle.geometry.proofs.Members.{in_nth, in_append}
use Rattle.geometry.proofs.Semiring.{append_support}
use Rattle.geometry.proofs.SumOfPolygons.{least_first}
use Rattle.geometry.proofs.Sums.{sums_support}

pub empty_polygon : Polygon []
empty_polygon =
    record { convex = record { turns = λ i j k a b h. absurd (omega arith); apart = λ i j a h. absurd (omega arith) }; start = λ i a h. absurd (omega arith) }

pub single_polygon : (p : Pt) → Polygon (p ∷ [])
single_polygon p =
    record { convex = record { turns = λ i j k a b h. absurd (omega arith); apart = λ i j a h. absurd (omega arith) }; start = λ i a h. absurd (omega arith) }

-- the polygon of one point that costs nothing
pub free_support : support ((pos 0, pos 0) ∷ []) ≡ free
free_support = fun_ext (λ w. ap Some (zero_cost w))
  where
    zero_cost : (w : Pt) → dot w (pos 0, pos 0) ≡ pos 0
    zero_cost w = let a = *ℤ-zero w.0 in let b = *ℤ-zero w.1 in omega (arith, lin)

pub joined : (ps qs rs : List Pt) → Wraps (ps ++ qs) rs → Polygon rs × (support rs ≡ join (support ps) (support qs))
joined ps qs rs h = (hull_polygon (ps ++ qs) rs h, hull_support (ps ++ qs) rs h ∙ append_support ps qs)

pub chained : (ps qs rs : List Pt) → Wraps (sums ps qs) rs → Polygon rs × (support rs ≡ chain (support ps) (support qs))
chained ps qs rs h = (hull_polygon (sums ps qs) rs h, hull_support (sums ps qs) rs h ∙ sums_support ps qs)

-- the lesser of the first corners is the least point of both polygons
pub least_union : (ps qs : List Pt) → Polygon ps → Polygon qs → (o : Pt) → In (ps ++ qs) o
    → (0 < length ps → (nth ps 0 ≡ o) ⊎ Lex o (nth ps 0)) → (0 < length qs → (nth qs 0 ≡ o) ⊎ Lex o (nth qs 0)) → LeastOf (ps ++ qs) o (length (ps ++ qs))
least_union ps qs f g o h a b = record { among = h; least = λ k hk. by (in_append ps qs (nth (ps ++ qs) k) (in_nth (ps ++ qs) k hk)) }
  where
    later : (xs : List Pt) → Polygon xs → (0 < length xs → (nth xs 0 ≡ o) ⊎ Lex o (nth xs 0)) → (p : Pt) → In xs p → (p ≡ o) ⊎ Lex o p
    later xs x c p k = go (c (omega (arith, k.within))) (least_first xs x p k)
      where
        go : (nth xs 0 ≡ o) ⊎ Lex o (nth xs 0) → (p ≡ nth xs 0) ⊎ Lex (nth xs 0) p → (p ≡ o) ⊎ Lex o p
        go (inl d) (inl e) = inl (e ∙ d)
        go (inl d) (inr l) = inr (subst (λ z. Lex z p) d l)
        go (inr l) (inl e) = inr (subst (Lex o) (sym e) l)
        go (inr l) (inr m) = inr (lex_trans o (nth xs 0) p l m)

    by : {p : Pt} → In ps p ⊎ In qs p → (p ≡ o) ⊎ Lex o p
    by {p} (inl k) = later ps f a p k
    by {p} (inr k) = later qs g b p k
