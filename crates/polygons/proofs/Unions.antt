-- The hull of two polygons: their corners one after the other, the least of them, and what a walk round them shows.
use Rattle.std.proofs.Common.{◌≡◌, ◌+◌, ◌<◌, ◌⊎◌, List, ◌++◌, length, get_or, take, Some, None, Option, sym, ap, ◌∙◌, subst, inl, inr, arith}
use Rattle.std.proofs.lemmas.List.{map-append, length-map}
use Rattle.kinds.specs.Answers.{Answers}
use Rattle.network.specs.declared.cost.Cost.{Cost}
use Rattle.geometry.specs.Plane.{Pt, In, Lex}
use Rattle.geometry.specs.Steps.{LeastOf}
use Rattle.geometry.specs.Support.{support, join}
use Rattle.geometry.proofs.Members.{in_append_l, in_append_r}
use Rattle.geometry.proofs.Parts.{join_corners, join_covers}
use Rattle.geometry.proofs.Results.{least_union}
use Rattle.geometry.proofs.Semiring.{append_support}
use Rattle.polygons.specs.declared.polygon.Polygon.{Polygon}
use Rattle.polygons.specs.Corners.{corner_list}
use Rattle.polygons.specs.Fits.{hulls, costs}
use Rattle.polygons.specs.Hulls.{CornersOfParts, PartsInside, Hull}
use Rattle.polygons.specs.Points.{place, places}
use Rattle.polygons.specs.CornersLemmas.{corner_at, corner_in}
use Rattle.polygons.specs.Rounding.{polygon_of}

-- two fillings of an array give both lists
pub union : (l r : Polygon) (one two : List Cost) → take (0 + l.count) one ≡ take l.count l.corners
    → take (l.count + r.count) two ≡ take l.count one ++ take r.count r.corners
    → places (take (l.count + r.count) two) ≡ corner_list l ++ corner_list r
union l r one two e f =
    let n : l.count ≡ 0 + l.count = omega arith in
    ap places (f ∙ ap (λ z. z ++ take r.count r.corners) (ap (λ m. take m one) n ∙ e))
    ∙ map-append place (take l.count l.corners) (take r.count r.corners)

-- the lesser of their first corners is the least point
module _ (l r : Polygon) (d e : Cost) (hl : 0 < l.count) (hr : 0 < r.count) where
  abbrev p : Cost
  p = get_or l.corners 0 d

  abbrev q : Cost
  q = get_or r.corners 0 e

  abbrev both : List Pt
  both = corner_list l ++ corner_list r

  among : (o : Cost) → (o ≡ p) ⊎ (o ≡ q) → In both (place o)
  among o (inl h) = subst (λ z. In both (place z)) (sym h) (in_append_l (corner_list l) (corner_list r) (place p) (corner_in l 0 d hl))
  among o (inr h) = subst (λ z. In both (place z)) (sym h) (in_append_r (corner_list l) (corner_list r) (place q) (corner_in r 0 e hr))

  pub least_of_both : (xs : List Cost) (o : Cost) → places xs ≡ both → (o ≡ p) ⊎ (o ≡ q) → (place p ≡ place o) ⊎ Lex (place o) (place p)
      → (place q ≡ place o) ⊎ Lex (place o) (place q) → LeastOf (places xs) (place o) (length xs)
  least_of_both xs o u one a b =
      subst (LeastOf (places xs) (place o)) (length-map xs place)
      (subst (λ z. LeastOf z (place o) (length z)) (sym u)
      (least_union (corner_list l) (corner_list r) (polygon_of l) (polygon_of r) (place o) (among o one)
      (λ _. subst (λ z. (z ≡ place o) ⊎ Lex (place o) z) (sym (corner_at l 0 d hl)) a)
      (λ _. subst (λ z. (z ≡ place o) ⊎ Lex (place o) z) (sym (corner_at r 0 e hr)) b)))

-- what a walk round the points answers is the answer for the hull
pub hulled : (l r : Polygon) (xs : List Cost) (a : Option Polygon) → places xs ≡ corner_list l ++ corner_list r
    → Answers hulls costs (support (places xs)) a
    → Answers hulls costs (join (costs l) (costs r)) a
hulled l r xs a e h =
    subst (λ f. Answers hulls costs f a) (ap support e ∙ append_support (corner_list l) (corner_list r)) h

corners_of_parts : (l r : Polygon) (a : Option Polygon) → Answers hulls costs (join (costs l) (costs r)) a
    → CornersOfParts (corner_list l) (corner_list r) a
corners_of_parts l r None h = tt
corners_of_parts l r (Some p) h = join_corners (corner_list l) (corner_list r) (corner_list p) (polygon_of p) h

parts_inside : (l r : Polygon) (a : Option Polygon) → Answers hulls costs (join (costs l) (costs r)) a
    → PartsInside (corner_list l) (corner_list r) a
parts_inside l r None h = tt
parts_inside l r (Some p) h = join_covers (corner_list l) (corner_list r) (corner_list p) h

pub hull_answer : (l r : Polygon) (a : Option Polygon) → Answers hulls costs (join (costs l) (costs r)) a → Hull l r a
hull_answer l r a h = record { takes_the_lesser = h; corners_are_theirs = corners_of_parts l r a h; theirs_lie_inside = parts_inside l r a h }
