-- A node has one corner list: two lists of the same corners have the same least costs, so they are equal. Assumes nothing.
use Rattle.std.proofs.Common.{◌≡◌, ℕ, List, [], ◌∷◌, ℤ, ◌≤ℤ◌, sym, refl, ap, ◌∙◌, subst, arith}
use Rattle.network.specs.Networks.{Network}
use Rattle.geometry.specs.Plane.{Pt, In, dot, nth}
use Rattle.geometry.specs.Support.{support}
use Rattle.geometry.proofs.Faithful.{unique}
use Rattle.geometry.proofs.Least.{Least, least, support_least}
use Rattle.geometry.proofs.Members.{in_nth}
use Rattle.corners.specs.CornerLists.{CornersOf}

-- a least cost over one list is one over a list of the same points
least_same_points : (ps qs : List Pt) (w : Pt) (m : ℤ) → ((p : Pt) → In ps p → In qs p) → ((p : Pt) → In qs p → In ps p) → Least ps w m → Least qs w m
least_same_points ps qs w m to from l =
    let there = to (nth ps l.place) (in_nth ps l.place l.within) in
    record {
      below = λ i h.
          let back = from (nth qs i) (in_nth qs i h) in
          subst (λ (p : Pt). m ≤ℤ dot w p) back.here (l.below back.place back.within);
      place = there.place;
      within = there.within;
      reached = ap (dot w) there.here ∙ l.reached;
    }

same_support : (ps qs : List Pt) → ((p : Pt) → In ps p → In qs p) → ((p : Pt) → In qs p → In ps p) → (w : Pt) → support ps w ≡ support qs w
same_support [] [] to from w = refl
same_support [] (q ∷ qs) to from w = absurd (omega (arith, (from q (in_nth (q ∷ qs) 0 (omega arith))).within))
same_support (p ∷ ps) qs to from w =
    let l = least p ps w in
    l.1 ∙ sym (support_least qs w l.0 (least_same_points (p ∷ ps) qs w l.0 to from l.2))

pub one_corner_list : (N : Network) (s v : ℕ) (ps qs : List Pt) → CornersOf N s v ps → CornersOf N s v qs → ps ≡ qs
one_corner_list N s v ps qs one other =
    unique ps qs one.rounded other.rounded
    (λ i w. same_support ps qs (λ p m. other.every (one.only p m).0 _ (one.only p m).1) (λ p m. one.every (other.only p m).0 _ (other.only p m).1) w i)
