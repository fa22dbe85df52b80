-- The corners of a join and of a chain, in terms of the corners of the parts.
use Rattle.std.proofs.Common.{◌≡◌, ◌⊎◌, List, ◌++◌, sym, ◌∙◌, ap₂, inl, inr}
use Rattle.geometry.specs.Exposed.{Exposed}
use Rattle.geometry.specs.Plane.{Pt, nth, In}
use Rattle.geometry.specs.Polygons.{Polygon, Inside}
use Rattle.geometry.specs.Sums.{add, sums, OnePair}
use Rattle.geometry.specs.Support.{support, join, chain}
use Rattle.geometry.proofs.Alone.{corner_in, corner_exposed}
use Rattle.geometry.proofs.Inside.{support_inside}
use Rattle.geometry.proofs.Members.{in_append_l, in_append_r, in_append}
use Rattle.geometry.proofs.Pairs.{same_pair}
use Rattle.geometry.proofs.Semiring.{append_support}
use Rattle.geometry.proofs.Sums.{sums_support, Sum, in_sums, of_sums}

pub join_corners : (ps qs rs : List Pt) → Polygon rs → support rs ≡ join (support ps) (support qs) → (p : Pt) → In rs p → In ps p ⊎ In qs p
join_corners ps qs rs g e p h = in_append ps qs p (corner_in (ps ++ qs) rs g (e ∙ sym (append_support ps qs)) p h)

pub join_covers : (ps qs rs : List Pt) → support rs ≡ join (support ps) (support qs) → (p : Pt) → In ps p ⊎ In qs p → Inside rs p
join_covers ps qs rs e p h = support_inside rs (ps ++ qs) (e ∙ sym (append_support ps qs)) p (go h)
  where
    go : In ps p ⊎ In qs p → In (ps ++ qs) p
    go (inl k) = in_append_l ps qs p k
    go (inr k) = in_append_r ps qs p k

pub chain_covers : (ps qs rs : List Pt) → support rs ≡ chain (support ps) (support qs) → (p q : Pt) → In ps p → In qs q → Inside rs (add p q)
chain_covers ps qs rs e p q h k = support_inside rs (sums ps qs) (e ∙ sym (sums_support ps qs)) (add p q) (in_sums ps qs p q h k)

pub chain_corners : (ps qs rs : List Pt) → Polygon ps → Polygon qs → Polygon rs → support rs ≡ chain (support ps) (support qs) → (r : Pt) → In rs r
    → OnePair ps qs r
chain_corners ps qs rs f g h e r k = make (of_sums ps qs r (corner_in (sums ps qs) rs h same r k))
  where
    same : support rs ≡ support (sums ps qs)
    same = e ∙ sym (sums_support ps qs)

    x : Exposed (sums ps qs) r
    x = corner_exposed (sums ps qs) rs h same r k

    make : Sum ps qs r → OnePair ps qs r
    make s = record {
      one = s.left.place;
      two = s.right.place;
      within_one = s.left.within;
      within_two = s.right.within;
      total = total;
      only = λ i j hi hj t. same_pair ps qs f g r x i j s.left.place s.right.place hi hj s.left.within s.right.within t total;
    }
      where
        total : add (nth ps s.left.place) (nth qs s.right.place) ≡ r
        total = ap₂ add s.left.here s.right.here ∙ s.total
