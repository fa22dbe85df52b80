-- What a walk has found stands in every polygon with the support, so a walk that found too much shows that none fits.
use Rattle.std.proofs.Common.{◌≡◌, ℕ, ◌<◌, ◌≤◌, List, length, ℤ, subst, arith}
use Rattle.geometry.specs.Exposed.{Exposed}
use Rattle.geometry.specs.Plane.{Pt, Near, nth, In}
use Rattle.geometry.specs.Polygons.{Polygon}
use Rattle.geometry.specs.Support.{support}
use Rattle.geometry.specs.Walks.{Walked}
use Rattle.geometry.proofs.Alone.{exposed_corner}
use Rattle.geometry.proofs.Hull.{walked_exposed, walked_apart}
use Rattle.geometry.proofs.Pigeons.{no_longer}

-- no polygon with the support of the points has fewer corners than a walk has found
pub walked_length : (pts rs qs : List Pt) → Walked pts rs → Polygon qs → support qs ≡ support pts → length rs ≤ length qs
walked_length pts rs qs h g e =
    no_longer rs qs (walked_apart pts rs h) (λ i hi. exposed_corner pts qs g e (nth rs i) (h.from i hi) (walked_exposed pts rs h i hi))

pub too_many : (n : ℕ) (pts rs qs : List Pt) → Walked pts rs → n < length rs → Polygon qs → length qs ≤ n → ¬ (support qs ≡ support pts)
too_many n pts rs qs h l g m e = let k = walked_length pts rs qs h g e in omega arith

pub too_far : (M : ℤ) (pts qs : List Pt) (p : Pt) → In pts p → Exposed pts p → ¬ (Near M p) → Polygon qs
    → ((i : ℕ) → i < length qs → Near M (nth qs i)) → ¬ (support qs ≡ support pts)
too_far M pts qs p h x out g near e =
    let k = exposed_corner pts qs g e p h x in
    out (subst (Near M) k.here (near k.place k.within))
