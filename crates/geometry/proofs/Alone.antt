-- The corners of a polygon are exactly the points that are alone cheapest at some weight in range.
use Rattle.std.proofs.Common.{◌≡◌, ℕ, ◌<◌, List, length, ℤ, ◌+ℤ◌, ◌≤ℤ◌, ◌<ℤ◌, ap, ◌∙◌, subst, arith}
use lib.Signed.{≤ℤ_refl}
use Rattle.std.proofs.lemmas.Int.{ints}
use Rattle.geometry.specs.Cones.{exposing}
use Rattle.geometry.specs.Exposed.{Exposed, ExposedWithin, cost_range, weight_range}
use Rattle.geometry.specs.Plane.{Pt, dot, Near, nth, In}
use Rattle.geometry.specs.Polygons.{Polygon}
use Rattle.geometry.specs.Support.{support}
use Rattle.geometry.proofs.Convexity.{edges}
use Rattle.geometry.proofs.Corners.{exposes, exposing_near}
use Rattle.geometry.proofs.Inside.{support_inside}
use Rattle.geometry.proofs.Integers.{lin, <ℤ-≤}
use Rattle.geometry.proofs.Least.{Least, support_least, least_support}
use Rattle.geometry.proofs.Members.{in_nth}
use Rattle.geometry.proofs.Pointed.{same_corners}
use Rattle.geometry.proofs.Turning.{same?}

-- a polygon's corners are points of every list with its support
pub corner_in : (pts rs : List Pt) → Polygon rs → support rs ≡ support pts → (p : Pt) → In rs p → In pts p
corner_in pts rs g e = same_corners rs pts (edges rs g.convex) e

-- an exposed point is a corner of every polygon with the support
pub exposed_corner : (pts rs : List Pt) → Polygon rs → support rs ≡ support pts → (p : Pt) → In pts p → Exposed pts p → In rs p
exposed_corner pts rs g e p h x = record { place = l.place; within = l.within; here = go (same? (nth rs l.place) p) }
  where
    below : (s : Pt) → In pts s → Dec (s ≡ p) → dot x.weight p ≤ℤ dot x.weight s
    below s k (yes d) = rw d (≤ℤ_refl (dot x.weight p))
    below s k (no d) = <ℤ-≤ (x.cheaper s k d)

    least_pts : Least pts x.weight (dot x.weight p)
    least_pts = record {
      below = λ i hi. below (nth pts i) (in_nth pts i hi) (same? (nth pts i) p);
      place = h.place;
      within = h.within;
      reached = ap (dot x.weight) h.here;
    }

    l : Least rs x.weight (dot x.weight p)
    l = least_support rs x.weight (dot x.weight p) (ap (λ f. f x.weight) e ∙ support_least pts x.weight (dot x.weight p) least_pts)

    go : Dec (nth rs l.place ≡ p) → nth rs l.place ≡ p
    go (yes d) = d
    go (no d) = absurd (omega (arith, lin, l.reached, x.cheaper (nth rs l.place) (corner_in pts rs g e (nth rs l.place) (in_nth rs l.place l.within)) d))

-- a corner is alone cheapest among the points, at its exposing weight
pub corner_alone : (pts rs : List Pt) → Polygon rs → support rs ≡ support pts → (k : ℕ) → k < length rs → (s : Pt) → In pts s → ¬ (s ≡ nth rs k)
    → dot (exposing rs k) (nth rs k) <ℤ dot (exposing rs k) s
corner_alone pts rs g e k hk s hs n = exposes rs g k hk s (support_inside rs pts e s hs) n

pub corner_exposed : (pts rs : List Pt) → Polygon rs → support rs ≡ support pts → (p : Pt) → In rs p → Exposed pts p
corner_exposed pts rs g e p h =
    subst (Exposed pts) h.here (record { weight = exposing rs h.place; cheaper = corner_alone pts rs g e h.place h.within })

pub near_more : (B M : ℤ) → B ≤ℤ M → (p : Pt) → Near B p → Near M p
near_more B M h p n =
    record { wide = (omega (arith, lin, n.wide.0), omega (arith, lin, n.wide.1)); high = (omega (arith, lin, n.high.0), omega (arith, lin, n.high.1)) }

pub corner_exposed_within : (B M : ℤ) → (B +ℤ B) ≤ℤ M → (pts rs : List Pt) → ((s : Pt) → In pts s → Near B s) → Polygon rs → support rs ≡ support pts
    → (p : Pt) → In rs p → ExposedWithin M pts p
corner_exposed_within B M h pts rs near g e p k = subst (ExposedWithin M pts) k.here (record {
  weight = exposing rs k.place;
  near = near_more (B +ℤ B) M h (exposing rs k.place) (exposing_near B rs (λ i hi. near (nth rs i) (corner_in pts rs g e (nth rs i) (in_nth rs i hi))) k.place k.within);
  cheaper = corner_alone pts rs g e k.place k.within;
})

pub within_exposed : (M : ℤ) (pts : List Pt) (p : Pt) → ExposedWithin M pts p → Exposed pts p
within_exposed M pts p x = record { weight = x.weight; cheaper = x.cheaper }

pub in_range : (cost_range +ℤ cost_range) ≤ℤ weight_range
in_range = omega (arith, ints)

pub exposing_in_range : (ps : List Pt) → ((i : ℕ) → i < length ps → Near cost_range (nth ps i)) → (k : ℕ) → k < length ps
    → Near weight_range (exposing ps k)
exposing_in_range ps near k hk = near_more (cost_range +ℤ cost_range) weight_range in_range (exposing ps k) (exposing_near cost_range ps near k hk)

pub corner_alone_in_range : (pts rs : List Pt) → ((s : Pt) → In pts s → Near cost_range s) → Polygon rs → support rs ≡ support pts → (p : Pt)
    → In rs p → In pts p × ExposedWithin weight_range pts p
corner_alone_in_range pts rs near g e p h = (corner_in pts rs g e p h, corner_exposed_within cost_range weight_range in_range pts rs near g e p h)

pub alone_corner : (pts rs : List Pt) → Polygon rs → support rs ≡ support pts → (p : Pt) → In pts p → ExposedWithin weight_range pts p → In rs p
alone_corner pts rs g e p h x = exposed_corner pts rs g e p h (within_exposed weight_range pts p x)
