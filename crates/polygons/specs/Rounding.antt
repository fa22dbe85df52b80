-- A struct's polygon is a polygon, and back.
use Rattle.std.specs.Prelude.{◌≡◌, ℕ, ◌≤◌, ◌⊎◌, List, length, take, ◌≤ℤ◌, ◌<ℤ◌}
use Rattle.std.proofs.Common.{arith, ◌∙◌, inl, inr}
use Rattle.std.proofs.lemmas.List.{length-take-le, length-map}
use Rattle.std.proofs.lemmas.Int.{by_lt_z}
use Rattle.network.specs.declared.cost.Cost.{Cost}
use Rattle.geometry.specs.Plane.{Pt, Lex, nth}
use Rattle.geometry.specs.Polygons.{Polygon as Rounded}
use Rattle.geometry.proofs.Integers.{lin}
use Rattle.polygons.specs.declared.polygon.Polygon.{Polygon}
use Rattle.polygons.specs.Corners.{corner_list}
use Rattle.polygons.specs.Points.{place, places}
use Rattle.polygons.specs.Rounds.{Turns, Apart, Leftmost, Lowest}

lex_of : (p q : Pt) → p.0 ≤ℤ q.0 → (p.0 ≡ q.0 → p.1 <ℤ q.1) → Lex p q
lex_of p q a b = by_lt_z p.0 q.0 (λ l. record { lex = inl l }) (λ l. let e : p.0 ≡ q.0 = omega (arith, lin) in record { lex = inr (e, b e) })

lex_left : (p q : Pt) → Lex p q → p.0 ≤ℤ q.0
lex_left p q l = go l.lex
  where
    go : (p.0 <ℤ q.0) ⊎ ((p.0 ≡ q.0) × (p.1 <ℤ q.1)) → p.0 ≤ℤ q.0
    go (inl h) = omega (arith, lin)
    go (inr (e, h)) = omega (arith, lin)

lex_low : (p q : Pt) → Lex p q → p.0 ≡ q.0 → p.1 <ℤ q.1
lex_low p q l e = go l.lex
  where
    go : (p.0 <ℤ q.0) ⊎ ((p.0 ≡ q.0) × (p.1 <ℤ q.1)) → p.1 <ℤ q.1
    go (inl h) = absurd (omega (arith, lin))
    go (inr (_, h)) = h

-- what a struct holds, together
pub rounded : (ps : List Pt) → Turns ps → Apart ps → Leftmost ps → Lowest ps → Rounded ps
rounded ps t a l m = record {
  convex = record { turns = λ i j k u v h. record { left = t i j k (u, v, h) }; apart = λ i j u h. a i j (u, h) };
  start = λ i u h. lex_of (nth ps 0) (nth ps i) (l i (u, h)) (m i (u, h));
}

pub polygon_of : (p : Polygon) → Rounded (corner_list p)
polygon_of p = rounded (corner_list p) p.turns p.apart p.leftmost p.lowest

-- and part by part
pub turns_of : (ps : List Pt) → Rounded ps → Turns ps
turns_of ps g i j k (u, v, h) = (g.convex.turns i j k u v h).left

pub apart_of : (ps : List Pt) → Rounded ps → Apart ps
apart_of ps g i j (u, h) = g.convex.apart i j u h

pub leftmost_of : (ps : List Pt) → Rounded ps → Leftmost ps
leftmost_of ps g i (u, h) = lex_left (nth ps 0) (nth ps i) (g.start i u h)

pub lowest_of : (ps : List Pt) → Rounded ps → Lowest ps
lowest_of ps g i (u, h) = lex_low (nth ps 0) (nth ps i) (g.start i u h)

pub listed_of : (cs : List Cost) (n : ℕ) → n ≤ 32 → length cs ≡ 32 → length (places (take n cs)) ≡ n
listed_of cs n h e = length-map (take n cs) place ∙ length-take-le n cs (omega arith)
