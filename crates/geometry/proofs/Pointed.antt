-- Each corner of a polygon is least at two weights that are not on a line: the rays of its two edges, or with two
-- corners a ray and the way to the other. A point that is no dearer at both is that corner, so at the sum of the two
-- weights no other point attains the least, and the corner stands in every list of the same support.
use Rattle.std.proofs.Common.{◌≡◌, ℕ, zero, suc, ◌<◌, ◌⊎◌, List, [], ◌∷◌, length, pos, ◌+ℤ◌, ◌-ℤ◌, ◌*ℤ◌, ◌≤ℤ◌, ◌<ℤ◌, sym, refl, ap, ◌∙◌, subst, arith}
use native.Mathlib.Decide.{dec_lt, ℕ_discrete}
use lib.Signed.{≤ℤ_refl}
use Rattle.geometry.specs.Plane.{Pt, dot, away, nth, In}
use Rattle.geometry.specs.Polygons.{after, before, Edges, ray}
use Rattle.geometry.specs.Sums.{add}
use Rattle.geometry.specs.Support.{support}
use Rattle.geometry.proofs.Convexity.{weak}
use Rattle.geometry.proofs.Integers.{lin, mul_cancel-≡}
use Rattle.geometry.proofs.Least.{Least, support_least, least_support}
use Rattle.geometry.proofs.Rays.{ray_start, ray_end, det, ray_det, size, away_det, away_cost, size_pos}
use Rattle.geometry.proofs.Reified.{pt, dotE, coords}
use Rattle.geometry.proofs.Ring.{◌⊕◌, ◌⊖◌, ◌⊗◌, ring}
use Rattle.geometry.proofs.Round.{round, before_in, after_before}
use Rattle.geometry.proofs.Turning.{on_end}

-- p is least at two weights that are not on a line
pub record Pointed (ps : List Pt) (p : Pt) : Type 0 where
  pub one : Pt
  pub two : Pt
  pub apart : pos 0 <ℤ det one two
  pub first : Least ps one (dot one p)
  pub second : Least ps two (dot two p)
  pub among : In ps p

pub add_dot : (a b p : Pt) → dot (add a b) p ≡ dot a p +ℤ dot b p
add_dot a b p = let A = pt 0 in let B = pt 1 in let P = pt 2 in
    ring (coords (a ∷ b ∷ p ∷ [])) (dotE (A.0 ⊕ B.0, A.1 ⊕ B.1) P) (dotE A P ⊕ dotE B P) tt

cramer_x : (a b p : Pt) → det a b *ℤ p.0 ≡ b.1 *ℤ dot a p -ℤ a.1 *ℤ dot b p
cramer_x a b p = let A = pt 0 in let B = pt 1 in let P = pt 2 in
    ring (coords (a ∷ b ∷ p ∷ [])) ((A.0 ⊗ B.1 ⊖ A.1 ⊗ B.0) ⊗ P.0) (B.1 ⊗ dotE A P ⊖ A.1 ⊗ dotE B P) tt

cramer_y : (a b p : Pt) → det a b *ℤ p.1 ≡ a.0 *ℤ dot b p -ℤ b.0 *ℤ dot a p
cramer_y a b p = let A = pt 0 in let B = pt 1 in let P = pt 2 in
    ring (coords (a ∷ b ∷ p ∷ [])) ((A.0 ⊗ B.1 ⊖ A.1 ⊗ B.0) ⊗ P.1) (A.0 ⊗ dotE B P ⊖ B.0 ⊗ dotE A P) tt

pub same_point : (a b p q : Pt) → pos 0 <ℤ det a b → dot a q ≡ dot a p → dot b q ≡ dot b p → q ≡ p
same_point a b p q h e f = λ i. (x i, y i)
  where
    x : q.0 ≡ p.0
    x = mul_cancel-≡ (det a b) q.0 p.0 h (cc (cramer_x a b p, cramer_x a b q))

    y : q.1 ≡ p.1
    y = mul_cancel-≡ (det a b) q.1 p.1 h (cc (cramer_y a b p, cramer_y a b q))

-- the one point that is no dearer than p at a and at b, and as dear at their sum
only : (a b p q : Pt) → pos 0 <ℤ det a b → dot a p ≤ℤ dot a q → dot b p ≤ℤ dot b q → dot (add a b) q ≡ dot (add a b) p → q ≡ p
only a b p q h f g e =
    let x = add_dot a b p in
    let y = add_dot a b q in
    same_point a b p q h (omega (arith, lin)) (omega (arith, lin))

pub found : (ps qs : List Pt) (p : Pt) → support ps ≡ support qs → Pointed ps p → In qs p
found ps qs p e c =
    let l = over w at_sum in
    record {
      place = l.place;
      within = l.within;
      here = only c.one c.two p (nth qs l.place) c.apart ((over c.one c.first).below l.place l.within) ((over c.two c.second).below l.place l.within) l.reached;
    }
  where
    w : Pt
    w = add c.one c.two

    over : (w : Pt) → Least ps w (dot w p) → Least qs w (dot w p)
    over w l = least_support qs w (dot w p) (sym (ap (λ f. f w) e) ∙ support_least ps w (dot w p) l)

    at_sum : Least ps w (dot w p)
    at_sum = record {
      below = λ i h. let f = c.first.below i h in let g = c.second.below i h in
          omega (arith, lin, add_dot c.one c.two p, add_dot c.one c.two (nth ps i));
      place = c.among.place;
      within = c.among.within;
      reached = ap (dot w) c.among.here;
    }

pub pointed_many : (ps : List Pt) → Edges ps → (j : ℕ) → j < length ps → 2 < length ps → Pointed ps (nth ps j)
pointed_many ps c j hj n3 =
    let i = before (length ps) j in
    make i (before_in (length ps) j hj) (after_before (length ps) j hj) (after (length ps) j) refl (round (length ps) i j (before_in (length ps) j hj) (after_before (length ps) j hj)) (round (length ps) j (after (length ps) j) hj refl)
  where
    make : (i : ℕ) → i < length ps → after (length ps) i ≡ j → (m : ℕ) → after (length ps) j ≡ m
        → ((j ≡ suc i) × (suc i < length ps)) ⊎ ((j ≡ 0) × (length ps ≡ suc i))
        → ((m ≡ suc j) × (suc j < length ps)) ⊎ ((m ≡ 0) × (length ps ≡ suc j)) → Pointed ps (nth ps j)
    make i hi ij m jm r s = record {
      one = ray (nth ps i) (nth ps j);
      two = ray (nth ps j) (nth ps m);
      apart = rw (ray_det (nth ps i) (nth ps j) (nth ps m)) (c.inside i j m hi ij (omega arith) (omega arith) (omega arith)).left;
      first = record { below = λ t ht. omega (arith, lin, ray_end (nth ps i) (nth ps j) (nth ps t), weak ps c i j t hi ij ht); place = j; within = hj; reached = refl };
      second = record { below = λ t ht. omega (arith, lin, ray_start (nth ps j) (nth ps m) (nth ps t), weak ps c j m t hj jm ht); place = j; within = hj; reached = refl };
      among = record { place = j; within = hj; here = refl };
    }

pointed_two : (ps : List Pt) (i j : ℕ) → i < length ps → j < length ps → length ps ≡ 2 → ¬ (i ≡ j) → ¬ (nth ps j ≡ nth ps i) → Pointed ps (nth ps j)
pointed_two ps i j hi hj n ij ne = record {
  one = away p q;
  two = ray p q;
  apart = rw (away_det p q) d;
  first = record { below = λ t ht. one_of t ht (λ r. dot (away p q) p ≤ℤ dot (away p q) r) (≤ℤ_refl (dot (away p q) p)) (omega (arith, lin, away_cost p q, d)); place = j; within = hj; reached = refl };
  second = record { below = λ t ht. one_of t ht (λ r. dot (ray p q) p ≤ℤ dot (ray p q) r) (≤ℤ_refl (dot (ray p q) p)) (omega (arith, lin, ray_start p q q, on_end p q)); place = j; within = hj; reached = refl };
  among = record { place = j; within = hj; here = refl };
}
  where
    p : Pt
    p = nth ps j

    q : Pt
    q = nth ps i

    d : pos 0 <ℤ size p q
    d = size_pos p q ne

    one_of : (t : ℕ) → t < length ps → (P : Pt → Type 0) → P p → P q → P (nth ps t)
    one_of t ht P a b = go (ℕ_discrete t j)
      where
        go : Dec (t ≡ j) → P (nth ps t)
        go (yes e) = rw e a
        go (no f) = let e : t ≡ i = omega arith in rw e b

pointed_one : (ps : List Pt) (j : ℕ) → j < length ps → length ps ≡ 1 → Pointed ps (nth ps j)
pointed_one ps j hj n = record {
  one = (pos 1, pos 0);
  two = (pos 0, pos 1);
  apart = record { lt = tt };
  first = all (pos 1, pos 0);
  second = all (pos 0, pos 1);
  among = record { place = j; within = hj; here = refl };
}
  where
    all : (w : Pt) → Least ps w (dot w (nth ps j))
    all w = record { below = λ t ht. let e : t ≡ j = omega arith in rw e (≤ℤ_refl (dot w (nth ps j))); place = j; within = hj; reached = refl }

pub pointed : (ps : List Pt) → Edges ps → (j : ℕ) → j < length ps → Pointed ps (nth ps j)
pointed ps c j hj = go (dec_lt 2 (length ps)) (ℕ_discrete (length ps) 2)
  where
    go : Dec (2 < length ps) → Dec (length ps ≡ 2) → Pointed ps (nth ps j)
    go (yes l) d = pointed_many ps c j hj l
    go (no l) (yes e) = two j hj
      where
        two : (j : ℕ) → j < length ps → Pointed ps (nth ps j)
        two zero h = pointed_two ps 1 0 (omega arith) h e (omega arith) (c.apart 0 1 (omega arith) (omega arith))
        two (suc zero) h = pointed_two ps 0 1 (omega arith) h e (omega arith) (λ f. c.apart 0 1 (omega arith) (omega arith) (sym f))
        two (suc (suc j)) h = absurd (omega arith)
    go (no l) (no d) = pointed_one ps j hj (omega arith)

-- polygons of one meaning have the same corners
pub same_corners : (ps qs : List Pt) → Edges ps → support ps ≡ support qs → (p : Pt) → In ps p → In qs p
same_corners ps qs c e p h = subst (In qs) h.here (found ps qs (nth ps h.place) e (pointed ps c h.place h.within))
