-- Sides and lengths of ways between points in reach fit 64 bits, and so do the parts they are computed from.
use Rattle.std.proofs.Common.{◌≡◌, ℕ, ◌≤◌, [], ◌∷◌, ℤ, pos, ◌+ℤ◌, ◌-ℤ◌, ◌*ℤ◌, neg_ℤ, ◌≤ℤ◌, arith, w32, w64, SFits}
use Rattle.std.proofs.lemmas.Int.{ints}
use Rattle.geometry.specs.Exposed.{cost_range}
use Rattle.geometry.specs.Plane.{Pt, dot, away, orient, Near}
use Rattle.geometry.specs.Sums.{add, across}
use Rattle.geometry.proofs.Alone.{near_more}
use Rattle.geometry.proofs.Integers.{lin, mul_nonneg}
use Rattle.geometry.proofs.Reified.{pt, dotE, coords}
use Rattle.geometry.proofs.Ring.{X, ◌⊕◌, ◌⊖◌, ◌⊗◌, ring}

-- within ten million of 0: costs, sums of two costs, and weights are
abbrev pub Reach : ℤ → Type 0
Reach z = (neg_ℤ (pos 10000000) ≤ℤ z) × (z ≤ℤ pos 10000000)

pub reach_within : (n : ℕ) (z : ℤ) → n ≤ 10000000 → (neg_ℤ (pos n) ≤ℤ z) × (z ≤ℤ pos n) → Reach z
reach_within n z l h = (omega (arith, ints, h.0, h.1), omega (arith, ints, h.0, h.1))

pub reach_cost : (z : ℤ) → (neg_ℤ cost_range ≤ℤ z) × (z ≤ℤ cost_range) → Reach z
reach_cost z h = reach_within 1270000 z (omega arith) h

pub reach_fits_32 : (z : ℤ) → Reach z → SFits w32 z
reach_fits_32 z h = omega (arith, ints, h.0, h.1)

pub reach_fits : (z : ℤ) → Reach z → SFits w64 z
reach_fits z h = omega (arith, ints, h.0, h.1)

pub diff_fits : (a b : ℤ) → Reach a → Reach b → SFits w64 (a -ℤ b)
diff_fits a b h k = omega (arith, ints, h.0, h.1, k.0, k.1)

pub add_fits : (a b : ℤ) → Reach a → Reach b → SFits w64 (a +ℤ b)
add_fits a b h k = omega (arith, ints, h.0, h.1, k.0, k.1)

-- |u| ≤ M and |t| ≤ M give |u t| ≤ M M: the four products of M ± u with M ± t are at least 0
pub near_mul : (M u t : ℤ) → (neg_ℤ M ≤ℤ u) × (u ≤ℤ M) → (neg_ℤ M ≤ℤ t) × (t ≤ℤ M) → (neg_ℤ (M *ℤ M) ≤ℤ (u *ℤ t)) × ((u *ℤ t) ≤ℤ (M *ℤ M))
near_mul M u t h k =
    let a = mul_nonneg (M -ℤ u) (M +ℤ t) (omega (arith, lin)) (omega (arith, lin)) in
    let b = mul_nonneg (M +ℤ u) (M -ℤ t) (omega (arith, lin)) (omega (arith, lin)) in
    let c = mul_nonneg (M -ℤ u) (M -ℤ t) (omega (arith, lin)) (omega (arith, lin)) in
    let d = mul_nonneg (M +ℤ u) (M +ℤ t) (omega (arith, lin)) (omega (arith, lin)) in
    let m = X 0 in let x = X 1 in let y = X 2 in
    let e = ring (M ∷ u ∷ t ∷ []) ((m ⊖ x) ⊗ (m ⊕ y) ⊕ (m ⊕ x) ⊗ (m ⊖ y)) (m ⊗ m ⊖ x ⊗ y ⊕ (m ⊗ m ⊖ x ⊗ y)) tt in
    let f = ring (M ∷ u ∷ t ∷ []) ((m ⊖ x) ⊗ (m ⊖ y) ⊕ (m ⊕ x) ⊗ (m ⊕ y)) (m ⊗ m ⊕ x ⊗ y ⊕ (m ⊗ m ⊕ x ⊗ y)) tt in
    (omega (arith, lin), omega (arith, lin))

abbrev Product : ℤ → Type 0
Product z = (neg_ℤ (pos 400000000000000) ≤ℤ z) × (z ≤ℤ pos 400000000000000)

near_diff : (a b : ℤ) → Reach a → Reach b → (neg_ℤ (pos 20000000) ≤ℤ (a -ℤ b)) × ((a -ℤ b) ≤ℤ pos 20000000)
near_diff a b h k = (omega (arith, ints, h.0, h.1, k.0, k.1), omega (arith, ints, h.0, h.1, k.0, k.1))

product : (a b c d : ℤ) → Reach a → Reach b → Reach c → Reach d → Product ((a -ℤ b) *ℤ (c -ℤ d))
product a b c d ha hb hc hd = near_mul (pos 20000000) (a -ℤ b) (c -ℤ d) (near_diff a b ha hb) (near_diff c d hc hd)

pub mul_fits : (a b c d : ℤ) → Reach a → Reach b → Reach c → Reach d → SFits w64 ((a -ℤ b) *ℤ (c -ℤ d))
mul_fits a b c d ha hb hc hd = go ((a -ℤ b) *ℤ (c -ℤ d)) (product a b c d ha hb hc hd)
  where
    go : (z : ℤ) → Product z → SFits w64 z
    go z h = omega (arith, ints, h.0, h.1)

module _ (a b c d e f g h : ℤ) (ha : Reach a) (hb : Reach b) (hc : Reach c) (hd : Reach d) (he : Reach e) (hf : Reach f) (hg : Reach g) (hh : Reach h) where
  pub turn_fits : SFits w64 ((a -ℤ b) *ℤ (c -ℤ d) -ℤ (e -ℤ f) *ℤ (g -ℤ h))
  turn_fits = go ((a -ℤ b) *ℤ (c -ℤ d)) ((e -ℤ f) *ℤ (g -ℤ h)) (product a b c d ha hb hc hd) (product e f g h he hf hg hh)
    where
      go : (y z : ℤ) → Product y → Product z → SFits w64 (y -ℤ z)
      go y z p q = omega (arith, ints, p.0, p.1, q.0, q.1)

  pub sum_fits : SFits w64 ((a -ℤ b) *ℤ (c -ℤ d) +ℤ (e -ℤ f) *ℤ (g -ℤ h))
  sum_fits = go ((a -ℤ b) *ℤ (c -ℤ d)) ((e -ℤ f) *ℤ (g -ℤ h)) (product a b c d ha hb hc hd) (product e f g h he hf hg hh)
    where
      go : (y z : ℤ) → Product y → Product z → SFits w64 (y +ℤ z)
      go y z p q = omega (arith, ints, p.0, p.1, q.0, q.1)

-- the same for points
pub orient_fits : (p q r : Pt) → Near (pos 10000000) p → Near (pos 10000000) q → Near (pos 10000000) r → SFits w64 (orient p q r)
orient_fits p q r hp hq hr =
    turn_fits q.0 p.0 r.1 p.1 q.1 p.1 r.0 p.0 hq.wide hp.wide hr.high hp.high hq.high hp.high hr.wide hp.wide

pub across_fits : (a b c d : Pt) → Near (pos 10000000) a → Near (pos 10000000) b → Near (pos 10000000) c → Near (pos 10000000) d
    → SFits w64 (across a b c d)
across_fits a b c d ha hb hc hd =
    turn_fits b.0 a.0 d.1 c.1 b.1 a.1 d.0 c.0 hb.wide ha.wide hd.high hc.high hb.high ha.high hd.wide hc.wide

pub near_reach : (p : Pt) → Near cost_range p → Near (pos 10000000) p
near_reach p h = near_more cost_range (pos 10000000) (omega (arith, ints)) p h

pub near_add : (M N : ℤ) (p q : Pt) → Near M p → Near N q → Near (M +ℤ N) (add p q)
near_add M N p q h k = record {
  wide = (omega (arith, lin, h.wide.0, k.wide.0), omega (arith, lin, h.wide.1, k.wide.1));
  high = (omega (arith, lin, h.high.0, k.high.0), omega (arith, lin, h.high.1, k.high.1));
}

-- how far s is beyond b on the way from p to b
pub beyond_is : (p b s : Pt) → (b.0 -ℤ p.0) *ℤ (s.0 -ℤ b.0) +ℤ (b.1 -ℤ p.1) *ℤ (s.1 -ℤ b.1) ≡ dot (away p b) s -ℤ dot (away p b) b
beyond_is p b s = let P = pt 0 in let B = pt 1 in let S = pt 2 in let x = B.0 ⊖ P.0 in let y = B.1 ⊖ P.1 in
    ring (coords (p ∷ b ∷ s ∷ [])) (x ⊗ (S.0 ⊖ B.0) ⊕ y ⊗ (S.1 ⊖ B.1)) (dotE (x, y) S ⊖ dotE (x, y) B) tt
