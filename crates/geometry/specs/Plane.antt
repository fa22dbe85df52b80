-- Points of the plane, weights, and which side of a way a point lies on. Assumes nothing.
use Rattle.std.specs.Prelude.{◌≡◌, ℕ, ◌<◌, ◌⊎◌, List, length, ℤ, pos, ◌+ℤ◌, ◌-ℤ◌, ◌*ℤ◌, neg_ℤ, ◌≤ℤ◌, ◌<ℤ◌, slice_index_or}

-- a point is a cost, price and pressure; a weight is a pair too
abbrev pub Pt : Type 0
Pt = ℤ × ℤ

-- what p costs at the weight w
abbrev pub dot : Pt → Pt → ℤ
dot w p = w.0 *ℤ p.0 +ℤ w.1 *ℤ p.1

-- the way from p to q
abbrev pub away : Pt → Pt → Pt
away p q = (q.0 -ℤ p.0, q.1 -ℤ p.1)

-- twice the signed area of the triangle p q r: above 0 where r is to the left of the way from p to q
abbrev pub orient : Pt → Pt → Pt → ℤ
orient p q r = (q.0 -ℤ p.0) *ℤ (r.1 -ℤ p.1) -ℤ (q.1 -ℤ p.1) *ℤ (r.0 -ℤ p.0)

pub record Left (p q r : Pt) : Type 0 where
  pub left : pos 0 <ℤ orient p q r

-- s is on the straight way from p to q
pub record Between (p s q : Pt) : Type 0 where
  pub level : orient p q s ≡ pos 0
  pub past : dot (away p q) p ≤ℤ dot (away p q) s
  pub short : dot (away p q) s ≤ℤ dot (away p q) q

-- p stands left of q, or straight below it
pub record Lex (p q : Pt) : Type 0 where
  pub lex : (p.0 <ℤ q.0) ⊎ ((p.0 ≡ q.0) × (p.1 <ℤ q.1))

-- both parts lie within M of 0
pub record Near (M : ℤ) (p : Pt) : Type 0 where
  pub wide : (neg_ℤ M ≤ℤ p.0) × (p.0 ≤ℤ M)
  pub high : (neg_ℤ M ≤ℤ p.1) × (p.1 ≤ℤ M)

abbrev pub nth : List Pt → ℕ → Pt
nth ps i = slice_index_or ps i (pos 0, pos 0)

-- p is one of ps
pub record In (ps : List Pt) (p : Pt) : Type 0 where
  pub place : ℕ
  pub within : place < length ps
  pub here : nth ps place ≡ p
