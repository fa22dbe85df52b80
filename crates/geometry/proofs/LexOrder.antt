-- The order of points from left to right, and then upward.
use Rattle.std.proofs.Common.{◌≡◌, ◌⊎◌, ℤ, ◌+ℤ◌, ◌<ℤ◌, sym, subst, ap₂, subst₂, inl, inr, arith}
use lib.IntN.{ℤ_discrete}
use Rattle.std.proofs.lemmas.Int.{by_lt_z}
use Rattle.geometry.specs.Plane.{Pt, Lex}
use Rattle.geometry.specs.Sums.{add}
use Rattle.geometry.proofs.Integers.{lin}
use Rattle.geometry.proofs.Sums.{add_comm}

pub lex_asym : (p q : Pt) → Lex p q → Lex q p → ⊥
lex_asym p q a b = omega (arith, lin, a.lex, b.lex)

pub lex_trans : (p q r : Pt) → Lex p q → Lex q r → Lex p r
lex_trans p q r a b = record { lex = go a.lex b.lex }
  where
    go : (p.0 <ℤ q.0) ⊎ ((p.0 ≡ q.0) × (p.1 <ℤ q.1)) → (q.0 <ℤ r.0) ⊎ ((q.0 ≡ r.0) × (q.1 <ℤ r.1))
        → (p.0 <ℤ r.0) ⊎ ((p.0 ≡ r.0) × (p.1 <ℤ r.1))
    go (inl k) (inl l) = inl (omega (arith, lin))
    go (inl k) (inr l) = inl (omega (arith, lin))
    go (inr k) (inl l) = inl (omega (arith, lin))
    go (inr k) (inr l) = inr (omega (arith, lin), omega (arith, lin))

-- of two points one is the lesser, or they are one
pub lex_total : (p q : Pt) → ¬ (Lex p q) → (p ≡ q) ⊎ Lex q p
lex_total p q n = go (ℤ_discrete p.0 q.0) (ℤ_discrete p.1 q.1)
  where
    less : (a b : ℤ) → ¬ (a ≡ b) → ¬ (a <ℤ b) → b <ℤ a
    less a b d h = by_lt_z b a (λ k. k) (λ k. by_lt_z a b (λ m. absurd (h m)) (λ m. absurd (d (omega (arith, lin)))))

    go : Dec (p.0 ≡ q.0) → Dec (p.1 ≡ q.1) → (p ≡ q) ⊎ Lex q p
    go (yes e) (yes f) = inl (λ i. (e i, f i))
    go (yes e) (no f) = inr (record { lex = inr (sym e, less p.1 q.1 f (λ h. n (record { lex = inr (e, h) }))) })
    go (no e) f = inr (record { lex = inl (less p.0 q.0 e (λ h. n (record { lex = inl h }))) })

pub lex_shift : (p q s : Pt) → Lex p q → Lex (add p s) (add q s)
lex_shift p q s l = record { lex = go l.lex }
  where
    go : (p.0 <ℤ q.0) ⊎ ((p.0 ≡ q.0) × (p.1 <ℤ q.1))
        → ((p.0 +ℤ s.0) <ℤ (q.0 +ℤ s.0)) ⊎ ((p.0 +ℤ s.0 ≡ q.0 +ℤ s.0) × ((p.1 +ℤ s.1) <ℤ (q.1 +ℤ s.1)))
    go (inl k) = inl (omega (arith, lin))
    go (inr k) = inr (omega (arith, lin), omega (arith, lin))

-- sums of points that are no less are no less
pub lex_add : (a b p q : Pt) → (p ≡ a) ⊎ Lex a p → (q ≡ b) ⊎ Lex b q → (add p q ≡ add a b) ⊎ Lex (add a b) (add p q)
lex_add a b p q (inl e) (inl f) = inl (ap₂ add e f)
lex_add a b p q (inr e) (inl f) = inr (subst (λ z. Lex (add a b) (add p z)) (sym f) (lex_shift a p b e))
lex_add a b p q (inl e) (inr f) = inr (subst (λ z. Lex (add a b) (add z q)) (sym e) (subst₂ Lex (add_comm b a) (add_comm q a) (lex_shift b q a f)))
lex_add a b p q (inr e) (inr f) =
    inr (lex_trans (add a b) (add p b) (add p q) (lex_shift a p b e) (subst₂ Lex (add_comm b p) (add_comm q p) (lex_shift b q p f)))
