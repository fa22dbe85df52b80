-- Tests of points: equal, different, in order, and among others. Assumes nothing.
use Rattle.std.proofs.Common.{◌≡◌, Bool, true, false, ◌&&◌, ◌||◌, List, [], ◌∷◌, ℤ, sym, ap, subst, inl, inr, arith}
use lib.Signed.{lt_z, le_z}
use Rattle.std.proofs.lemmas.Int.{ints}
use Rattle.std.proofs.lemmas.Bool.{and_parts, or_cases, false≢true}
use Rattle.geometry.specs.Plane.{Pt, In, Lex}
use Rattle.geometry.proofs.Integers.{≤ℤ_antisym}
use Rattle.geometry.proofs.Members.{in_tail, here0}
use Rattle.samples.proofs.Tests.{le_passed, lt_passed}

-- equal numbers
abbrev pub level? : ℤ → ℤ → Bool
level? a b = le_z a b && le_z b a

pub level_passed : (a b : ℤ) → level? a b ≡ true → a ≡ b
level_passed a b t = let both = and_parts (le_z a b) (le_z b a) t in ≤ℤ_antisym (le_passed a b both.0) (le_passed b a both.1)

abbrev pub same? : Pt → Pt → Bool
same? p q = level? p.0 q.0 && level? p.1 q.1

pub same_passed : (p q : Pt) → same? p q ≡ true → p ≡ q
same_passed p q t =
    let both = and_parts (level? p.0 q.0) (level? p.1 q.1) t in
    λ i. (level_passed p.0 q.0 both.0 i, level_passed p.1 q.1 both.1 i)

-- p stands left of q, or straight below it
abbrev pub lex? : Pt → Pt → Bool
lex? p q = lt_z p.0 q.0 || (level? p.0 q.0 && lt_z p.1 q.1)

pub lex_passed : (p q : Pt) → lex? p q ≡ true → Lex p q
lex_passed p q t =
    elim (or_cases (lt_z p.0 q.0) (level? p.0 q.0 && lt_z p.1 q.1) t) [
      | inl l ↦ record { lex = inl (lt_passed p.0 q.0 l) }
      | inr m ↦
          let both = and_parts (level? p.0 q.0) (lt_z p.1 q.1) m in
          record { lex = inr (level_passed p.0 q.0 both.0, lt_passed p.1 q.1 both.1) }
    ]

-- different points: one of them comes first
abbrev pub apart? : Pt → Pt → Bool
apart? p q = lex? p q || lex? q p

lex_apart : (p q : Pt) → Lex p q → p ≡ q → ⊥
lex_apart p q h e =
    let x : p.0 ≡ q.0 = ap (λ (r : Pt). r.0) e in
    let y : p.1 ≡ q.1 = ap (λ (r : Pt). r.1) e in
    elim h.lex [ inl l ↦ omega (arith, ints, l) | inr m ↦ omega (arith, ints, m.1) ]

pub apart_passed : (p q : Pt) → apart? p q ≡ true → p ≡ q → ⊥
apart_passed p q t e =
    elim (or_cases (lex? p q) (lex? q p) t) [
      | inl l ↦ lex_apart p q (lex_passed p q l) e
      | inr l ↦ lex_apart q p (lex_passed q p l) (sym e)
    ]

-- p is one of the points
abbrev pub among? : List Pt → Pt → Bool
among? [] p = false
among? (q ∷ qs) p = same? q p || among? qs p

pub among_passed : (qs : List Pt) (p : Pt) → among? qs p ≡ true → In qs p
among_passed [] p t = absurd (false≢true t)
among_passed (q ∷ qs) p t =
    elim (or_cases (same? q p) (among? qs p) t) [
      | inl s ↦ subst (In (q ∷ qs)) (same_passed q p s) (here0 q qs)
      | inr m ↦ in_tail (among_passed qs p m)
    ]
