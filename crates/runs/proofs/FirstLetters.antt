-- The joined letters of a segment, turn by turn. Assumes nothing.
use Rattle.std.proofs.Common.{◌≡◌, ℕ, ◌+◌, ◌<◌, ◌≤◌, List, map, length, take, sym, refl, ap, ◌∙◌, subst, arith, below_more}
use Rattle.std.proofs.lemmas.List.{take_all}
use Rattle.network.specs.declared.size.Size.{Size}
use Rattle.network.specs.Choices.{choice}
use Rattle.network.specs.Networks.{Arc}
use Rattle.algebra.specs.Semirings.{Algebra, Semiring}
use Rattle.algebra.specs.Values.{joined, LettersFit}
use Rattle.algebra.specs.Enumerated.{letters}
use Rattle.algebra.proofs.Joins.{joined_turn}

-- the first k letters, joined
abbrev pub first : (A : Algebra) → List Size → ℕ → A.Carrier
first A zs k = joined A (map A.letter (take k zs))

-- x is the join of the first i letters, and so is each join before it that fits
abbrev pub Sofar : (A : Algebra) → List Size → ℕ → A.Carrier → Type 0
Sofar A zs i x = (x ≡ first A zs i) × ((k : ℕ) → k < i + 1 → A.fits (first A zs k))

module _ {A : Algebra} (laws : Semiring A) (a : Arc) where
  pub begin : {x : A.Carrier} → x ≡ A.zero → A.fits A.zero → Sofar A a.sizes 0 x
  begin e fit = (e, λ k l. let none : 0 ≡ k = omega arith in subst (λ n. A.fits (first A a.sizes n)) none fit)

  pub turn : (i : ℕ) {sum more new : A.Carrier} → new ≡ A.join sum more → A.fits new → Sofar A a.sizes i sum → more ≡ A.letter (choice a.sizes i) → i < length a.sizes → Sofar A a.sizes (i + 1) new
  turn i n fit so m h =
      let e = joined_turn laws A.letter a.sizes i _ n so.0 m h in
      (e, below_more (λ k. A.fits (first A a.sizes k)) (i + 1) so.1 (subst A.fits e fit))

  pub stuck : (i : ℕ) {sum more : A.Carrier} → (A.fits (A.join sum more) → ⊥) → Sofar A a.sizes i sum → more ≡ A.letter (choice a.sizes i) → i < length a.sizes → LettersFit A a → ⊥
  stuck i misfit so m h fit =
      let e = joined_turn laws A.letter a.sizes i _ refl so.0 m h in
      misfit (subst A.fits (sym e) (fit (i + 1) (omega arith)))

  pub done : (i : ℕ) {x : A.Carrier} → length a.sizes ≤ i → Sofar A a.sizes i x → (x ≡ letters A a) × LettersFit A a
  done i h so =
      (so.0 ∙ ap (λ zs. joined A (map A.letter zs)) (take_all i a.sizes h), λ k l. so.1 k (omega arith))
