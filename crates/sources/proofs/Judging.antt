-- A filling has one answer: what makes a table is not rejected, and the first thing wrong is one. Assumes nothing.
use Rattle.std.proofs.Common.{◌≡◌, ℕ, List, Ok, Err, Result, sym, ◌∙◌, subst, inl, inr, arith, MatchResult}
use Rattle.std.proofs.lemmas.List.{get_or_read}
use Rattle.std.proofs.lemmas.Bool.{cases_order}
use Rattle.network.specs.declared.record.Record.{Record}
use Rattle.network.specs.declared.fault.Fault.{Fault}
use Rattle.network.specs.declared.fault.Place.TheVariants.{At}
use Rattle.network.specs.Faults.{number, place}
use Rattle.network.specs.Records.{LawfulRecord, Flawed, BadEnds, BadCount, BadRange, BadTwins}
use Rattle.sources.specs.Listed.{entry}
use Rattle.sources.specs.Answers.{Answered}
use Rattle.sources.specs.Filling.{Accepted, Rejected, BadNodes, TooLong, BadRecord, FirstFlaw}
use Rattle.sources.proofs.Answering.{answered_ok, answered_err}

flawless : (n : ℕ) (r : Record) (k : ℕ) → LawfulRecord n r → Flawed n r k → ⊥
flawless n r k h (BadEnds _ f) = f h.rises
flawless n r k h (BadCount _ _ f) = f h.counted
flawless n r k h (BadRange _ _ _ f) = f h.ranged
flawless n r k h (BadTwins _ _ _ _ f) = f h.apart

one_flaw : (n : ℕ) (r : Record) (k l : ℕ) → Flawed n r k → Flawed n r l → k ≡ l
one_flaw n r k l (BadEnds a _) (BadEnds b _) = a ∙ sym b
one_flaw n r k l (BadEnds a f) (BadCount b g _) = absurd (f g)
one_flaw n r k l (BadEnds a f) (BadRange b g _ _) = absurd (f g)
one_flaw n r k l (BadEnds a f) (BadTwins b g _ _ _) = absurd (f g)
one_flaw n r k l (BadCount a g _) (BadEnds b f) = absurd (f g)
one_flaw n r k l (BadCount a _ _) (BadCount b _ _) = a ∙ sym b
one_flaw n r k l (BadCount a _ f) (BadRange b _ g _) = absurd (f g)
one_flaw n r k l (BadCount a _ f) (BadTwins b _ g _ _) = absurd (f g)
one_flaw n r k l (BadRange a g _ _) (BadEnds b f) = absurd (f g)
one_flaw n r k l (BadRange a _ g _) (BadCount b _ f) = absurd (f g)
one_flaw n r k l (BadRange a _ _ _) (BadRange b _ _ _) = a ∙ sym b
one_flaw n r k l (BadRange a _ _ f) (BadTwins b _ _ g _) = absurd (f g)
one_flaw n r k l (BadTwins a g _ _ _) (BadEnds b f) = absurd (f g)
one_flaw n r k l (BadTwins a _ g _ _) (BadCount b _ f) = absurd (f g)
one_flaw n r k l (BadTwins a _ _ g _) (BadRange b _ _ f) = absurd (f g)
one_flaw n r k l (BadTwins a _ _ _ _) (BadTwins b _ _ _ _) = a ∙ sym b

flawed_entry : (n : ℕ) (rs : List Record) (k p : ℕ) → FirstFlaw n rs k p → Flawed n (entry rs p) k
flawed_entry n rs k p h = subst (λ r. Flawed n r k) (get_or_read rs p h.listed h.within h.stands _) h.flawed

-- of two first flaws neither comes before the other
one_first : (n : ℕ) (rs : List Record) (k p l q : ℕ) → FirstFlaw n rs k p → FirstFlaw n rs l q → (k ≡ l) × (p ≡ q)
one_first n rs k p l q a b =
    let f = flawed_entry n rs k p a in
    let g = flawed_entry n rs l q b in
    elim (cases_order p q) [
      | inl e ↦ (one_flaw n (entry rs q) k l (subst (λ i. Flawed n (entry rs i) k) e f) g, e)
      | inr o ↦ elim o [
        | inl s ↦ absurd (flawless n (entry rs p) k (b.before p s) f)
        | inr s ↦ absurd (flawless n (entry rs q) l (a.before q s) g)
      ]
    ]

one_rejection : (n : ℕ) (rs : List Record) (k p l q : ℕ) → Rejected n rs k p → Rejected n rs l q → (k ≡ l) × (p ≡ q)
one_rejection n rs k p l q (BadNodes a i _) (BadNodes b j _) = (a ∙ sym b, i ∙ sym j)
one_rejection n rs k p l q (BadNodes a i f) (TooLong b j g _) = absurd (f g)
one_rejection n rs k p l q (BadNodes a i f) (BadRecord g _ _) = absurd (f g)
one_rejection n rs k p l q (TooLong a i g _) (BadNodes b j f) = absurd (f g)
one_rejection n rs k p l q (TooLong a i _ _) (TooLong b j _ _) = (a ∙ sym b, i ∙ sym j)
one_rejection n rs k p l q (TooLong a i _ g) (BadRecord _ s _) = absurd (omega arith)
one_rejection n rs k p l q (BadRecord g _ _) (BadNodes b j f) = absurd (f g)
one_rejection n rs k p l q (BadRecord _ s _) (TooLong b j _ g) = absurd (omega arith)
one_rejection n rs k p l q (BadRecord _ _ x) (BadRecord _ _ y) = one_first n rs k p l q x y

accepted_whole : (n : ℕ) (rs : List Record) (k p : ℕ) → Accepted n rs → Rejected n rs k p → ⊥
accepted_whole n rs k p h (BadNodes _ _ f) = f h.counted
accepted_whole n rs k p h (TooLong _ _ _ g) = omega (arith, h.short)
accepted_whole n rs k p h (BadRecord _ _ x) = flawless n (entry rs p) k (h.lawful p x.within) (flawed_entry n rs k p x)

-- what was found is the answer
pub answered_records : (n : ℕ) (rs : List Record) (r : Result (Unit {0}) Fault) → MatchResult r (λ _. Accepted n rs) (λ f. (p : ℕ) × (place f ≡ At p) × Rejected n rs (number f) p) → Answered (Accepted n rs) (Rejected n rs) r
answered_records n rs (Ok u) h = answered_ok _ _ u h (λ k p. accepted_whole n rs k p h)
answered_records n rs (Err f) h =
    answered_err _ _ f h.0 h.1 h.2 (λ a. accepted_whole n rs (number f) h.0 a h.2) (one_rejection n rs (number f) h.0)
