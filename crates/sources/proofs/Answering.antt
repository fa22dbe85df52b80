-- When a call that finds the first thing wrong has answered. Assumes nothing.
use Rattle.std.proofs.Common.{◌≡◌, ℕ, Ok, Err, subst}
use Rattle.network.specs.declared.fault.Fault.{Fault}
use Rattle.network.specs.declared.fault.Place.{Place}
use Rattle.network.specs.declared.fault.Place.TheVariants.{At}
use Rattle.network.specs.Faults.{number, place}
use Rattle.sources.specs.Answers.{Answered}

same_place : (p q : ℕ) (a : Place) → a ≡ At p → a ≡ At q → p ≡ q
same_place p q a h i = cc

module _ (Right : Type 0) (Wrong : ℕ → ℕ → Type 0) where
  pub answered_ok : (u : Unit {0}) → Right → ((k p : ℕ) → Wrong k p → ⊥) → Answered Right Wrong (Ok u)
  answered_ok u h no_wrong = record {
    accepts = λ _. h;
    accepted = λ _. tt;
    refuses = λ k p f. absurd f;
    refused = λ k p f. no_wrong k p f;
  }

  -- the fault is the first thing wrong, and there is no other
  pub answered_err : (f : Fault) (p : ℕ) → place f ≡ At p → Wrong (number f) p → (Right → ⊥) → ((k q : ℕ) → Wrong (number f) p → Wrong k q → (number f ≡ k) × (p ≡ q)) → Answered Right Wrong (Err f)
  answered_err f p e h not_right alone = record {
    accepts = λ a. absurd a;
    accepted = λ a. absurd (not_right a);
    refuses = λ k q r. subst (λ i. Wrong i q) r.0 (subst (Wrong (number f)) (same_place p q (place f) e r.1) h);
    refused = λ k q r. let s = alone k q h r in (s.0, subst (λ i. place f ≡ At i) s.1 e);
  }
