use Rattle.std.proofs.Common.{◌≤◌, All, subst, sym, refl, rules, tests}
use Rattle.std.proofs.lemmas.Bool.Decides.{not_from_Decides}
use Rattle.network.specs.Choices.{InRange, Apart, choices}
use Rattle.network.specs.Records.{BadRange, BadTwins}
use Rattle.network.proofs.SizeLists.{all_choices}
use Rattle.network.proofs.record.Record.check.Goals as goal

pub returns-then-not-all_within : goal.returns-then-not-all_within
returns-then-not-all_within c =
    let counted : (1 ≤ c.args.self.now.count) × (c.args.self.now.count ≤ 8) = search (rules, tests) in
    (BadRange refl (c.if-self.false, c.if-self-nodes.false) counted (λ h. not_from_Decides _ c.all_within.ensures c.if-not-all_within.true (subst (All InRange) (sym c.choices.ensures) (all_choices InRange (choices c.args.self.now) h))), refl)

pub returns-then-not-all_apart : goal.returns-then-not-all_apart
returns-then-not-all_apart c =
    let counted : (1 ≤ c.args.self.now.count) × (c.args.self.now.count ≤ 8) = search (rules, tests) in
    let ranged = subst (All InRange) c.choices.ensures (c.all_within.ensures.0 c.if-not-all_within.false) in
    let twins : Apart (choices c.args.self.now) → ⊥ = λ h. not_from_Decides _ c.all_apart.ensures c.if-not-all_apart.true (subst Apart (sym c.choices-2.ensures) h) in
    (BadTwins refl (c.if-self.false, c.if-self-nodes.false) counted (λ k l. ranged k _ l) twins, refl)
