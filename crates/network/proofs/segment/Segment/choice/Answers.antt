use Rattle.std.proofs.Common.{◌≡◌, ◌<◌, length, slice_index_or, sym, subst, ap, ◌∙◌, arith, rules, tests}
use Rattle.std.proofs.lemmas.List.{get_or_default, length-take}
use Rattle.network.specs.Choices.{InRange, choice, choices}
use Rattle.network.proofs.segment.Segment.choice.Goals as goal
use Rattle.network.proofs.segment.Segment.choice.Goals.{In_ok-size}

below : (c : In_ok-size) → c.args.k < length (choices c.args.self.now.listed)
below c = search (rules, tests)

named : (c : In_ok-size) → c.in_ok-size.size.now ≡ choice (choices c.args.self.now.listed) c.args.k
named c =
    c.in_ok-size.ensures.lookup.1 ∙ ap (λ zs. slice_index_or zs c.args.k c.in_ok-size.size.now) c.choices.ensures
    ∙ get_or_default (choices c.args.self.now.listed) c.args.k _ _ (below c)

pub invariant_of-result : goal.invariant_of-result
invariant_of-result c =
    let r = subst InRange (sym (named c.before)) (c.args.self.now.ranged c.args.k (below c.before)) in
    record { price_within = r.0; pressure_within = r.1 }

pub returns : goal.returns
returns c = (omega (arith, length-take c.args.self.now.listed.count c.args.self.now.listed.sizes, below c.before.before), named c.before.before)
