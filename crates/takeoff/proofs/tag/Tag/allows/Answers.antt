use Rattle.std.proofs.Common.{◌%◌, ◌≤◌, eqb, Decides, sym, subst, rules, tests}
use Rattle.takeoff.specs.declared.tag.Tag.{Tag}
use Rattle.takeoff.specs.Format.{Fitting}
use Rattle.takeoff.specs.Inner.{form_of}
use Rattle.takeoff.proofs.Lengths.{segment_lengths}
use Rattle.takeoff.proofs.tag.Tag.allows.Goals as goal

pub returns-then-contains : goal.returns-then-contains
returns-then-contains c =
    let bounds : (6 ≤ c.args.length) × (c.args.length ≤ 34) = search (rules, tests) in
    subst (λ (t : Tag). Decides (eqb (c.args.length % 4) 2) (Fitting (form_of t) c.args.length)) (sym c.in-Segment.is)
    (segment_lengths c.args.length bounds.0 bounds.1)
