use Rattle.std.proofs.Common.{rules, ◌<◌, length, ap, ◌∙◌, arith}
use Rattle.network.specs.Networks.{segment_arc}
use Rattle.network.proofs.PassedOn.{passed_on}
use Rattle.runs.specs.Steps.{Gathers, Taken}
use Rattle.runs.proofs.Gathers.{begin, passed, taken, stops, finish, read_means, rising, moved, joined_value, refused, went_on}
use Rattle.runs.proofs.node.gather.Goals as goal
use Rattle.runs.proofs.node.gather.Goals.{in-Some+in_ok-sum, in_default}

pub loop-e-init : goal.loop-e-init
loop-e-init g c = λ _.
    begin (g.met.K.Kind.lawful c.args.kind.now) (g.S.Source.ruled c.args.source.now) c.args.start c.args.v c.beginning-sum.ensures.at_start c.beginning-sum.ensures.elsewhere

pub offset_bounds-held-segment : goal.offset_bounds-held-segment
offset_bounds-held-segment g c =
    let rises = rising (g.S.Source.ruled c.args.source.now) c.loop-e.e (segment_arc c.in-Some.segment) c.in-Some.ensures.stands in
    omega (arith, rises, c.in-Some.ensures.into, c.requires)

pub bounds-held-segment : goal.bounds-held-segment
bounds-held-segment g c =
    let rises = rising (g.S.Source.ruled c.args.source.now) c.loop-e.e (segment_arc c.in-Some.segment) c.in-Some.ensures.stands in
    omega (arith, rises, c.in-Some.ensures.into, c.requires)

pub returns-in_err-sum : goal.returns-in_err-sum
returns-in_err-sum g c =
    let laws = g.met.K.Kind.lawful c.args.kind.now in
    let ruled = g.S.Source.ruled c.args.source.now in
    let means = g.K.Kind.means c.args.kind.now in
    let arc = segment_arc c.in-Some.segment in
    let rises = rising ruled c.loop-e.e arc c.in-Some.ensures.stands in
    let low : arc.tail < c.args.v = omega (arith, rises, c.in-Some.ensures.into) in
    let (st, made, stuck) = refused (Taken (g.K.Kind.ring c.args.kind.now) means arc _ _) _ c.take_segment.result c.map_err.result c.in_err-sum.field-0.0 c.in_err-sum.was c.take_segment.ensures c.map_err.ensures.cases in
    passed_on (Gathers (g.K.Kind.ring c.args.kind.now) means (g.S.Source.network c.args.source.now) c.args.start c.args.v c.args.held.now) c.from_residual.result c.from_residual.ensures.1 (
      c.loop-e.e,
      st,
      search rules,
      λ h.
          let tail = read_means means c.args.held.now arc.tail _ _ (omega (arith, low, c.requires)) c.index-held-segment.is ∙ joined_value (g.K.Kind.ring c.args.kind.now) ruled _ arc.tail (h _ low) in
          stops laws ruled _ _ c.loop-e.e arc c.in-Some.ensures.stands c.in-Some.ensures.into tail (c.loop-e.invariant h) (omega (arith, c.segments-e-end.ensures)) means st stuck,
    )

pub loop-e-preserved : goal.loop-e-preserved
loop-e-preserved g c =
    let laws = g.met.K.Kind.lawful c.args.kind.now in
    let ruled = g.S.Source.ruled c.args.source.now in
    let means = g.K.Kind.means c.args.kind.now in
    let inside : c.loop-e.e < length (g.S.Source.network c.args.source.now).arcs = omega (arith, c.loop-e-test.true, c.segments-e-end.ensures) in
    elim c.match-entering.branch [
      | in-Some+in_ok-sum w ↦
          let arc = segment_arc w.in-Some.segment in
          let rises = rising ruled c.loop-e.e arc w.in-Some.ensures.stands in
          let low : arc.tail < c.args.v = omega (arith, rises, w.in-Some.ensures.into) in
          λ h. let tail = read_means means c.args.held.now arc.tail _ _ (omega (arith, low, c.requires)) w.index-held-segment.is ∙ joined_value (g.K.Kind.ring c.args.kind.now) ruled _ arc.tail (h _ low) in
          moved (ap means w.sum-is) (taken laws ruled _ _ c.loop-e.e arc w.in-Some.ensures.stands w.in-Some.ensures.into tail (c.loop-e.invariant h) inside (went_on (Taken (g.K.Kind.ring c.args.kind.now) means arc _ _) _ w.take_segment.result w.map_err.result _ w.in_ok-sum.was w.take_segment.ensures w.map_err.ensures.cases))
      | in_default w ↦ λ h. moved (ap means w.sum-is) (passed laws ruled _ _ c.loop-e.e inside w.in_default.ensures (c.loop-e.invariant h))
    ]

pub returns : goal.returns
returns g c = λ h. finish (g.met.K.Kind.lawful c.args.kind.now) (g.S.Source.ruled c.args.source.now) _ _ c.loop-e.e (omega (arith, c.segments-e-end.ensures)) (c.loop-e.invariant h)
