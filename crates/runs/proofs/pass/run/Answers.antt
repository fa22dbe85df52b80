use Rattle.std.proofs.Common.{◌≡◌, ◌<◌, length, Err, sym, refl, ap, ◌∙◌, subst, arith, length-set}
use Rattle.std.proofs.lemmas.Result.{err_from_is_err_and}
use Rattle.runs.specs.Runs.{Done, Ran}
use Rattle.runs.proofs.Rows.{none_done, done_more, below_same, run_stops}
use Rattle.runs.proofs.pass.run.Goals as goal

pub loop-v-init : goal.loop-v-init
loop-v-init g c = (none_done _ _ _ _ _, refl, refl)

pub loop-v-preserved : goal.loop-v-preserved
loop-v-preserved g c =
    let ring = g.K.Kind.ring c.args.kind.now in
    let network = g.S.Source.network c.args.source.now in
    let means = g.K.Kind.means c.args.kind.now in
    let before = c.loop-v.invariant.0 in
    let inside : c.loop-v.v < length c.loop-v.sheet.cells.now = omega (arith, c.loop-v.invariant.2, c.len.ensures, c.if-len-nodes.false) in (
      done_more ring network _ means _ _ _ c.loop-v.v c.in_ok-value.value c.put.ensures.writes inside (c.in_ok-value.ensures.3 (below_same ring network _ means c.all.ensures before.values)) before,
      c.put.ensures.lent ∙ c.loop-v.invariant.1,
      ap length c.put.ensures.writes ∙ length-set _ _ _ ∙ c.loop-v.invariant.2,
    )

pub returns-in_err-value : goal.returns-in_err-value
returns-in_err-value g c =
    let ring = g.K.Kind.ring c.args.kind.now in
    let network = g.S.Source.network c.args.source.now in
    let means = g.K.Kind.means c.args.kind.now in
    let (fault, told, same) = err_from_is_err_and c.from_residual.result c.from_residual.ensures.1 in
    record {
      keeps_its_cells = (c.loop-v.invariant.1, c.loop-v.invariant.2);
      holds_the_join_over_all_routes =
          subst (Ran ring network c.args.start means _ c.loop-v.sheet.cells.now) (sym (told ∙ ap Err same))
          (run_stops ring network c.args.start means
          _ _ _ c.loop-v.v c.in_err-value.field-0.0 c.all.ensures (omega (arith, c.nodes-nodes.ensures)) (omega (arith, c.nodes-nodes.ensures))
          (omega (arith, c.nodes-nodes.ensures, c.len.ensures)) c.loop-v.invariant.2 c.loop-v.invariant.0 c.in_err-value.ensures);
    }

pub returns : goal.returns
returns g c =
    let all : c.loop-v.v ≡ (g.S.Source.network c.args.source.now).nodes = omega (arith, c.nodes-nodes.ensures) in
    record {
      keeps_its_cells = (c.loop-v.invariant.1, c.loop-v.invariant.2);
      holds_the_join_over_all_routes = (
        omega (arith, c.nodes-nodes.ensures),
        omega (arith, c.nodes-nodes.ensures, c.len.ensures),
        subst (λ n. Done (g.K.Kind.ring c.args.kind.now) (g.S.Source.network c.args.source.now) c.args.start (g.K.Kind.means c.args.kind.now) c.args.sheet.now.cells.now c.loop-v.sheet.cells.now n) all c.loop-v.invariant.0,
      );
    }
