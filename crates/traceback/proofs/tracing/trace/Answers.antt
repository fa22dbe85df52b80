use Rattle.std.proofs.Common.{reverse, take, ◌≡◌, Err, sym, refl, ap, ◌∙◌, subst, arith}
use Rattle.std.specs.Option.{ok_or}
use Rattle.network.specs.declared.fault.Fault.TheVariants.{NoCorner}
use Rattle.network.specs.Costs.{point}
use Rattle.network.proofs.PassedOn.{passed_on}
use Rattle.traceback.specs.Searching.{Retraced}
use Rattle.traceback.specs.Tracing.{Traced, Stuck, ShortPlace}
use Rattle.traceback.proofs.InOrder.{traced_route, route_long}
use Rattle.traceback.proofs.tracing.trace.Goals as goal

pub returns-then-place-trail : goal.returns-then-place-trail
returns-then-place-trail g c =
    let N = g.S.Source.network c.args.source.now in
    let trail = c.in_ok-trail.trail in
    let back = subst (Retraced N c.args.start c.args.lists.now c.args.v (point c.args.corner)) c.in_ok-trail.ensures.ok_part c.retrace.ensures in
    let long = route_long trail.count trail.steps (omega (arith, back.0, back.1, (g.S.Source.ruled c.args.source.now).few)) in
    let traced = traced_route N c.args.start c.args.lists.now c.args.v (point c.args.corner) (take trail.count trail.steps) back.2 in
    (ShortPlace refl (omega (arith, c.nodes.ensures)) (reverse (take trail.count trail.steps)) traced (omega (arith, long)), refl)

pub returns : goal.returns
returns g c =
    let N = g.S.Source.network c.args.source.now in
    let trail = c.in_ok-trail.trail in
    let back = subst (Retraced N c.args.start c.args.lists.now c.args.v (point c.args.corner)) c.in_ok-trail.ensures.ok_part c.retrace.ensures in (
      omega (arith, c.nodes.ensures),
      record {
        route = reverse (take trail.count trail.steps);
        traced = traced_route N c.args.start c.args.lists.now c.args.v (point c.args.corner) (take trail.count trail.steps) back.2;
        counted = route_long trail.count trail.steps (omega (arith, back.0, back.1, (g.S.Source.ruled c.args.source.now).few));
        written = c.lay.ensures;
      },
    )

pub returns-in_err-trail : goal.returns-in_err-trail
returns-in_err-trail g c =
    let N = g.S.Source.network c.args.source.now in
    let place = c.args.place.now in
    let none = subst (Retraced N c.args.start c.args.lists.now c.args.v (point c.args.corner)) c.in_err-trail.ensures.ok_part c.retrace.ensures in
    let all_stuck = c.in_err-trail.ensures.value ∙ ap (λ trail. ok_or trail NoCorner) c.in_err-trail.ensures.ok_part in
    let is : c.in_err-trail.field-0.0 ≡ NoCorner = let one = all_stuck in cc in
    passed_on (λ r. Traced N c.args.start c.args.lists.now c.args.v (point c.args.corner) place r place) c.from_residual.result c.from_residual.ensures.1
    (subst (λ r. Traced N c.args.start c.args.lists.now c.args.v (point c.args.corner) place r place) (ap Err (sym is))
    (Stuck refl (omega (arith, c.nodes.ensures)) (λ r works. none.0 works.backward works.taken) none.1, refl))
