use Rattle.std.proofs.Common.{◌+◌, take, set, refl, ap, ◌∙◌, arith, length-set}
use Rattle.geometry.specs.Steps.{Summing}
use Rattle.geometry.specs.Support.{support}
use Rattle.geometry.proofs.Summing.{exposed_sum}
use Rattle.polygons.specs.Corners.{corner_list}
use Rattle.polygons.specs.Points.{places}
use Rattle.polygons.specs.CornersLemmas.{corner_count}
use Rattle.polygons.proofs.Summation.{starts, too_far, sum_round, sum_support, walks_on, sum_misfit}
use Rattle.polygons.proofs.minkowski.walk.Goals as goal

pub loop-n-init : goal.loop-n-init
loop-n-init c = (refl, c.requires.0, c.requires.1, starts c.args.left.now c.args.right.now c.requires.0 c.requires.1, λ h. absurd (omega arith))

pub returns-in_err-corner : goal.returns-in_err-corner
returns-in_err-corner c =
    let now = c.loop-n in
    let none = c.from_residual.ensures in
    simp none (too_far c.args.left.now c.args.right.now now.corner-items now.n now.i now.j now.invariant.3 c.index-left-i.result c.index-right-j.result
    now.invariant.1 now.invariant.2 c.in_err-corner.ensures)

pub advance-k-requires : goal.advance-k-requires
advance-k-requires c =
    let now = c.loop-n in
    (now.invariant.1, (now.invariant.2, exposed_sum (corner_list c.args.left.now) (corner_list c.args.right.now) (places (take now.n now.corner-items)) now.i now.j now.invariant.3))

pub round-requires : goal.round-requires
round-requires c =
    let now = c.loop-n in
    let kept = c.in_ok-corner in
    let next = c.advance-k in (
      omega arith,
      (
        length-set _ _ _ ∙ now.invariant.0,
        sum_round c.args.left.now c.args.right.now now.corner-items now.n now.i now.j now.invariant.3 c.index-left-i.result c.index-right-j.result
            now.invariant.1 now.invariant.2 now.invariant.0 (omega arith) kept.field-0 kept.ensures next.result.0 next.result.1 next.ensures
            c.if-k-eq0.true c.if-l-eq0.true,
      ),
    )

pub returns-then-l-eq0 : goal.returns-then-l-eq0
returns-then-l-eq0 c =
    let now = c.loop-n in
    let kept = c.in_ok-corner in
    let next = c.advance-k in
    ap support c.round.ensures
    ∙ sum_support c.args.left.now c.args.right.now now.corner-items now.n now.i now.j now.invariant.3 c.index-left-i.result c.index-right-j.result
    now.invariant.1 now.invariant.2 now.invariant.0 (omega arith) kept.field-0 kept.ensures next.result.0 next.result.1 next.ensures
    c.if-k-eq0.true c.if-l-eq0.true

-- the walk one corner on
onward : (c : goal.Joined-else-k-eq0) → Summing (corner_list c.args.left.now) (corner_list c.args.right.now)
    (places (take (c.loop-n.n + 1) (set c.loop-n.corner-items c.loop-n.n c.in_ok-corner.field-0))) c.advance-k.result.0 c.advance-k.result.1
onward c =
    let now = c.loop-n in
    let kept = c.in_ok-corner in
    let next = c.advance-k in
    walks_on c.args.left.now c.args.right.now now.corner-items now.n now.i now.j now.invariant.3 c.index-left-i.result c.index-right-j.result
    now.invariant.1 now.invariant.2 now.invariant.0 (omega arith) kept.field-0 kept.ensures next.result.0 next.result.1 next.ensures
    (λ z. omega (arith, c.else-k-eq0.either, z))

pub loop-n-preserved : goal.loop-n-preserved
loop-n-preserved c =
    let next = c.advance-k in
    let room = length-set _ _ _ ∙ c.loop-n.invariant.0 in (
      room,
      omega (arith, next.ensures.within_one, corner_count c.args.left.now),
      omega (arith, next.ensures.within_two, corner_count c.args.right.now),
      onward c,
      sum_misfit c.args.left.now c.args.right.now _ (c.loop-n.n + 1) next.result.0 next.result.1 room (omega arith) (onward c),
    )
