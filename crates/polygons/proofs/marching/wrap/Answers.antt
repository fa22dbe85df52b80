use Rattle.std.proofs.Common.{◌+◌, take, set, refl, ap, ◌∙◌, arith, length-set}
use Rattle.geometry.specs.Steps.{Going}
use Rattle.geometry.specs.Support.{support}
use Rattle.polygons.specs.Points.{place, places}
use Rattle.polygons.proofs.Comparing.{same_place, other_place}
use Rattle.polygons.proofs.Wrapping.{begins, exposed, closed_round, closed_support, goes_on, misfit}
use Rattle.polygons.proofs.marching.wrap.Goals as goal

pub loop-n-init : goal.loop-n-init
loop-n-init c = (refl, begins c.args.points.now (place c.args.first) c.requires, λ h. absurd (omega arith))

pub next_corner-next-requires : goal.next_corner-next-requires
next_corner-next-requires c =
    let now = c.loop-n in
    (now.invariant.1.among, exposed c.args.points.now (place c.args.first) now.corner-items now.n now.invariant.0 (omega arith) now.at now.invariant.1)

pub round-requires : goal.round-requires
round-requires c =
    let now = c.loop-n in
    let next = c.next_corner-next in (
      omega arith,
      (
        length-set _ _ _ ∙ now.invariant.0,
        closed_round c.args.points.now (place c.args.first) now.corner-items now.n now.invariant.0 (omega arith) now.at now.invariant.1
            (place next.result) next.ensures (same_place c.next_corner-next.result c.args.first c.eq.result c.eq.ensures c.if-eq.true),
      ),
    )

pub returns-then-eq : goal.returns-then-eq
returns-then-eq c =
    let now = c.loop-n in
    let next = c.next_corner-next in
    ap support c.round.ensures
    ∙ closed_support c.args.points.now (place c.args.first) now.corner-items now.n now.invariant.0 (omega arith) now.at now.invariant.1
    (place next.result) next.ensures (same_place c.next_corner-next.result c.args.first c.eq.result c.eq.ensures c.if-eq.true)

-- the walk one corner on
onward : (c : goal.Else-eq) → Going (places c.args.points.now) (places (take (c.loop-n.n + 1) (set c.loop-n.corner-items c.loop-n.n c.loop-n.at)))
    (place c.args.first) (place c.next_corner-next.result)
onward c =
    let now = c.loop-n in
    let next = c.next_corner-next in
    goes_on c.args.points.now (place c.args.first) now.corner-items now.n now.invariant.0 (omega arith) now.at now.invariant.1
    (place next.result) next.ensures (other_place c.next_corner-next.result c.args.first c.eq.result c.eq.ensures c.if-eq.false)

pub loop-n-preserved : goal.loop-n-preserved
loop-n-preserved c =
    let room = length-set _ _ _ ∙ c.loop-n.invariant.0 in
    (room, onward c, misfit (places c.args.points.now) _ (c.loop-n.n + 1) (place c.args.first) (place c.next_corner-next.result) room (omega arith) (onward c))
