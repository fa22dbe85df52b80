use Rattle.polygons.specs.Points.{place}
use Rattle.polygons.proofs.Reading.{took_read, kept_read}
use Rattle.polygons.proofs.marching.next_corner.Goals as goal
use Rattle.polygons.proofs.marching.next_corner.Goals.{then-takes, else-takes}

pub loop-s-preserved : goal.loop-s-preserved
loop-s-preserved c =
    let xs = c.args.points.now in
    let now = c.loop-s in
    let read = c.s-item in
    let p = place c.args.p in
    let b = place now.best in
    elim c.if-takes.branch [
      | then-takes w ↦ simp w.best-is (took_read xs now.s-index read.result c.loop-s-test.true read.is p b c.requires.1 now.invariant (c.takes.ensures.yes w.if-takes.true))
      | else-takes w ↦ simp w.best-is (kept_read xs now.s-index read.result c.loop-s-test.true read.is p b c.requires.1 now.invariant (c.takes.ensures.no w.if-takes.false))
    ]
