use Rattle.std.proofs.Common.{rules}
use Rattle.sources.proofs.Written.{holds_written}
use Rattle.sources.proofs.table.Table.fill.Goals as goal

pub invariant_of-self : goal.invariant_of-self
invariant_of-self c =
    let right = c.in_ok-check.ensures in
    let h = holds_written c.args.nodes c.args.records.now c.overwrite_front.new.kept (c.overwrite_front.ensures.all_that_fit right.short) right c.overwrite_front.ensures.room in
    search rules
