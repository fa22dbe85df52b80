use Rattle.std.proofs.Common.{◌≤◌, ◌*◌, Decides, rules, tests}
use Rattle.grids.proofs.Areas.{area_counted}
use Rattle.grids.proofs.grid.area.Goals as goal

pub returns : goal.returns
returns c =
    let d : Decides c.contains.result ((1 ≤ c.args.width * c.args.height) × (c.args.width * c.args.height ≤ 128)) = search (rules, tests) in
    rw c.then_some.ensures (rw c.in_ok-count.ensures.1 (area_counted c.args.width c.args.height c.contains.result d))
