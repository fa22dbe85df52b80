use Rattle.std.proofs.Common.{subst}
use Rattle.network.specs.declared.weight.Weight.{Weight}
use Rattle.figures.specs.Leasts.{LeastsFound}
use Rattle.figures.proofs.Found.{leasts_found}
use Rattle.figures.proofs.costs.least_costs.Goals as goal

pub returns : goal.returns
returns g c =
    let network = g.S.Source.network c.args.source.now in
    record {
      keeps_its_cells = c.run.ensures.keeps_its_cells;
      holds_each_least_cost =
          subst (λ (w : Weight). LeastsFound network c.args.start w c.args.sheet.now.cells.now c.run.new.sheet.cells.now c.run.result) c.in_ok-kind.ensures
          (leasts_found network (g.S.Source.ruled c.args.source.now) c.args.start c.in_ok-kind.kind.weight c.in_ok-kind.kind.lawful _ _ c.run.result c.run.ensures.holds_the_join_over_all_routes);
    }
