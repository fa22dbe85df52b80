use Rattle.figures.proofs.Found.{counts_found}
use Rattle.figures.proofs.counting.count_routes.Goals as goal

pub returns : goal.returns
returns g c =
    record {
      keeps_its_cells = c.run.ensures.keeps_its_cells;
      holds_the_number_of_routes =
          counts_found (g.S.Source.network c.args.source.now) (g.S.Source.ruled c.args.source.now) c.args.start _ _ c.run.result c.run.ensures.holds_the_join_over_all_routes;
    }
