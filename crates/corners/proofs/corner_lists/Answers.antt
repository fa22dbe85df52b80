use Rattle.corners.proofs.Listing.{corners_found}
use Rattle.corners.proofs.corner_lists.Goals as goal

pub returns : goal.returns
returns g c =
    record {
      keeps_its_cells = c.run.ensures.keeps_its_cells;
      holds_each_corner_list =
          corners_found (g.S.Source.network c.args.source.now) (g.S.Source.ruled c.args.source.now) c.args.start _ _ c.run.result c.run.ensures.holds_the_join_over_all_routes;
    }
