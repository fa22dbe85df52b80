use Rattle.geometry.proofs.searches_point_by_point.Goals as goal
use Rattle.geometry.proofs.Searching.{least_took, least_kept, took, kept}

pub returns : goal.returns
returns c = record { less_takes_the_place = least_took; least_keeps_its_place = least_kept; next_takes_the_place = took; next_keeps_its_place = kept }
