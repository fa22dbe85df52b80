-- A test whether a list is the corner list of a node, by all routes that lead there. Assumes nothing.
use Rattle.std.proofs.Common.{◌≡◌, ℕ, Bool, true, ◌&&◌, List, map, sym, ◌∙◌, subst}
use Rattle.std.proofs.ByRecursion.{All-get_or}
use Rattle.std.proofs.lemmas.Bool.{and_parts}
use Rattle.network.specs.Networks.{Network, Ruled}
use Rattle.network.specs.Routes.{Route}
use Rattle.algebra.specs.Enumerated.{routes}
use Rattle.algebra.specs.Values.{IsJoin}
use Rattle.algebra.proofs.Exact.{routes_exact}
use Rattle.algebra.proofs.Results.{join_from}
use Rattle.geometry.specs.Plane.{Pt, In}
use Rattle.geometry.specs.Polygons.{Inside, Polygon}
use Rattle.geometry.specs.Support.{support}
use Rattle.geometry.proofs.Inside.{same_support}
use Rattle.polygons.specs.Fits.{hulls}
use Rattle.polygons.specs.HullLaws.{hulls_semiring}
use Rattle.corners.specs.CornerLists.{CornersOf}
use Rattle.corners.proofs.Listing.{corners_of}
use Rattle.corners.proofs.Supports.{route_spot, joined_spots}
use Rattle.samples.proofs.Insides.{inside?, inside_passed}
use Rattle.samples.proofs.Points.{among?, among_passed}
use Rattle.samples.proofs.Rounded.{polygon?, polygon_passed}
use Rattle.samples.proofs.Tests.{each?, each_passed}

-- the costs of all routes
abbrev spots : Network → ℕ → ℕ → List Pt
spots N s v = map (route_spot N) (routes N s v)

-- every corner is the cost of a route, and every route's cost lies within the corners
abbrev spans? : List Pt → List Pt → Bool
spans? costs ps = each? (among? costs) ps && each? (inside? ps) costs

abbrev pub cornered? : Network → ℕ → ℕ → List Pt → Bool
cornered? N s v ps = polygon? ps && spans? (spots N s v) ps

module _ (N : Network) (ruled : Ruled N) (s v : ℕ) (ps : List Pt) (t : cornered? N s v ps ≡ true) where
  pub polygon : Polygon ps
  polygon = polygon_passed ps (and_parts (polygon? ps) (spans? (spots N s v) ps) t).0

  -- the corners have the least costs of the routes
  level : support ps ≡ support (spots N s v)
  level =
      let costs = spots N s v in
      let both = and_parts (each? (among? costs) ps) (each? (inside? ps) costs) (and_parts (polygon? ps) (spans? costs ps) t).1 in
      let from = each_passed (among? costs) (In costs) (among_passed costs) ps both.0 in
      let within = each_passed (inside? ps) (Inside ps) (λ p. inside_passed ps p polygon) costs both.1 in
      same_support ps costs
      (λ i h. All-get_or (In costs) ps i _ h from)
      (λ p m. subst (Inside ps) m.here (All-get_or (Inside ps) costs m.place _ m.within within))

  pub corners_passed : CornersOf N s v ps
  corners_passed = corners_of N ruled s v (routes N s v) (routes_exact ruled s v) ps polygon level

  -- they mean the join over all routes
  pub means : IsJoin hulls N (Route N s v) (support ps)
  means L exact =
      let listed = routes_exact ruled s v in
      level ∙ sym (joined_spots N s v (routes N s v) listed.only)
      ∙ join_from hulls_semiring N (Route N s v) (routes N s v) listed L exact
