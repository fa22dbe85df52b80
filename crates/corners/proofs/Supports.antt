-- The join over routes in the algebra of hulls is the least cost over their costs, at every weight. Assumes nothing.
use Rattle.std.proofs.Common.{◌≡◌, ℕ, List, [], ◌∷◌, map, Option, sym, refl, ◌∙◌, subst, inl, inr}
use Rattle.network.specs.declared.step.Step.{Step}
use Rattle.network.specs.Networks.{Network, Arc, at}
use Rattle.network.specs.Routes.{Leads, Route, arc_cost, route_cost, step_cost}
use Rattle.algebra.specs.Lists.{In}
use Rattle.algebra.specs.Values.{joined, word, arc_letter}
use Rattle.geometry.specs.Plane.{Pt}
use Rattle.geometry.specs.Support.{support, join, chain}
use Rattle.geometry.proofs.Results.{free_support}
use Rattle.geometry.proofs.Semiring.{append_support}
use Rattle.geometry.proofs.Sums.{sums_support}
use Rattle.polygons.specs.Fits.{hulls}
use Rattle.corners.specs.CornerLists.{spot}

-- the cost of a route, as a point
abbrev pub route_spot : Network → List Step → Pt
route_spot N r = spot (route_cost N r)

step_letter : (N : Network) (x : Step) (u v : ℕ) → Leads N x u v → arc_letter hulls (at N x.segment) x.choice ≡ support (spot (step_cost N x) ∷ [])
step_letter N x u v l =
    subst (λ (a : Option Arc). arc_letter hulls a x.choice ≡ support (spot (arc_cost a x.choice) ∷ [])) (sym l.stands) refl

-- a route's value is its cost
pub word_spot : (N : Network) (u v : ℕ) (r : List Step) → Route N u v r → word hulls N r ≡ support (route_spot N r ∷ [])
word_spot N u v [] e = sym free_support
word_spot N u v (x ∷ r) (t, (l, rest)) =
    (λ i. chain (step_letter N x u t l i) (word_spot N t v r rest i))
    ∙ sym (sums_support (spot (step_cost N x) ∷ []) (route_spot N r ∷ []))

pub joined_spots : (N : Network) (u v : ℕ) (L : List (List Step)) → ((r : List Step) → In r L → Route N u v r) → joined hulls (map (word hulls N) L) ≡ support (map (route_spot N) L)
joined_spots N u v [] leads = refl
joined_spots N u v (r ∷ L) leads =
    (λ i. join (word_spot N u v r (leads r (inl refl)) i) (joined_spots N u v L (λ q m. leads q (inr m)) i))
    ∙ sym (append_support (route_spot N r ∷ []) (map (route_spot N) L))
