-- A test whether a route is the only one with its cost. Assumes nothing.
use Rattle.std.proofs.Common.{◌≡◌, ℕ, Bool, true, false, ◌&&◌, ◌||◌, eqb, List, [], ◌∷◌, refl, ap, ◌∙◌, subst, inl, inr}
use Rattle.std.proofs.lemmas.Bool.{and_parts, eqb-true, false≢true, or_cases}
use Rattle.network.specs.declared.step.Step.{Step}
use Rattle.network.specs.Networks.{Network, Ruled}
use Rattle.network.specs.Routes.{Route, route_cost}
use Rattle.algebra.specs.Enumerated.{routes}
use Rattle.algebra.specs.Lists.{In}
use Rattle.algebra.proofs.Exact.{routes_exact}
use Rattle.geometry.specs.Plane.{Pt}
use Rattle.corners.specs.CornerLists.{cost_at, spot}
use Rattle.samples.specs.Samples.{OnlyRoute}
use Rattle.samples.proofs.Points.{apart?, apart_passed, same?, same_passed}
use Rattle.samples.proofs.Tests.{each?}

-- equal lists of steps
abbrev steps? : List Step → List Step → Bool
steps? [] [] = true
steps? [] (y ∷ ys) = false
steps? (x ∷ xs) [] = false
steps? (x ∷ xs) (y ∷ ys) = (eqb x.segment y.segment && eqb x.choice y.choice) && steps? xs ys

steps_passed : (xs ys : List Step) → steps? xs ys ≡ true → xs ≡ ys
steps_passed [] [] t = refl
steps_passed [] (y ∷ ys) t = absurd (false≢true t)
steps_passed (x ∷ xs) [] t = absurd (false≢true t)
steps_passed (x ∷ xs) (y ∷ ys) t =
    let both = and_parts (eqb x.segment y.segment && eqb x.choice y.choice) (steps? xs ys) t in
    let step = and_parts (eqb x.segment y.segment) (eqb x.choice y.choice) both.0 in
    λ i. record { segment = eqb-true x.segment y.segment step.0 i; choice = eqb-true x.choice y.choice step.1 i }
    ∷ steps_passed xs ys both.1 i

-- each of the routes is r with the cost p, or has another cost; and r is one of them
abbrev matches? : Network → Pt → List Step → List Step → Bool
matches? N p r q = steps? q r && same? (spot (route_cost N q)) p

abbrev lone? : Network → Pt → List Step → List Step → Bool
lone? N p r q = matches? N p r q || apart? (spot (route_cost N q)) p

abbrev some? : (List Step → Bool) → List (List Step) → Bool
some? f [] = false
some? f (q ∷ L) = f q || some? f L

some_passed : (f : List Step → Bool) (L : List (List Step)) → some? f L ≡ true → (q : List Step) × (In q L × (f q ≡ true))
some_passed f [] t = absurd (false≢true t)
some_passed f (q ∷ L) t =
    elim (or_cases (f q) (some? f L) t) [
      | inl here ↦ (q, (inl refl, here))
      | inr later ↦ let o = some_passed f L later in (o.0, (inr o.1.0, o.1.1))
    ]

each_in : (f : List Step → Bool) (L : List (List Step)) → each? f L ≡ true → (q : List Step) → In q L → f q ≡ true
each_in f [] t q m = absurd m
each_in f (r ∷ L) t q (inl e) = ap f e ∙ (and_parts (f r) (each? f L) t).0
each_in f (r ∷ L) t q (inr m) = each_in f L (and_parts (f r) (each? f L) t).1 q m

abbrev pub only? : Network → ℕ → Pt → List Step → Bool
only? N v p r = some? (matches? N p r) (routes N 0 v) && each? (lone? N p r) (routes N 0 v)

matched : (N : Network) (p : Pt) (r q : List Step) → matches? N p r q ≡ true → (q ≡ r) × (route_cost N q ≡ cost_at p)
matched N p r q t =
    let both = and_parts (steps? q r) (same? (spot (route_cost N q)) p) t in
    (steps_passed q r both.0, ap cost_at (same_passed (spot (route_cost N q)) p both.1))

pub only_passed : (N : Network) → Ruled N → (v : ℕ) (p : Pt) (r : List Step) → only? N v p r ≡ true → OnlyRoute N v (cost_at p) r
only_passed N ruled v p r t =
    let exact = routes_exact ruled 0 v in
    let both = and_parts (some? (matches? N p r) (routes N 0 v)) (each? (lone? N p r) (routes N 0 v)) t in
    let found = some_passed (matches? N p r) (routes N 0 v) both.0 in
    let is = matched N p r found.0 found.1.1 in
    record {
      leads = subst (Route N 0 v) is.0 (exact.only found.0 found.1.0);
      costs = subst (λ q. route_cost N q ≡ cost_at p) is.0 is.1;
      only = λ q leads costs.
          elim (or_cases (matches? N p r q) (apart? (spot (route_cost N q)) p) (each_in (lone? N p r) (routes N 0 v) both.1 q (exact.every q leads))) [
            | inl same ↦ (matched N p r q same).0
            | inr other ↦ absurd (apart_passed (spot (route_cost N q)) p other (ap spot costs))
          ];
    }
