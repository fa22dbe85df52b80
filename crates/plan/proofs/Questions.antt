-- What a plan answers of a settled node. Assumes nothing.
use Rattle.std.proofs.Common.{◌≡◌, ℕ, ◌<◌, List, [], length, get_or, Some, None, Ok, Err, Option, MatchOption, sym, refl, ◌∙◌, subst, arith}
use Rattle.std.specs.Option.{ok_or}
use Rattle.std.proofs.lemmas.List.{get_or-map}
use Rattle.network.specs.declared.fault.Fault.{Fault}
use Rattle.network.specs.declared.fault.Fault.TheVariants as fault
use Rattle.network.specs.declared.way.Ray.{Ray}
use Rattle.network.specs.declared.weight.Weight.{Weight}
use Rattle.network.specs.Costs.{LawfulWeight}
use Rattle.network.specs.Networks.{Network, Ruled}
use Rattle.geometry.specs.Plane.{Pt}
use Rattle.geometry.specs.Support.{never}
use Rattle.polygons.specs.declared.cheapest.Cheapest.{Cheapest}
use Rattle.polygons.specs.declared.polygon.Polygon.{Polygon}
use Rattle.polygons.specs.Cheapest.{pair, CheapestAt}
use Rattle.polygons.specs.Corners.{corner_list}
use Rattle.polygons.specs.Fits.{costs}
use Rattle.polygons.specs.Rays.{Cone}
use Rattle.corners.specs.CornerLists.{CornersOf}
use Rattle.corners.proofs.LeastOfCorners.{cheapest_least, attains_least, least_attains, runs_hold}
use Rattle.plan.specs.declared.state.State.{State}
use Rattle.plan.specs.Answers.{Settled, Refused, NoNode, BadWeight, NotStarted, NotSettled, NoCorner, ConeOf, CheapestIs}
use Rattle.plan.specs.Lists.{Held}
use Rattle.plan.specs.Progress.{Progress}
use Rattle.plan.specs.Standing.{progress, Stands}

-- where a fault stands for a missing value, an answered value is the one that was there
pub answered_there : {T E : Type 0} (Without : Type 0) (With : T → Type 0) (o : Option T) (f : E) (x : T) → MatchOption o Without With → Ok x ≡ ok_or o f → With x
answered_there Without With None f x h e = absurd (cc)
answered_there Without With (Some y) f x h e = let is : y ≡ x = cc in subst With is h

-- and an answered fault is that one, and nothing was there
pub missing_there : {T E : Type 0} (Without : Type 0) (With : T → Type 0) (o : Option T) (f e : E) → MatchOption o Without With → Err e ≡ ok_or o f → (f ≡ e) × Without
missing_there Without With None f e h is = (cc, h)
missing_there Without With (Some y) f e h is = absurd (cc)

-- the same refusal, where a weight is lawful by another name and other corners are lacking
pub refused_as : (N : Network) (p : Progress) (v : ℕ) {A B : Type 0} {L M : ℕ → List Pt → Type 0} → (A → B) → (B → A) → ((s : ℕ) (list : List Pt) → L s list → M s list) → (f : Fault) → Refused N p v A L f → Refused N p v B M f
refused_as N p v to from more f (NoNode is a) = NoNode is a
refused_as N p v to from more f (BadWeight is a b) = BadWeight is a (λ x. b (from x))
refused_as N p v to from more f (NotStarted is a b c) = NotStarted is a (to b) c
refused_as N p v to from more f (NotSettled is a b s c d) = NotSettled is a (to b) s c d
refused_as N p v to from more f (NoCorner is a b c) = NoCorner is a (to b) (record {
  start = c.start;
  is_started = c.is_started;
  lower = c.lower;
  list = c.list;
  corners = c.corners;
  so = more c.start c.list c.so;
})

module _ (N : Network) (ruled : Ruled N) (p : Progress) (v : ℕ) {Lawful : Type 0} (x : Polygon) (held : Held N p v Lawful x) where
  pub settled : (So : ℕ → List Pt → Type 0) → So held.start (corner_list x) → Settled N p v So
  settled So so = record {
    start = held.start;
    is_started = held.is_started;
    lower = held.lower;
    list = corner_list x;
    corners = held.corners;
    so = so;
  }

  pub cone_of : (k : ℕ) (rays : Ray × Ray) → Cone (corner_list x) k rays → ConeOf N held.start v (corner_list x) k rays
  cone_of k rays cone = record {
    within = cone.within;
    first_arrives = cone.first_arrives;
    second_leaves = cone.second_leaves;
    least_between = λ w b. attains_least N ruled held.start v (corner_list x) held.value k cone.within w (cone.cheapest_between (pair w) b);
    between_where_least = λ w h. cone.between_where_cheapest (pair w) (least_attains N held.start v (corner_list x) held.corners k w h);
  }

  pub cheapest_is : (w : Weight) → LawfulWeight w → (b : Cheapest) → CheapestAt x w b.least b.corner → CheapestIs N held.start v (corner_list x) w b
  cheapest_is w lawful b h =
      let least = cheapest_least N ruled held.start v (corner_list x) held.value w b.least b.corner h in
      record {
        lawful = lawful;
        least_of_routes = least;
        as_runs_hold = runs_hold N ruled held.start v held.inside w b.least least;
        lowest_corner = h;
      }

  -- a corner is lacking
  pub lacking : (Lacking : ℕ → List Pt → Type 0) (Weighed : Type 0) → Weighed → Lacking held.start (corner_list x) → Refused N p v Weighed Lacking fault.NoCorner
  lacking Lacking Weighed weighed none = NoCorner refl held.inside weighed (settled Lacking none)

-- the list of a settled node of a plan that stands is what a question asks for
pub holds : (N : Network) (ruled : Ruled N) (σ : State) → Stands N σ → (v : ℕ) {Lawful : Type 0} → v < N.nodes → Lawful → (s : ℕ) → σ.start ≡ Some s → v < σ.settled
    → (d : Polygon) → Held N (progress σ) v Lawful (get_or σ.lists v d)
holds N ruled σ stands v inside lawful s is lower d =
    let there : v < length σ.lists = omega (arith, σ.room, ruled.few, inside) in
    record {
      inside = inside;
      lawful = lawful;
      start = s;
      is_started = is;
      lower = lower;
      value = λ L exact. sym (get_or-map costs σ.lists v d never there) ∙ stands.values s is v lower L exact;
      corners = subst (CornersOf N s v) (get_or-map corner_list σ.lists v d [] there) (stands.corners s is v lower);
    }
