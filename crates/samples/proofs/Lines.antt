-- One test of a whole sample, and the lemma that turns it into what the sample says. Assumes nothing.
use Rattle.std.proofs.Common.{◌≡◌, ℕ, ◌<◌, Bool, true, ◌&&◌, eqb, ltb, List, [], length, get_or, pos, subst, arith}
use Rattle.std.specs.List.{AllByRecursion}
use Rattle.std.proofs.lemmas.List.{get_or_default}
use Rattle.std.proofs.lemmas.Bool.{and_parts, eqb-true, ltb-true}
use Rattle.network.specs.declared.step.Step.{Step}
use Rattle.network.specs.declared.way.Ray.{Ray}
use Rattle.geometry.specs.Plane.{nth}
use Rattle.plan.specs.Answers.{CheapestIs, ConeOf, corner_at}
use Rattle.samples.specs.Samples.{Holds, OnlyRoute, Sample, Weighed}
use Rattle.samples.proofs.Cornered.{cornered?, corners_passed, means}
use Rattle.samples.proofs.Counted.{counted?, counted_passed}
use Rattle.samples.proofs.Fans.{cone?, cone_passed}
use Rattle.samples.proofs.OnlyRoutes.{only?, only_passed}
use Rattle.samples.proofs.Room.{all_fit, roomy?}
use Rattle.samples.proofs.Rules.{ruled?, ruled_passed}
use Rattle.samples.proofs.Tests.{below?, below_passed, each?, each_passed}
use Rattle.samples.proofs.Weighing.{weighs?, weighs_passed}

-- the pair of rays number k; past the end, two that lead nowhere
abbrev rays : Sample → ℕ → Ray × Ray
rays x k = get_or x.cones k (record { a = pos 0; b = pos 0 }, record { a = pos 0; b = pos 0 })

abbrev cones? : Sample → Bool
cones? x = eqb (length x.cones) (length x.corners) && below? (length x.corners) (λ k. cone? x.corners k (rays x k))

-- the route number k; past the end, the empty one
abbrev way : Sample → ℕ → List Step
way x k = get_or x.routes k []

abbrev ways? : Sample → Bool
ways? x = eqb (length x.routes) (length x.corners) && below? (length x.corners) (λ k. only? x.network x.node (nth x.corners k) (way x k))

abbrev weights? : Sample → Bool
weights? x = each? (λ (w : Weighed). weighs? x.corners w.weight w.best) x.weights

abbrev placed? : Sample → Bool
placed? x = ruled? x.network && (ltb x.node x.network.nodes && roomy? x.network 0)

abbrev routed? : Sample → Bool
routed? x = cornered? x.network 0 x.node x.corners && counted? x.network 0 x.node x.number

abbrev pub sample? : Sample → Bool
sample? x = placed? x && (routed? x && (cones? x && (ways? x && weights? x)))

pub sample_passed : (x : Sample) → sample? x ≡ true → Holds x
sample_passed x t =
    let N = x.network in
    let v = x.node in
    let list = x.corners in
    let a = and_parts (placed? x) (routed? x && (cones? x && (ways? x && weights? x))) t in
    let b = and_parts (routed? x) (cones? x && (ways? x && weights? x)) a.1 in
    let c = and_parts (cones? x) (ways? x && weights? x) b.1 in
    let d = and_parts (ways? x) (weights? x) c.1 in
    let placed = and_parts (ruled? N) (ltb v N.nodes && roomy? N 0) a.0 in
    let roomy = and_parts (ltb v N.nodes) (roomy? N 0) placed.1 in
    let routed = and_parts (cornered? N 0 v list) (counted? N 0 v x.number) b.0 in
    let fans = and_parts (eqb (length x.cones) (length list)) (below? (length list) (λ k. cone? list k (rays x k))) c.0 in
    let ways = and_parts (eqb (length x.routes) (length list)) (below? (length list) (λ k. only? N v (nth list k) (way x k))) d.0 in
    let ruled = ruled_passed N placed.0 in
    let inside = ltb-true v N.nodes roomy.0 in
    let corners = corners_passed N ruled 0 v list routed.0 in
    let join = means N ruled 0 v list routed.0 in
    let coned = eqb-true (length x.cones) (length list) fans.0 in
    let led = eqb-true (length x.routes) (length list) ways.0 in
    record {
      ruled = ruled;
      inside = inside;
      fits = all_fit N ruled 0 roomy.1;
      corners_are = corners;
      cones_are = record {
        counted = coned;
        each = λ k h e.
            let passed = below_passed (length list) (λ j. cone? list j (rays x j)) fans.1 k h in
            let within : k < length x.cones = omega (arith, coned, h) in
            subst (ConeOf N 0 v list k) (get_or_default x.cones k _ e within) (cone_passed N ruled 0 v list corners join k h (rays x k) passed);
      };
      routes_are = record {
        counted = led;
        each = λ k h e.
            let passed = below_passed (length list) (λ j. only? N v (nth list j) (way x j)) ways.1 k h in
            let within : k < length x.routes = omega (arith, led, h) in
            subst (OnlyRoute N v (corner_at list k)) (get_or_default x.routes k _ e within) (only_passed N ruled v (nth list k) (way x k) passed);
      };
      counted = counted_passed N ruled 0 v x.number routed.1;
      weighed =
          each_passed (λ (w : Weighed). weighs? list w.weight w.best) (λ (w : Weighed). CheapestIs N 0 v list w.weight w.best)
          (λ w. weighs_passed N ruled 0 v list join inside w.weight w.best) x.weights d.1;
    }

-- and of a table of samples
pub table_passed : (xs : List Sample) → each? sample? xs ≡ true → AllByRecursion Holds xs
table_passed = each_passed sample? Holds sample_passed
