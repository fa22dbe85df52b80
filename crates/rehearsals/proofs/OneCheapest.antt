-- A weight has one least cost and one lowest corner that has it. Assumes nothing.
use Rattle.std.proofs.Common.{◌≡◌, ℕ, ◌<◌, List, length, ℤ, ◌≤ℤ◌, ◌<ℤ◌, Some, None, Option, subst, inl, inr, arith}
use Rattle.std.proofs.lemmas.Int.{ints}
use Rattle.std.proofs.lemmas.Bool.{cases_order}
use Rattle.network.specs.declared.weight.Weight.{Weight}
use Rattle.network.specs.Networks.{Network}
use Rattle.geometry.specs.Plane.{Pt}
use Rattle.geometry.proofs.Integers.{≤ℤ_antisym}
use Rattle.polygons.specs.declared.cheapest.Cheapest.{Cheapest}
use Rattle.polygons.specs.Cheapest.{CheapestOf}
use Rattle.plan.specs.Answers.{CheapestIs}
use Rattle.corner_report.specs.Reports.{Weighs}

module _ (ps : List Pt) (w : Pt) (n : ℕ) where
  below_other : (a b : ℤ) (j k : ℕ) → CheapestOf ps w n a j → CheapestOf ps w n b k → a ≤ℤ b
  below_other a b j k one other = subst (λ z. a ≤ℤ z) other.attained (one.bound k other.within)

  one_least : (a b : ℤ) (j k : ℕ) → CheapestOf ps w n a j → CheapestOf ps w n b k → a ≡ b
  one_least a b j k one other = ≤ℤ_antisym (below_other a b j k one other) (below_other b a k j other one)

  not_before : (a b : ℤ) (j k : ℕ) → CheapestOf ps w n a j → CheapestOf ps w n b k → j < k → ⊥
  not_before a b j k one other l =
      let more : b <ℤ a = subst (λ z. b <ℤ z) one.attained (other.lowest j l) in
      let same = one_least a b j k one other in
      omega (arith, ints)

  one_corner : (a b : ℤ) (j k : ℕ) → CheapestOf ps w n a j → CheapestOf ps w n b k → j ≡ k
  one_corner a b j k one other =
      elim (cases_order j k) [
        | inl same ↦ same
        | inr (inl l) ↦ absurd (not_before a b j k one other l)
        | inr (inr l) ↦ absurd (not_before b a k j other one l)
      ]

module _ (N : Network) (s v : ℕ) (list : List Pt) (w : Weight) where
  pub one_cheapest : (a b : Cheapest) → CheapestIs N s v list w a → CheapestIs N s v list w b → a ≡ b
  one_cheapest a b one other =
      λ i. record {
        least = one_least list _ (length list) a.least b.least a.corner b.corner one.lowest_corner other.lowest_corner i;
        corner = one_corner list _ (length list) a.least b.least a.corner b.corner one.lowest_corner other.lowest_corner i;
      }

  -- and so has a line of a report
  pub one_answer : (a b : Option Cheapest) → Weighs N s v list w a → Weighs N s v list w b → a ≡ b
  one_answer (Some a) (Some b) one other = λ i. Some (one_cheapest a b one other i)
  one_answer (Some a) None one other = absurd (other one.least_of_routes.by one.least_of_routes.leads)
  one_answer None (Some b) one other = absurd (one other.least_of_routes.by other.least_of_routes.leads)
  one_answer None None one other = λ i. None
