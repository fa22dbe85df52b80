-- The join of all routes in the semiring of counts is their number, cut at a million. Assumes nothing.
use Rattle.std.proofs.Common.{◌≡◌, ℕ, min, List, [], ◌∷◌, map, length, Option, refl, ap, ◌∙◌, inl, inr, arith}
use Rattle.network.specs.declared.step.Step.{Step}
use Rattle.network.specs.Networks.{Arc, Network, at}
use Rattle.network.specs.Routes.{Leads, Route}
use Rattle.algebra.specs.Lists.{Exactly, In}
use Rattle.algebra.specs.Values.{IsJoin, arc_letter, joined, word}
use Rattle.kinds.specs.Counts.{Counted, counts, cut}

-- a step counts one
step_one : (N : Network) (x : Step) (u v : ℕ) → Leads N x u v → arc_letter counts (at N x.segment) x.choice ≡ cut 1
step_one N x u v l = ap (λ (a : Option Arc). arc_letter counts a x.choice) l.stands

-- a route counts one
pub word_one : (N : Network) (u v : ℕ) (r : List Step) → Route N u v r → word counts N r ≡ cut 1
word_one N u v [] e = refl
word_one N u v (x ∷ r) (t, (l, rest)) = λ i. counts.chain (step_one N x u t l i) (word_one N t v r rest i)

joined_count : {X : Type 0} (g : X → Counted) (xs : List X) → ((x : X) → In x xs → g x ≡ cut 1) → (joined counts (map g xs)).0 ≡ min (length xs) 1000000
joined_count g [] h = refl
joined_count g (x ∷ xs) h =
    let first : (g x).0 ≡ 1 = ap (λ (c : Counted). c.0) (h x (inl refl)) in
    let others = joined_count g xs (λ y m. h y (inr m)) in
    omega arith

-- the join over all routes is how many there are, cut
pub join_count : (N : Network) (u v : ℕ) (x : Counted) → IsJoin counts N (Route N u v) x → (L : List (List Step)) → Exactly (Route N u v) L → x.0 ≡ min (length L) 1000000
join_count N u v x is L exact =
    ap (λ (c : Counted). c.0) (is L exact) ∙ joined_count (word counts N) L (λ r m. word_one N u v r (exact.only r m))
