-- One list of the routes of a network, by their last step, and what it comes to. The proofs go by this list;
-- no promise to a caller does. Assumes nothing.
use Rattle.std.specs.Prelude.{ℕ, zero, suc, cond, List, [], ◌∷◌, ◌++◌, map, length, take, Some, None, Option, ◌==◌}
use Rattle.network.specs.declared.step.Step.{Step}
use Rattle.network.specs.Networks.{Network, Arc}
use Rattle.algebra.specs.Semirings.{Algebra}
use Rattle.algebra.specs.Values.{joined, word}

-- r followed by a step over segment e, by n choices from c on
unfoldable pub ends_with : List Step → ℕ → ℕ → ℕ → List (List Step)
ends_with r e c zero = []
ends_with r e c (suc n) = (r ++ record { segment = e; choice = c } ∷ []) ∷ ends_with r e (suc c) n

-- each of the routes followed by a step over segment e, which has n choices
unfoldable pub extended : List (List Step) → ℕ → ℕ → List (List Step)
extended [] e n = []
extended (r ∷ rs) e n = ends_with r e 0 n ++ extended rs e n

-- the routes to v over segment e, where those to its tail are known
abbrev pub over : (ℕ → List (List Step)) → ℕ → ℕ → Option Arc → List (List Step)
over before v e None = []
over before v e (Some a) = cond (a.head == v) (extended (before a.tail) e (length a.sizes)) []

unfoldable pub into : (ℕ → List (List Step)) → ℕ → ℕ → List (Option Arc) → List (List Step)
into before v e [] = []
into before v e (x ∷ xs) = over before v e x ++ into before v (suc e) xs

-- the empty route, at the start
unfoldable pub own : ℕ → ℕ → List (List Step)
own start v = cond (v == start) ([] ∷ []) []

-- the routes of fewer than n steps
unfoldable pub within : Network → ℕ → ℕ → ℕ → List (List Step)
within N start zero v = []
within N start (suc n) v = own start v ++ into (within N start n) v 0 N.arcs

unfoldable pub routes : Network → ℕ → ℕ → List (List Step)
routes N start v = within N start (suc v) v

-- the routes to v whose last segment is below e, and the empty one
unfoldable pub routes_below : Network → ℕ → ℕ → ℕ → List (List Step)
routes_below N start v e = own start v ++ into (within N start v) v 0 (take e N.arcs)

unfoldable pub value : (A : Algebra) → Network → ℕ → ℕ → A.Carrier
value A N start v = joined A (map (word A N) (routes N start v))

-- what node v has gathered from the segments below e
unfoldable pub gathered : (A : Algebra) → Network → ℕ → ℕ → ℕ → A.Carrier
gathered A N start v e = joined A (map (word A N) (routes_below N start v e))

-- the letters of a segment, joined
abbrev pub letters : (A : Algebra) → Arc → A.Carrier
letters A a = joined A (map A.letter a.sizes)
