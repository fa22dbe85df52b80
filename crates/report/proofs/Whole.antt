-- From what was read of a takeoff to its report. Assumes nothing.
use Rattle.std.proofs.Common.{◌≡◌, ℕ, ◌<◌, List, map, length, get_or, take, Some, Ok, Err, Result, sym, ap, ◌∙◌, subst, inl, inr, arith, MatchResult}
use Rattle.std.specs.List.{AllByRecursion}
use Rattle.std.proofs.ByRecursion.{All-get_or}
use Rattle.std.proofs.lemmas.List.{length-map, take_all}
use Rattle.network.specs.declared.fault.Fault.{Fault}
use Rattle.network.specs.declared.record.Record.{Record}
use Rattle.network.specs.declared.weight.Weight.{Weight}
use Rattle.network.specs.Costs.{LawfulWeight}
use Rattle.network.specs.Networks.{Network, arc}
use Rattle.figures.specs.Leasts.{LeastRefused, LeastBadWeight, LeastNoNode}
use Rattle.sources.specs.Tables.{listed}
use Rattle.takeoff.specs.declared.header.Header.{Header}
use Rattle.takeoff.specs.Answers.{Holds, FrontCounted}
use Rattle.takeoff.proofs.Kept.{map_some}
use Rattle.takeoff.proofs.Kept as kept
use Rattle.takeoff.specs.Takeoff.{Contents, Complete, Lawful, header_of, nodes_of, arcs_of, start_of, target_of, weights_of, encode}
use Rattle.report.specs.declared.summary.Report.{Report}
use Rattle.report.specs.Lines.{Lined, Spoiled}
use Rattle.report.specs.Reports.{network_of, Reported, Told}

-- lawful weights between nodes all have a least cost
pub never_spoiled : (N : Network) (s t : ℕ) (weights : List Weight) (f : Fault) → s < N.nodes → t < N.nodes → AllByRecursion LawfulWeight weights → Spoiled N s t weights f → ⊥
never_spoiled N s t weights f p q lawful h = by_case (h.why d)
  where
    d : Weight
    d = record { a = lib.IntN.pos 0; b = lib.IntN.pos 0 }

    by_case : LeastRefused N s t (get_or weights h.which d) f → ⊥
    by_case (LeastBadWeight is bad) = bad (All-get_or LawfulWeight weights h.which d h.within lawful)
    by_case (LeastNoNode is w (inl a)) = omega arith
    by_case (LeastNoNode is w (inr a)) = omega arith

-- what it answers is the report
module _ (bytes : List ℕ) (c : Contents) (whole : Complete c) (lawful : Lawful c) (says : bytes ≡ encode c) (rs : List Record) (drawn : map arc rs ≡ arcs_of c) where
  same_network : listed (nodes_of c) rs ≡ network_of c
  same_network = λ i. record { nodes = nodes_of c; arcs = (map_some rs ∙ ap (map Some) drawn) i }

  pub reported : (r : Result Report Fault) → MatchResult r (Told (header_of c) rs (weights_of c)) (λ _. ⊥) → Reported bytes r
  reported (Err f) h = absurd h
  reported (Ok x) h =
      let long : length rs ≡ length (arcs_of c) = sym (length-map rs arc) ∙ ap length drawn in
      let lined : Lined (network_of c) (start_of c) (target_of c) (weights_of c) x.lines x.count =
      subst (λ (N : Network). Lined N (start_of c) (target_of c) (weights_of c) x.lines x.count) same_network
      (subst (Lined (listed (nodes_of c) rs) (start_of c) (target_of c) (weights_of c) x.lines) (sym h.counted) h.lined) in
      record {
        contents = c;
        complete = whole;
        lawful = lawful;
        says = says;
        headed = h.headed ∙ (λ i. record { nodes = nodes_of c; segments = long i; start = start_of c; target = target_of c });
        counted = h.counted;
        weighed = lined.weighed ∙ take_all x.count (weights_of c) (omega (arith, h.counted));
        costed = lined.costed;
      }

-- the first of the places, as many as the header counts
module _ (c : Contents) (h : Header) (is : h ≡ header_of c) (before after : List Record) (old new : List Weight) (segments : Holds arc (arcs_of c) before after) (counted : FrontCounted c after) (weights : Holds (λ (w : Weight). w) (weights_of c) old new) where
  abbrev rs : List Record
  rs = take h.segments after

  abbrev ws : List Weight
  ws = take h.weights new

  pub tells : (bytes : List ℕ) → Complete c → Lawful c → bytes ≡ encode c → (r : Result Report Fault) → MatchResult r (Told h rs ws) (λ _. ⊥) → Reported bytes r
  tells bytes whole lawful says r told =
      reported bytes c whole lawful says rs (kept.drawn c h is before after old new segments counted weights) r
      (subst (λ (xs : List Weight). MatchResult r (Told (header_of c) rs xs) (λ _. ⊥)) (kept.weighed c h is before after old new segments counted weights) (subst (λ (x : Header). MatchResult r (Told x rs ws) (λ _. ⊥)) is told))
