-- From what was read of a takeoff to its report. Assumes nothing.
use Rattle.std.proofs.Common.{◌≡◌, ℕ, ◌+◌, List, map, length, take, Some, Ok, Err, Result, sym, ap, ◌∙◌, subst, inr, arith, MatchResult}
use Rattle.std.proofs.lemmas.List.{length-map, take_all}
use Rattle.network.specs.declared.fault.Fault.{Fault}
use Rattle.network.specs.declared.record.Record.{Record}
use Rattle.network.specs.declared.weight.Weight.{Weight}
use Rattle.network.specs.Networks.{Network, arc}
use Rattle.sources.specs.Tables.{listed}
use Rattle.plan.specs.PlanParts.{PlanParts}
use Rattle.sources.specs.declared.table.Table.{Table}
use Rattle.takeoff.specs.declared.header.Header.{Header}
use Rattle.takeoff.specs.Answers.{Holds, FrontCounted}
use Rattle.takeoff.proofs.Kept.{map_some}
use Rattle.takeoff.proofs.Kept as kept
use Rattle.takeoff.specs.Takeoff.{Contents, Complete, Lawful, header_of, nodes_of, arcs_of, start_of, target_of, weights_of, encode}
use Rattle.printout.specs.declared.summary.Report.{Report}
use Rattle.printout.specs.declared.weight_line.WeightLine.{WeightLine}
use Rattle.corner_report.specs.Planned.{Entered, Lined, Planned, Reckoned, target_list}
use Rattle.corner_report.specs.Reports.{network_of, Answers, Takeoff, Misfits, Reported}
use Rattle.corner_report.proofs.AtTarget.{corners_settled}
use Rattle.corner_report.proofs.OneByOne.{few_corners}

-- what it answers is the report
module _ (bytes : List ℕ) (c : Contents) (whole : Complete c) (lawful : Lawful c) (says : bytes ≡ encode c) (rs : List Record) (drawn : map arc rs ≡ arcs_of c) where
  same_network : listed (nodes_of c) rs ≡ network_of c
  same_network = λ i. record { nodes = nodes_of c; arcs = (map_some rs ∙ ap (map Some) drawn) i }

  abbrev takeoff : Takeoff bytes
  takeoff = record { contents = c; complete = whole; lawful = lawful; says = says }

  pub reported : (r : Result Report Fault) → MatchResult r (Reckoned (header_of c) rs (weights_of c)) (Misfits (listed (nodes_of c) rs) (start_of c) (target_of c)) → Reported bytes r
  reported (Err f) h = inr (record { of = takeoff; misfits = subst (λ (N : Network). Misfits N (start_of c) (target_of c) f) same_network h })
  reported (Ok x) h =
      let long : length rs ≡ length (arcs_of c) = sym (length-map rs arc) ∙ ap length drawn in
      record {
        of = takeoff;
        headed = h.headed ∙ (λ i. record { nodes = nodes_of c; segments = long i; start = start_of c; target = target_of c });
        answers = subst (λ (N : Network). Answers N (start_of c) (target_of c) (weights_of c) x) same_network h.answers;
      }

-- the entries and lines of a plan are those of a report
pub answered : (N M : Network) → M ≡ N → (h : Header) (p : PlanParts Table) → Planned M h p → (weights : List Weight) (x : Report)
    → x.corners ≡ length (target_list h p) → length x.entries ≡ 32 → Entered M h.start h.target (target_list h p) x.entries x.corners
    → x.weights ≡ length weights → Lined M h.start h.target (target_list h p) weights x.lines (length weights)
    → Answers N h.start h.target weights x
answered N M same h p planned weights x counted room entered many lined =
    subst (λ (K : Network). Answers K h.start h.target weights x) same (record {
      list = target_list h p;
      corners = corners_settled M h.start (h.target + 1) p.state planned h.target (omega arith);
      corners_counted = counted;
      tells = λ k l. entered k (omega arith) (omega (arith, few_corners p.state.lists h.target));
      weights_counted = many;
      weights_kept = ap (λ n. map (λ (l : WeightLine). l.weight) (take n x.lines)) many ∙ lined.kept ∙ take_all (length weights) weights (omega arith);
      weighs = λ i l. lined.weighs i (omega arith);
    })

-- the first of the places, as many as the header counts
module _ (c : Contents) (h : Header) (is : h ≡ header_of c) (before after : List Record) (old new : List Weight) (segments : Holds arc (arcs_of c) before after) (counted : FrontCounted c after) (weights : Holds (λ (w : Weight). w) (weights_of c) old new) where
  abbrev rs : List Record
  rs = take h.segments after

  abbrev ws : List Weight
  ws = take h.weights new

  pub tells : (bytes : List ℕ) → Complete c → Lawful c → bytes ≡ encode c → (r : Result Report Fault)
      → MatchResult r (Reckoned h rs ws) (Misfits (listed h.nodes rs) h.start h.target) → Reported bytes r
  tells bytes whole lawful says r told =
      reported bytes c whole lawful says rs (kept.drawn c h is before after old new segments counted weights) r
      (subst (λ (xs : List Weight). MatchResult r (Reckoned (header_of c) rs xs) (Misfits (listed (nodes_of c) rs) (start_of c) (target_of c))) (kept.weighed c h is before after old new segments counted weights)
      (subst (λ (x : Header). MatchResult r (Reckoned x rs ws) (Misfits (listed x.nodes rs) x.start x.target)) is told))
