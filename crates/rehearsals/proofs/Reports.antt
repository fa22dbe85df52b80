-- What a report promises of a sample's takeoff. Assumes nothing.
use Rattle.std.proofs.Common.{◌≡◌, ℕ, ◌<◌, List, map, length, get_or, take, Ok, Err, Result, sym, refl, ap, ◌∙◌, subst, inl, inr, arith, MatchResult}
use Rattle.std.specs.List.{AllByRecursion}
use Rattle.std.proofs.ByRecursion.{All-get_or}
use Rattle.std.proofs.lemmas.List.{get_or-map, get_or-take, length-map, length-take, same_lists}
use Rattle.network.specs.declared.fault.Fault.{Fault}
use Rattle.network.specs.declared.weight.Weight.{Weight}
use Rattle.network.specs.Networks.{Network}
use Rattle.geometry.specs.Plane.{Pt}
use Rattle.corners.proofs.OneList.{one_corner_list}
use Rattle.takeoff.specs.Answers.{Answered}
use Rattle.takeoff.specs.Takeoff.{Contents, FindsRoom, header_of, start_of, target_of, weights_of}
use Rattle.takeoff.proofs.Unique.{answer_once}
use Rattle.printout.specs.declared.entry.Entry.{Entry}
use Rattle.printout.specs.declared.summary.Report.{Report}
use Rattle.printout.specs.declared.weight_line.WeightLine.{WeightLine}
use Rattle.corner_report.specs.Reports.{Answers, MisfitOf, Misfits, Reported, Tells, Weighs, heading_of, network_of}
use Rattle.samples.specs.Files.{FileOf}
use Rattle.rehearsals.specs.Reporting.{ReportSays}
use Rattle.samples.specs.Samples.{Holds, Sample}
use Rattle.rehearsals.proofs.AtNode.{entry_says, never_misfits}
use Rattle.rehearsals.proofs.OneCheapest.{one_answer}

abbrev weight_of : WeightLine → Weight
weight_of l = l.weight

module _ (x : Sample) (holds : Holds x) where
  -- the lines are those of the same weights, and a weight has one answer
  lines_same : (ws : List Weight) (r : Report) (lines : List WeightLine) → map weight_of lines ≡ ws
      → AllByRecursion (λ (l : WeightLine). Weighs x.network 0 x.node x.corners l.weight l.best) lines
      → map weight_of (take r.weights r.lines) ≡ ws
      → ((i : ℕ) → i < r.weights → (d : WeightLine) → Weighs x.network 0 x.node x.corners (get_or r.lines i d).weight (get_or r.lines i d).best)
      → take r.weights r.lines ≡ lines
  lines_same ws r lines expected right kept weighs =
      let shown = take r.weights r.lines in
      let long : length shown ≡ length lines = sym (length-map shown weight_of) ∙ ap length (kept ∙ sym expected) ∙ length-map lines weight_of in
      let cut = length-take r.weights r.lines in
      same_lists shown lines long (λ k d h.
      let there : k < length lines = omega (arith, long, h) in
      let counted : k < r.weights = omega (arith, cut, h) in
      let weight : (get_or shown k d).weight ≡ (get_or lines k d).weight =
      sym (get_or-map weight_of shown k d d.weight h) ∙ ap (λ zs. get_or zs k d.weight) (kept ∙ sym expected) ∙ get_or-map weight_of lines k d d.weight there in
      let its = subst (λ (l : WeightLine). Weighs x.network 0 x.node x.corners l.weight l.best) (sym (get_or-take r.weights r.lines k d counted)) (weighs k counted d) in
      let best : (get_or shown k d).best ≡ (get_or lines k d).best =
      one_answer x.network 0 x.node x.corners (get_or lines k d).weight (get_or shown k d).best (get_or lines k d).best
      (subst (λ (w : Weight). Weighs x.network 0 x.node x.corners w (get_or shown k d).best) weight its)
      (All-get_or (λ (l : WeightLine). Weighs x.network 0 x.node x.corners l.weight l.best) lines k d there right) in
      λ i. record { weight = weight i; best = best i })

  module _ (c : Contents) (lines : List WeightLine) (expected : map weight_of lines ≡ weights_of c)
      (right : AllByRecursion (λ (l : WeightLine). Weighs x.network 0 x.node x.corners l.weight l.best) lines) where
    report_says : (r : Report) → r.heading ≡ heading_of c → Answers x.network 0 x.node (weights_of c) r → ReportSays x c lines r
    report_says r headed answers =
        let same = one_corner_list x.network 0 x.node answers.list x.corners answers.corners holds.corners_are in
        let tells = subst (λ (list : List Pt). (k : ℕ) → k < length list → (d : Entry) → Tells x.network 0 x.node list k (get_or r.entries k d)) same answers.tells in
        let weighs = subst (λ (list : List Pt). (i : ℕ) → i < r.weights → (d : WeightLine) → Weighs x.network 0 x.node list (get_or r.lines i d).weight (get_or r.lines i d).best) same answers.weighs in
        record {
          headed = headed;
          counted = answers.corners_counted ∙ ap length same;
          each = λ k h d. entry_says x holds x.network refl x.node refl k h (get_or r.entries k d) (tells k h d);
          weighed = lines_same (weights_of c) r lines expected right answers.weights_kept weighs;
        }

-- the report of the file of a sample's takeoff
module _ (x : Sample) (holds : Holds x) (bytes : List ℕ) (c : Contents) (file : FileOf bytes c) (room : FindsRoom 1024 16 c)
    (drawn : network_of c ≡ x.network) (starts : start_of c ≡ 0) (ends : target_of c ≡ x.node) where
  -- the reader accepts it
  not_barred : (d : Contents) (f : Fault) → Answered 1024 16 bytes d (Err f) → ⊥
  not_barred d f answered =
      let ours : Answered 1024 16 bytes c (Ok (header_of c)) = record { lawful = file.lawful; room = room; ends = (file.complete, file.says, refl) } in
      let same = answer_once 1024 16 bytes c d (Ok (header_of c)) (Err f) ours answered in
      let z : ◌≡◌ {A = ℕ} 0 1 = cc in omega arith

  -- and all results fit
  not_misfit : (f : Fault) → MisfitOf bytes f → ⊥
  not_misfit f m =
      let same = file.alone m.of.contents m.of.lawful m.of.says in
      let misfits = subst (λ (N : Network). Misfits N 0 x.node f) drawn
      (subst (λ n. Misfits (network_of c) 0 n f) ends
      (subst (λ s. Misfits (network_of c) s (target_of c) f) starts
      (subst (λ (d : Contents). Misfits (network_of d) (start_of d) (target_of d) f) same m.misfits))) in
      never_misfits x holds x.network refl x.node refl f misfits

  module _ (lines : List WeightLine) (expected : map weight_of lines ≡ weights_of c)
      (right : AllByRecursion (λ (l : WeightLine). Weighs x.network 0 x.node x.corners l.weight l.best) lines) where
    pub reported : (r : Result Report Fault) → Reported bytes r → MatchResult r (λ y. ReportSays x c lines y) (λ _. ⊥)
    reported (Ok y) h =
        let same = file.alone h.of.contents h.of.lawful h.of.says in
        report_says x holds c lines expected right y
        (h.headed ∙ ap heading_of same)
        (subst (λ (N : Network). Answers N 0 x.node (weights_of c) y) drawn
        (subst (λ n. Answers (network_of c) 0 n (weights_of c) y) ends
        (subst (λ s. Answers (network_of c) s (target_of c) (weights_of c) y) starts
        (subst (λ (d : Contents). Answers (network_of d) (start_of d) (target_of d) (weights_of d) y) same h.answers))))
    reported (Err f) (inl barred) = not_barred barred.0 f barred.1
    reported (Err f) (inr misfit) = not_misfit f misfit
