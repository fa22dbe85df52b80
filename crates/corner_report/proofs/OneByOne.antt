-- The entries and the lines of a report, one more each time. Assumes nothing.
use Rattle.std.proofs.Common.{◌≡◌, ℕ, zero, suc, ◌+◌, ◌<◌, ◌≤◌, ◌≢◌, List, [], ◌∷◌, ◌++◌, map, length, get_or, min, take, drop, set, Option, sym, refl, ap, ◌∙◌, subst, arith, length-set, below_more}
use Rattle.std.proofs.lemmas.List.{get_or_append_left, get_or-set_same, get_or-set_other, length-append, length-drop, length-take-le, map_push, take_more, take_more_set}
use Rattle.network.specs.declared.weight.Weight.{Weight}
use Rattle.network.specs.Networks.{Network}
use Rattle.geometry.specs.Plane.{Pt}
use Rattle.polygons.specs.declared.cheapest.Cheapest.{Cheapest}
use Rattle.polygons.specs.declared.polygon.Polygon.{Polygon}
use Rattle.traceback.specs.Tracing.{list_of}
use Rattle.printout.specs.declared.entry.Entry.{Entry}
use Rattle.printout.specs.declared.weight_line.WeightLine.{WeightLine}
use Rattle.corner_report.specs.Planned.{Entered, Lined}
use Rattle.corner_report.specs.Reports.{Tells, Weighs}

-- no list has more than 32 corners
pub few_corners : (lists : List Polygon) (u : ℕ) → length (list_of lists u) ≤ 32
few_corners [] u = omega arith
few_corners (p ∷ lists) zero = omega (arith, p.listed, p.few)
few_corners (p ∷ lists) (suc u) = few_corners lists u

-- what holds of each of the first n places holds of one more, where it is put there
put_more : {X : Type 0} (P : ℕ → X → Type 0) (xs : List X) (n : ℕ) (x : X) → n < length xs → P n x
    → ((k : ℕ) → k < n → (d : X) → P k (get_or xs k d)) → (k : ℕ) → k < n + 1 → (d : X) → P k (get_or (set xs n x) k d)
put_more {X} P xs n x inside here before =
    below_more (λ k. (d : X) → P k (get_or (set xs n x) k d)) n
    (λ k l d. let ne : k ≢ n = omega arith in subst (P k) (sym (get_or-set_other xs n k x d ne)) (before k l d))
    (λ d. subst (P n) (sym (get_or-set_same xs n x d inside)) here)

module _ (N : Network) (s v : ℕ) (list : List Pt) where
  pub entered_more : (entries : List Entry) (k : ℕ) (e : Entry) → k < length entries → Tells N s v list k e → Entered N s v list entries k → Entered N s v list (set entries k e) (k + 1)
  entered_more entries k e inside tells so = λ i below _. put_more (Tells N s v list) entries k e inside tells (λ j l. so j l (omega arith)) i below

  -- the entries that were made stand before those that were not
  pub entered_all : (made old : List Entry) (m n k : ℕ) → m ≡ min n 32 → length old ≡ 32 → length made ≡ length (take m old) → length made ≤ k
      → (n ≡ length list) × Entered N s v list made k → (length (made ++ drop m old) ≡ 32) × (n ≡ length list) × Entered N s v list (made ++ drop m old) n
  entered_all made old m n k least room long all so =
      let many : length made ≡ m = long ∙ length-take-le m old (omega (arith, least, room)) in
      let rest = length-drop m old in
      let whole : length (made ++ drop m old) ≡ 32 = length-append made (drop m old) ∙ (omega (arith, many, rest, room, least)) in (
        whole,
        so.0,
        λ j l inside d.
            let here : j < length made = omega (arith, l, inside, whole, many, least) in
            subst (Tells N s v list j) (sym (get_or_append_left made (drop m old) d j here)) (so.1 j (omega (arith, here, all)) here d),
      )

  pub lined_none : (weights : List Weight) (lines : List WeightLine) → length lines ≡ 16 → Lined N s v list weights lines 0
  lined_none weights lines room = record { room = room; kept = refl; weighs = λ i l. absurd (omega arith) }

  pub lined_more : (weights : List Weight) (lines : List WeightLine) (i : ℕ) (e : Weight) (b : Option Cheapest) → i < length weights → length weights ≤ 16
      → Weighs N s v list (get_or weights i e) b → Lined N s v list weights lines i → Lined N s v list weights (set lines i (record { weight = get_or weights i e; best = b })) (i + 1)
  lined_more weights lines i e b here few weighs so =
      let line : WeightLine = record { weight = get_or weights i e; best = b } in
      let inside : i < length lines = omega (arith, so.room) in
      record {
        room = length-set lines i line ∙ so.room;
        kept =
            ap (map (λ (l : WeightLine). l.weight)) (take_more_set lines i line inside)
            ∙ map_push (λ (l : WeightLine). l.weight) (take i lines) line
            ∙ ap (λ ws. ws ++ get_or weights i e ∷ []) so.kept
            ∙ sym (take_more weights i e here);
        weighs = put_more (λ _ (l : WeightLine). Weighs N s v list l.weight l.best) lines i line inside weighs so.weighs;
      }
