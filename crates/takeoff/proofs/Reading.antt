-- The turns and the ends of the reading loop. Assumes nothing.
use Rattle.std.proofs.Common.{◌≡◌, ℕ, ◌+◌, ◌<◌, ◌≤◌, true, List, [], ◌++◌, length, Err, sym, refl, ap, ◌∙◌, subst, arith}
use Rattle.std.proofs.lemmas.List.{append_assoc, length-append}
use Rattle.network.specs.declared.fault.Fault.{Fault}
use Rattle.network.specs.declared.fault.Place.TheVariants.{At}
use Rattle.network.specs.declared.record.Record.{Record}
use Rattle.network.specs.declared.weight.Weight.{Weight}
use Rattle.network.specs.Faults.{number}
use Rattle.network.specs.Networks.{arc}
use Rattle.takeoff.specs.declared.header.Header.{Header}
use Rattle.takeoff.specs.declared.order.Stage.{Stage}
use Rattle.takeoff.specs.declared.reader.Reader.{Reader}
use Rattle.takeoff.specs.Format.{form, spelled}
use Rattle.takeoff.specs.Takeoff.{Empty, encode, arcs_of, weights_of, header_of}
use Rattle.takeoff.specs.Refusals.{InOrder}
use Rattle.takeoff.specs.Answers.{Holds, FrontCounted}
use Rattle.takeoff.specs.Inner.{form_of, said, ordered, Admits, counted, stored_segments, stored_weights, stage_of, reader_of, Stepped, Stops, Halted, SoFar, Finished}
use Rattle.takeoff.proofs.Sequence.{extend, in_order, same_form}
use Rattle.takeoff.proofs.Growth.{encode_grown, header_grown, stage_grown, lawful_grown, segments_grown, counted_grown, weights_grown, segments_long, weights_long}
use Rattle.takeoff.proofs.Halting.{spelled_out, refused_where_stopped}

some_bytes : (b : List ℕ) → 1 ≤ length b → b ≡ [] → ⊥
some_bytes b h e = omega (arith, ap length e)

reader_same : (st : Reader) (at : ℕ) (s : Stage) (h : Header) → st.at ≡ at → st.stage ≡ s → st.header ≡ h → st ≡ record { at = at; stage = s; header = h }
reader_same st at s h e f g = λ i. record { at = e i; stage = f i; header = g i }

pub begins : (bytes : List ℕ) (ss : List Record) (ws : List Weight) (st : Reader) → st ≡ reader_of Empty → SoFar bytes bytes st ss ss ws ws
begins bytes ss ws st e = record {
  contents = Empty;
  lawful = tt;
  room = (omega arith, omega arith);
  splits = refl;
  reader = e;
  segments_held = record { front = refl; rest = refl };
  segments_counted = tt;
  weights_held = record { front = refl; rest = refl };
  segments_long = refl;
  weights_long = refl;
}

module _ (bytes rest : List ℕ) (st : Reader) (ss ss' : List Record) (ws ws' : List Weight) (f : SoFar bytes rest st ss ss' ws ws') where
  pub within : st.at + length rest ≡ length bytes
  within = ap (λ (r : Reader). r.at + length rest) f.reader ∙ sym (ap length f.splits ∙ length-append (encode f.contents) rest)

  -- after a step that took an item
  module _ (x : List ℕ) (st' : Reader) (ss'' : List Record) (ws'' : List Weight) (step : Stepped st st' rest x ss' ss'' ws' ws'') where
    orderly_at : (st'.stage, true) ≡ ordered (stage_of f.contents) step.tag
    orderly_at = step.orderly ∙ ap (λ (r : Reader). ordered r.stage step.tag) f.reader

    goes : InOrder f.contents (form (said step.what))
    goes =
        subst (InOrder f.contents) (ap form_of step.decoded.tagged ∙ same_form step.what)
        (in_order f.contents step.tag st'.stage orderly_at)

    admits_at : Admits (length ss) (length ws) (header_of f.contents) step.what
    admits_at =
        subst (λ (n : ℕ). Admits n (length ws) (header_of f.contents) step.what) f.segments_long
        (subst (λ (n : ℕ). Admits (length ss') n (header_of f.contents) step.what) f.weights_long
        (subst (λ (r : Reader). Admits (length ss') (length ws') r.header step.what) f.reader step.admits))

    says : rest ≡ spelled (said step.what) ++ x
    says = spelled_out rest step.byte step.held x step.tag step.what step.begins step.tagged step.decoded

    pub shorter : length x < length rest
    shorter = omega (arith, ap length says, length-append (spelled (said step.what)) x)

    reader_now : st' ≡ reader_of (extend f.contents (said step.what))
    reader_now =
        let at_was = ap (λ (r : Reader). r.at) f.reader in
        let grown = ap length (encode_grown f.contents step.what goes) in
        let both = length-append (encode f.contents) (spelled (said step.what)) in
        let here = ap length says in
        let parts = length-append (spelled (said step.what)) x in
        reader_same st' _ _ _
        (omega (arith, step.at_now))
        (stage_grown f.contents step.what goes st'.stage (orderly_at ∙ ap (ordered (stage_of f.contents)) step.decoded.tagged))
        (step.header_now ∙ ap (λ (r : Reader). counted r.header step.what) f.reader ∙ sym (header_grown f.contents step.what goes))

    pub again : SoFar bytes x st' ss ss'' ws ws''
    again =
        let c = f.contents in
        let i = step.what in
        let header = ap (λ (r : Reader). r.header) f.reader in
        let lawful = lawful_grown (length ss) (length ws) c i goes f.lawful f.room admits_at in
        let stored = step.segments_now ∙ ap (λ (h : Header). stored_segments h i ss') header in
        let stored' = step.weights_now ∙ ap (λ (h : Header). stored_weights h i ws') header in
        record {
          contents = extend c (said i);
          lawful = lawful.0;
          room = lawful.1;
          splits =
              f.splits ∙ ap (λ (b : List ℕ). encode c ++ b) says ∙ sym (append_assoc (encode c) (spelled (said i)) x)
              ∙ ap (λ (b : List ℕ). b ++ x) (sym (encode_grown c i goes));
          reader = reader_now;
          segments_held =
              subst (Holds arc (arcs_of (extend c (said i))) ss) (sym stored)
              (segments_grown (length ss) (length ws) ss ss' ws ws' f.segments_long f.weights_long c i goes admits_at f.segments_held);
          segments_counted =
              subst (FrontCounted (extend c (said i))) (sym stored)
              (counted_grown (length ss) (length ws) ss ss' ws ws' f.segments_long f.weights_long c i goes admits_at f.segments_counted);
          weights_held =
              subst (Holds (λ (w : Weight). w) (weights_of (extend c (said i))) ws) (sym stored')
              (weights_grown (length ss) (length ws) ss ss' ws ws' f.segments_long f.weights_long c i goes admits_at f.weights_held);
          segments_long = ap length stored ∙ segments_long (header_of c) i ss' ∙ f.segments_long;
          weights_long = ap length stored' ∙ weights_long (header_of c) i ws' ∙ f.weights_long;
        }

  -- after a step that stopped
  pub halts : (g : Fault) (ss'' : List Record) (ws'' : List Weight) → 1 ≤ length rest → Halted st rest g ss' ss'' ws' ws'' → Finished bytes (Err g) ss ss'' ws ws''
  halts g ss'' ws'' some halt =
      let c = f.contents in
      let why =
      refused_where_stopped (length ss) (length ws) c st rest (number g) f.reader (some_bytes rest some)
      (subst (λ (n : ℕ). Stops n (length ws) st rest (number g)) f.segments_long
      (subst (λ (n : ℕ). Stops (length ss') n st rest (number g)) f.weights_long halt.stops)) in
      record {
        contents = c;
        answered = record {
          lawful = f.lawful;
          room = f.room;
          ends = (rest, f.splits, halt.placed ∙ ap (λ (r : Reader). At r.at) f.reader, why);
        };
        segments_held = subst (Holds arc (arcs_of c) ss) (sym halt.segments_kept) f.segments_held;
        segments_counted = subst (FrontCounted c) (sym halt.segments_kept) f.segments_counted;
        weights_held = subst (Holds (λ (w : Weight). w) (weights_of c) ws) (sym halt.weights_kept) f.weights_held;
        segments_long = ap length halt.segments_kept ∙ f.segments_long;
        weights_long = ap length halt.weights_kept ∙ f.weights_long;
      }
