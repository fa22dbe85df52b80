-- A step stops for the reason that the file is refused. Assumes nothing.
use Rattle.std.proofs.Common.{◌≡◌, ℕ, List, [], ◌++◌, sym, ap, ◌∙◌, subst}
use Rattle.network.specs.Networks.{arc}
use Rattle.network.specs.Records as records
use Rattle.takeoff.specs.declared.reader.Reader.{Reader}
use Rattle.takeoff.specs.declared.tag.Tag.{Tag}
use Rattle.takeoff.specs.declared.values.Item.{Item}
use Rattle.takeoff.specs.declared.values.Item.TheVariants as item
use Rattle.takeoff.specs.Format.{Form, letter, form, framed, spelled}
use Rattle.takeoff.specs.Refusals as refusals
use Rattle.takeoff.specs.Takeoff.{Contents, header_of}
use Rattle.takeoff.specs.Refusals.{InOrder, Begins, Follows, Refused}
use Rattle.takeoff.specs.Inner.{form_of, said, Whole, Decoded, Bars, Crowded, Full, Unfit, CrowdedWeights, FullWeights, UnfitWeight, reader_of, Stops, ByEnd, ByTag, ByLength, ByOrder, ByRule}
use Rattle.takeoff.proofs.Sequence.{in_order, out_of_order, same_form}

-- a field that is whole and in order breaks the rule that its own check found
barred : (r q : ℕ) (c : Contents) (i : Item) (rest : List ℕ) (k : ℕ) → Whole i → Follows c (said i) rest → Bars r q (header_of c) i k → Refused r q c rest k
barred r q c (item.Nodes n) rest k w f b = refusals.BadCount b.0 n f b.1
barred r q c (item.Segment s) rest k w f (Crowded e many) = refusals.TooManySegments e (arc s) f many
barred r q c (item.Segment s) rest k w f (Full e few full) = refusals.NoRoomForSegment e (arc s) f few full
barred r q c (item.Segment s) rest k w f (Unfit few free (records.BadEnds e n)) = refusals.BadEnds e (arc s) f (few, free) n
barred r q c (item.Segment s) rest k w f (Unfit few free (records.BadCount e rises n)) = absurd (n w)
barred r q c (item.Segment s) rest k w f (Unfit few free (records.BadRange e rises counted n)) = refusals.OutOfRange e (arc s) f (few, free) rises n
barred r q c (item.Segment s) rest k w f (Unfit few free (records.BadTwins e rises counted ranged n)) = refusals.EqualChoices e (arc s) f (few, free) rises ranged n
barred r q c (item.Points s t) rest k w f b = refusals.BadPoints b.0 s t f b.1
barred r q c (item.Weight v) rest k w f (CrowdedWeights e many) = refusals.TooManyWeights e v f many
barred r q c (item.Weight v) rest k w f (FullWeights e few full) = refusals.NoRoomForWeight e v f few full
barred r q c (item.Weight v) rest k w f (UnfitWeight e few free n) = refusals.WeightRange e v f (few, free) n

tagged_as : (b : List ℕ) (t : ℕ) (v x : List ℕ) (u : Tag) → Begins b t v x → letter (form_of u) ≡ t → Begins b (letter (form_of u)) v x
tagged_as b t v x u begins tagged = (begins.0 ∙ ap (λ (y : ℕ). framed y v ++ x) (sym tagged), begins.1)

-- the bytes of a field that was cut off, tagged and decoded
pub spelled_out : (b : List ℕ) (t : ℕ) (v x : List ℕ) (u : Tag) (i : Item) → Begins b t v x → letter (form_of u) ≡ t → Decoded u v i → b ≡ spelled (said i) ++ x
spelled_out b t v x u i begins tagged d =
    (tagged_as b t v x u begins tagged).0
    ∙ ap (λ (g : Form). framed (letter g) v ++ x) (ap form_of d.tagged ∙ same_form i)
    ∙ ap (λ (y : List ℕ). framed (letter (form (said i))) y ++ x) (sym d.spells)

stopped : (r q : ℕ) (c : Contents) (b : List ℕ) (k : ℕ) → (b ≡ [] → ⊥) → Stops r q (reader_of c) b k → Refused r q c b k
stopped r q c b k some (ByEnd e torn) = refusals.CutShort e some torn
stopped r q c b k some (ByTag s) = refusals.UnknownTag s.numbered s.byte s.held s.after s.begins s.unknown
stopped r q c b k some (ByLength s) =
    refusals.WrongLength s.numbered (form_of s.tag) s.held s.after (tagged_as b s.byte s.held s.after s.tag s.begins s.tagged) s.unfit
stopped r q c b k some (ByOrder s) =
    refusals.OutOfOrder s.numbered (form_of s.tag) s.held s.after (tagged_as b s.byte s.held s.after s.tag s.begins s.tagged) s.fits
    (out_of_order c s.tag s.stays s.disorderly)
stopped r q c b k some (ByRule s) =
    barred r q c s.what b k s.decoded.whole
    (record {
      after = s.after;
      splits = spelled_out b s.byte s.held s.after s.tag s.what s.begins s.tagged s.decoded;
      sayable = s.decoded.sayable;
      in_order = subst (InOrder c) (ap form_of s.decoded.tagged ∙ same_form s.what) (in_order c s.tag s.goes s.orderly);
    })
    s.bars

pub refused_where_stopped : (r q : ℕ) (c : Contents) (st : Reader) (b : List ℕ) (k : ℕ) → st ≡ reader_of c → (b ≡ [] → ⊥) → Stops r q st b k → Refused r q c b k
refused_where_stopped r q c st b k e some s = stopped r q c b k some (subst (λ (u : Reader). Stops r q u b k) e s)
