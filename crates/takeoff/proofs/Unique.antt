-- A file has one reading. Assumes nothing.
use Rattle.std.proofs.Common.{◌≡◌, ℕ, ◌<◌, ◌≤◌, List, [], ◌∷◌, ◌++◌, map, length, ℤ, Ok, Err, Result, sym, refl, ap, ◌∙◌, subst, inl, inr, arith}
use Rattle.std.specs.List.{flat_map, AllByRecursion}
use Rattle.std.proofs.lemmas.List.{append-nil, append_assoc, append_cancel_left, length-append}
use Rattle.std.proofs.ByRecursion.{All-from_get_or}
use Rattle.std.proofs.lemmas.Int.{ints}
use Rattle.network.specs.declared.fault.Fault.{Fault}
use Rattle.network.specs.declared.size.Size.{Size}
use Rattle.network.specs.declared.weight.Weight.{Weight}
use Rattle.network.specs.Choices.{Ranged, choice}
use Rattle.network.specs.Costs.{LawfulWeight}
use Rattle.network.specs.Faults.{number}
use Rattle.network.specs.Networks.{Arc}
use Rattle.network.specs.Ranges.{Within}
use Rattle.takeoff.specs.declared.header.Header.{Header}
use Rattle.takeoff.specs.Format.{Field, Nodes, Segment, Points, Weighing, form, spelled, In16, In32, Short, Sayable}
use Rattle.takeoff.specs.Takeoff.{Contents, Empty, Drawn, Aimed, fields, encode, LawfulArc, LawfulDrawing, LawfulAim, Lawful, FindsRoom}
use Rattle.takeoff.specs.Refusals.{InOrder, Follows, Refused}
use Rattle.takeoff.specs.Answers.{Ends, Answered, Accepted, AcceptsExactly, Holds, Leaves}
use Rattle.takeoff.proofs.Sequence.{extend}
use Rattle.takeoff.proofs.Injective.{spelled_same}
use Rattle.takeoff.proofs.Refusals.{Hold, late, refused_once, kept_not_refused, end_not_refused}
use Rattle.takeoff.proofs.SameFault.{same_fault}

-- lawful numbers have their bytes
within_16 : (z : ℤ) → Within 10000 z → In16 z
within_16 z h = (omega (arith, ints, h.0), omega (arith, ints, h.1))

within_32 : (z : ℤ) → Within 6000000 z → In32 z
within_32 z h = (omega (arith, ints, h.0), omega (arith, ints, h.1))

sizes_short : (zs : List Size) → Ranged zs → AllByRecursion Short zs
sizes_short zs h = All-from_get_or Short zs _ (λ k inside. (within_16 (choice zs k).price (h k inside).0, within_16 (choice zs k).pressure (h k inside).1))

-- each of the fields may follow where it stands, and they lead from c to d
record Goes (r q : ℕ) (c : Contents) (f : Field) : Type 0 where
  orderly : InOrder c (form f)
  sayable : Sayable f
  keeps : Hold (late r q c f)

abbrev Walk : ℕ → ℕ → Contents → List Field → Contents → Type 0
Walk r q c [] d = c ≡ d
Walk r q c (f ∷ fs) d = Goes r q c f × Walk r q (extend c f) fs d

all_mid : {X : Type 0} (Q : X → Type 0) (xs : List X) (y : X) (ys : List X) → AllByRecursion Q (xs ++ y ∷ ys) → Q y
all_mid Q [] y ys a = a.0
all_mid Q (x ∷ xs) y ys a = all_mid Q xs y ys a.1

not_yet : {X : Type 0} (xs : List X) (y : X) (ys : List X) (n : ℕ) → length (xs ++ y ∷ ys) ≤ n → length xs < n
not_yet xs y ys n h = omega (arith, length-append xs (y ∷ ys))

goes_nodes : (r q n : ℕ) → 1 ≤ n → n ≤ 128 → Goes r q Empty (Nodes n)
goes_nodes r q n some few = record { orderly = refl; sayable = omega arith; keeps = ((some, few), tt) }

goes_segment : (r q n : ℕ) (done : List Arc) (a : Arc) → n ≤ 128 → LawfulArc n a → length done < 1024 → length done < r → Goes r q (Drawn n done) (Segment a)
goes_segment r q n done a few l many full =
    let proper = l.0 in
    let inside = proper.head_inside in
    record {
      orderly = inl refl;
      sayable = (omega (arith, proper.tail_inside), omega arith, proper.some, proper.few, sizes_short a.sizes proper.ranged);
      keeps = (many, (full, ((l.1, inside), (proper.ranged, (proper.apart, tt)))));
    }

goes_points : (r q n : ℕ) (arcs : List Arc) (s t : ℕ) → n ≤ 128 → s < n → t < n → Goes r q (Drawn n arcs) (Points s t)
goes_points r q n arcs s t few h k = record { orderly = inr refl; sayable = (omega arith, omega arith); keeps = ((h, k), tt) }

goes_weight : (r q n : ℕ) (arcs : List Arc) (s t : ℕ) (done : List Weight) (w : Weight) → LawfulWeight w → length done < 16 → length done < q → Goes r q (Aimed n arcs s t done) (Weighing w)
goes_weight r q n arcs s t done w l many full =
    record { orderly = refl; sayable = (within_32 w.a l.0, within_32 w.b l.1); keeps = (many, (full, (l, tt))) }

module _ (r q : ℕ) where
  -- through the segments that are still to come, and on
  walk_segments : (n : ℕ) (done todo : List Arc) (fs : List Field) (d : Contents) → LawfulDrawing n (done ++ todo) → length (done ++ todo) ≤ r →
      Walk r q (Drawn n (done ++ todo)) fs d → Walk r q (Drawn n done) (map Segment todo ++ fs) d
  walk_segments n done [] fs d l room w = subst (λ (arcs : List Arc). Walk r q (Drawn n arcs) fs d) (append-nil done) w
  walk_segments n done (a ∷ todo) fs d l room w =
      let e = append_assoc done (a ∷ []) todo in (
        goes_segment r q n done a l.counted.1 (all_mid (LawfulArc n) done a todo l.each) (not_yet done a todo 1024 l.few) (not_yet done a todo r room),
        walk_segments n (done ++ a ∷ []) todo fs d
            (subst (LawfulDrawing n) (sym e) l) (subst (λ (arcs : List Arc). length arcs ≤ r) (sym e) room) (subst (λ (arcs : List Arc). Walk r q (Drawn n arcs) fs d) (sym e) w),
      )

  walk_weights : (n : ℕ) (arcs : List Arc) (s t : ℕ) (done todo : List Weight) → LawfulAim n s t (done ++ todo) → length (done ++ todo) ≤ q →
      Walk r q (Aimed n arcs s t done) (map Weighing todo) (Aimed n arcs s t (done ++ todo))
  walk_weights n arcs s t done [] l room = ap (Aimed n arcs s t) (sym (append-nil done))
  walk_weights n arcs s t done (w ∷ todo) l room =
      let e = append_assoc done (w ∷ []) todo in (
        goes_weight r q n arcs s t done w (all_mid LawfulWeight done w todo l.each) (not_yet done w todo 16 l.few) (not_yet done w todo q room),
        subst (λ (ws : List Weight). Walk r q (Aimed n arcs s t (done ++ w ∷ [])) (map Weighing todo) (Aimed n arcs s t ws)) e
            (walk_weights n arcs s t (done ++ w ∷ []) todo (subst (LawfulAim n s t) (sym e) l) (subst (λ (ws : List Weight). length ws ≤ q) (sym e) room)),
      )

  -- lawful contents that find room are read field by field
  walk_lawful : (c : Contents) → Lawful c → FindsRoom r q c → Walk r q Empty (fields c) c
  walk_lawful Empty l room = refl
  walk_lawful (Drawn n arcs) l room = (
    goes_nodes r q n l.counted.0 l.counted.1,
    subst (λ (fs : List Field). Walk r q (Drawn n []) fs (Drawn n arcs)) (append-nil (map Segment arcs)) (walk_segments n [] arcs [] (Drawn n arcs) l room.0 refl),
  )
  walk_lawful (Aimed n arcs s t ws) l room =
      let drawing = l.0 in
      let aim = l.1 in (
        goes_nodes r q n drawing.counted.0 drawing.counted.1,
        walk_segments n [] arcs (Points s t ∷ map Weighing ws) (Aimed n arcs s t ws) drawing room.0
            (goes_points r q n arcs s t drawing.counted.1 aim.start_inside aim.target_inside, walk_weights n arcs s t [] ws aim room.1),
      )

  -- nothing more may follow
  abbrev Stuck : Contents → List ℕ → Type 0
  Stuck c rest = (f : Field) → Follows c f rest → Hold (late r q c f) → ⊥

  goes_on : (c d : Contents) (f : Field) (fs : List Field) (x y : List ℕ) → c ≡ d → Goes r q c f → x ≡ flat_map spelled (f ∷ fs) ++ y → Stuck d x → ⊥
  goes_on c d f fs x y e g splits stuck =
      subst (λ (u : Contents). Stuck u x) (sym e) stuck f
      (record { after = flat_map spelled fs ++ y; splits = splits ∙ append_assoc (spelled f) (flat_map spelled fs) y; sayable = g.sayable; in_order = g.orderly })
      g.keeps

  -- two walks over the same bytes that both get stuck are one
  walk_once : (fs gs : List Field) (c d e : Contents) (x y : List ℕ) → Walk r q c fs d → Walk r q c gs e → flat_map spelled fs ++ x ≡ flat_map spelled gs ++ y →
      Stuck d x → Stuck e y → d ≡ e
  walk_once [] [] c d e x y w v same stuck stuck' = sym w ∙ v
  walk_once [] (g ∷ gs) c d e x y w v same stuck stuck' = absurd (goes_on c d g gs x y w v.0 same stuck)
  walk_once (f ∷ fs) [] c d e x y w v same stuck stuck' = absurd (goes_on c e f fs y x v w.0 (sym same) stuck')
  walk_once (f ∷ fs) (g ∷ gs) c d e x y w v same stuck stuck' =
      let split = sym (append_assoc (spelled f) (flat_map spelled fs) x) ∙ same ∙ append_assoc (spelled g) (flat_map spelled gs) y in
      let one = spelled_same f g (flat_map spelled fs ++ x) (flat_map spelled gs ++ y) w.0.sayable v.0.sayable split in
      walk_once fs gs (extend c f) d e x y w.1 (subst (λ (h : Field). Walk r q (extend c h) gs e) (sym one.0) v.1) one.1 stuck stuck'

  -- what follows the contents that were read
  pub rest_of : (bytes : List ℕ) (c : Contents) (o : Result Header Fault) → Ends r q bytes c o → (rest : List ℕ) × (bytes ≡ encode c ++ rest) × Stuck c rest
  rest_of bytes c (Ok h) e = ([], e.1 ∙ sym (append-nil (encode c)), λ f k holds. omega (arith, ap length k.splits))
  rest_of bytes c (Err f) e = (e.0, e.1, λ g k holds. kept_not_refused r q c e.0 g (number f) k holds e.3)

  pub contents_once : (bytes : List ℕ) (c d : Contents) (o p : Result Header Fault) → Answered r q bytes c o → Answered r q bytes d p → c ≡ d
  contents_once bytes c d o p a b =
      let s = rest_of bytes c o a.ends in
      let t = rest_of bytes d p b.ends in
      walk_once (fields c) (fields d) Empty c d s.0 t.0 (walk_lawful c a.lawful a.room) (walk_lawful d b.lawful b.room) (sym s.1 ∙ t.1) s.2 t.2

  ends_once : (bytes : List ℕ) (c : Contents) (o p : Result Header Fault) → Ends r q bytes c o → Ends r q bytes c p → o ≡ p
  ends_once bytes c (Ok h) (Ok k) a b = ap Ok (a.2 ∙ sym b.2)
  ends_once bytes c (Ok h) (Err g) a b =
      let nil = append_cancel_left (encode c) b.0 [] (sym b.1 ∙ a.1 ∙ sym (append-nil (encode c))) in
      absurd (end_not_refused r q c b.0 (number g) a.0 nil b.3)
  ends_once bytes c (Err f) (Ok k) a b =
      let nil = append_cancel_left (encode c) a.0 [] (sym a.1 ∙ b.1 ∙ sym (append-nil (encode c))) in
      absurd (end_not_refused r q c a.0 (number f) b.0 nil a.3)
  ends_once bytes c (Err f) (Err g) a b =
      let rest = append_cancel_left (encode c) b.0 a.0 (sym b.1 ∙ a.1) in
      let one = refused_once r q c a.0 (number f) (number g) a.3 (subst (λ (x : List ℕ). Refused r q c x (number g)) rest b.3) in
      ap Err (same_fault f g (length (encode c)) a.2 b.2 one)

  pub answer_once : (bytes : List ℕ) (c d : Contents) (o p : Result Header Fault) → Answered r q bytes c o → Answered r q bytes d p → o ≡ p
  answer_once bytes c d o p a b = ends_once bytes c o p a.ends (subst (λ (u : Contents). Ends r q bytes u p) (sym (contents_once bytes c d o p a b)) b.ends)

  -- so the header comes exactly for takeoffs that find room
  accepted_answered : (bytes : List ℕ) (h : Header) (a : Accepted r q bytes h) → Answered r q bytes a.contents (Ok h)
  accepted_answered bytes h a = record { lawful = a.lawful; room = a.room; ends = (a.complete, a.says, a.header) }

  answered_accepted : (bytes : List ℕ) (c : Contents) (h : Header) → Answered r q bytes c (Ok h) → Accepted r q bytes h
  answered_accepted bytes c h a = record {
    contents = c;
    complete = a.ends.0;
    lawful = a.lawful;
    room = a.room;
    says = a.ends.1;
    header = a.ends.2;
  }

  pub accepts_exactly : (bytes : List ℕ) (c : Contents) (o : Result Header Fault) → Answered r q bytes c o → AcceptsExactly r q bytes o
  accepts_exactly bytes c o a = λ h. (
    (λ e. answered_accepted bytes c h (subst (Answered r q bytes c) e a)),
    (λ b. answer_once bytes c b.contents o (Ok h) a (accepted_answered bytes h b)),
  )

  -- and what holds of the contents that were read holds of any that could have been
  pub leaves : {X Y : Type 0} (part : Contents → List Y) (means : X → Y) (before after : List X) (bytes : List ℕ) (c : Contents) (o : Result Header Fault) →
      Answered r q bytes c o → Holds means (part c) before after → Leaves r q bytes o part means before after
  leaves part means before after bytes c o a h = λ d b. subst (λ (e : Contents). Holds means (part e) before after) (contents_once bytes c d o o a b) h

-- no field begins where the bytes end
stuck_at_end : (r q : ℕ) (c : Contents) → Stuck r q c []
stuck_at_end r q c f k holds = omega (arith, ap length k.splits)

widest : (c : Contents) → Lawful c → FindsRoom 1024 16 c
widest Empty l = (omega arith, omega arith)
widest (Drawn n arcs) l = (l.few, omega arith)
widest (Aimed n arcs s t ws) l = (l.0.few, l.1.few)

pub one_file : (c d : Contents) → Lawful c → Lawful d → encode c ≡ encode d → c ≡ d
one_file c d l m e =
    walk_once 1024 16 (fields c) (fields d) Empty c d [] [] (walk_lawful 1024 16 c l (widest c l)) (walk_lawful 1024 16 d m (widest d m))
    (ap (λ (b : List ℕ). b ++ []) e) (stuck_at_end 1024 16 c) (stuck_at_end 1024 16 d)
