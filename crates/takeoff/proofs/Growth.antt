-- Contents grow by one field. Assumes nothing.
use Rattle.std.proofs.Common.{◌≡◌, ℕ, ◌+◌, ◌<◌, Bool, true, List, [], ◌∷◌, ◌++◌, map, length, take, drop, set, sym, refl, ap, ◌∙◌, subst, arith}
use Rattle.std.specs.List.{flat_map, AllByRecursion}
use Rattle.std.proofs.lemmas.List.{append_assoc, drop-drop, drop-set-lt, flat_map_more, length_push, length-set, map_push, take_more_set}
use Rattle.std.proofs.ByRecursion.{All-push}
use Rattle.network.specs.declared.record.Record.{Record}
use Rattle.network.specs.declared.weight.Weight.{Weight}
use Rattle.network.specs.Costs.{LawfulWeight}
use Rattle.network.specs.Networks.{arc}
use Rattle.network.specs.Records.{Counted as CountsChoices}
use Rattle.network.proofs.Lawful.{proper_from_lawful}
use Rattle.takeoff.specs.declared.header.Header.{Header}
use Rattle.takeoff.specs.declared.order.Stage.{Stage}
use Rattle.takeoff.specs.declared.values.Item.{Item}
use Rattle.takeoff.specs.declared.values.Item.TheVariants as item
use Rattle.takeoff.specs.Format.{Field, Nodes, Segment, Points, Weighing, form, spelled}
use Rattle.takeoff.specs.Takeoff.{Contents, fields, encode, arcs_of, weights_of, header_of, LawfulArc, Lawful, FindsRoom}
use Rattle.takeoff.specs.Refusals.{InOrder}
use Rattle.takeoff.specs.Answers.{Holds, FrontCounted}
use Rattle.takeoff.specs.Inner.{said, tag_for, ordered, Admits, counted, stored_segments, stored_weights, stage_of}
use Rattle.takeoff.proofs.Sequence.{extend, by_order}

-- a list of fields with one more at its end
joined_push : (fs : List Field) (f : Field) → flat_map spelled (fs ++ f ∷ []) ≡ flat_map spelled fs ++ spelled f
joined_push fs f = sym (flat_map_more spelled [] fs f)

-- the item is the last field of the contents that it makes
fields_grown : (c : Contents) (i : Item) → InOrder c (form (said i)) → fields (extend c (said i)) ≡ fields c ++ said i ∷ []
fields_grown = by_order (λ c i. fields (extend c (said i)) ≡ fields c ++ said i ∷ [])
    (λ n. refl)
    (λ n arcs s. ap (λ (fs : List Field). Nodes n ∷ fs) (map_push Segment arcs (arc s)))
    (λ n arcs s t. refl)
    (λ n arcs s t ws w.
    ap (λ (fs : List Field). Nodes n ∷ (map Segment arcs ++ Points s t ∷ fs)) (map_push Weighing ws w)
    ∙ ap (λ (fs : List Field). Nodes n ∷ fs) (sym (append_assoc (map Segment arcs) (Points s t ∷ map Weighing ws) (Weighing w ∷ []))))

pub encode_grown : (c : Contents) (i : Item) → InOrder c (form (said i)) → encode (extend c (said i)) ≡ encode c ++ spelled (said i)
encode_grown c i o = ap (flat_map spelled) (fields_grown c i o) ∙ joined_push (fields c) (said i)

pub header_grown : (c : Contents) (i : Item) → InOrder c (form (said i)) → header_of (extend c (said i)) ≡ counted (header_of c) i
header_grown = by_order (λ c i. header_of (extend c (said i)) ≡ counted (header_of c) i)
    (λ n. refl)
    (λ n arcs s. ap (λ (k : ℕ). record { nodes = n; start = 0; target = 0; segments = k; weights = 0 }) (length_push arcs (arc s)))
    (λ n arcs s t. refl)
    (λ n arcs s t ws w. ap (λ (k : ℕ). record { nodes = n; start = s; target = t; segments = length arcs; weights = k }) (length_push ws w))

stage_part : Stage × Bool → Stage
stage_part p = p.0

pub stage_grown : (c : Contents) (i : Item) → InOrder c (form (said i)) → (s : Stage) → (s, true) ≡ ordered (stage_of c) (tag_for i) → s ≡ stage_of (extend c (said i))
unfolding stage_part
stage_grown = by_order (λ c i. (s : Stage) → (s, true) ≡ ordered (stage_of c) (tag_for i) → s ≡ stage_of (extend c (said i)))
    (λ n s e. ap stage_part e)
    (λ n arcs a s e. ap stage_part e)
    (λ n arcs a b s e. ap stage_part e)
    (λ n arcs a b ws w s e. ap stage_part e)

-- an item that passes its checks keeps the contents lawful and in their room
abbrev Stays : ℕ → ℕ → Contents → Item → Type 0
Stays r q c i = Lawful c → FindsRoom r q c → Admits r q (header_of c) i → Lawful (extend c (said i)) × FindsRoom r q (extend c (said i))

module _ (r q : ℕ) where
  pub lawful_grown : (c : Contents) (i : Item) → InOrder c (form (said i)) → Stays r q c i
  lawful_grown = by_order (Stays r q)
      (λ n l room a. (record { counted = a; few = omega arith; each = tt }, room))
      (λ n arcs s l room a.
      let long = length_push arcs (arc s) in
      let fits : LawfulArc n (arc s) = (proper_from_lawful n s a.2, a.2.rises.0) in
      (record { counted = l.counted; few = omega (arith, a.0); each = All-push (LawfulArc n) arcs (arc s) l.each fits }, (omega (arith, a.1), room.1)))
      (λ n arcs s t l room a. ((l, record { start_inside = a.0; target_inside = a.1; few = omega arith; each = tt }), (room.0, omega arith)))
      (λ n arcs s t ws w l room a.
      let long = length_push ws w in
      let aim = l.1 in (
        (l.0, record { start_inside = aim.start_inside; target_inside = aim.target_inside; few = omega (arith, a.0); each = All-push LawfulWeight ws w aim.each a.2 }),
        (room.0, omega (arith, a.1)),
      ))

-- one more element behind those that stand in a place
drop_more_set : {X : Type 0} (k : ℕ) (before after : List X) (x : X) → drop k after ≡ drop k before → drop (k + 1) (set after k x) ≡ drop (k + 1) before
drop_more_set k before after x e =
    let here : k < k + 1 = omega arith in
    drop-set-lt (k + 1) after k x here ∙ sym (drop-drop 1 k after) ∙ ap (drop 1) e ∙ drop-drop 1 k before

holds_more : {X Y : Type 0} (means : X → Y) (items : List Y) (before after : List X) (x : X) → length items < length after → Holds means items before after →
    Holds means (items ++ means x ∷ []) before (set after (length items) x)
holds_more {X} {Y} means items before after x free h =
    let long = length_push items (means x) in
    record {
      front =
          ap (λ (k : ℕ). map means (take k (set after (length items) x))) long
          ∙ ap (map means) (take_more_set after (length items) x free)
          ∙ map_push means (take (length items) after) x
          ∙ ap (λ (ys : List Y). ys ++ means x ∷ []) h.front;
      rest =
          ap (λ (k : ℕ). drop k (set after (length items) x)) long
          ∙ drop_more_set (length items) before after x h.rest
          ∙ ap (λ (k : ℕ). drop k before) (sym long);
    }

-- what both places hold once the item is stored
module _ (r q : ℕ) (ss ss' : List Record) (ws ws' : List Weight) (long : length ss' ≡ r) (long' : length ws' ≡ q) where
  pub segments_grown : (c : Contents) (i : Item) → InOrder c (form (said i)) → Admits r q (header_of c) i → Holds arc (arcs_of c) ss ss' →
      Holds arc (arcs_of (extend c (said i))) ss (stored_segments (header_of c) i ss')
  segments_grown = by_order (λ c i. Admits r q (header_of c) i → Holds arc (arcs_of c) ss ss' → Holds arc (arcs_of (extend c (said i))) ss (stored_segments (header_of c) i ss'))
      (λ n a h. h)
      (λ n arcs s a h. holds_more arc arcs ss ss' s (omega (arith, a.1)) h)
      (λ n arcs s t a h. h)
      (λ n arcs s t xs w a h. h)

  pub counted_grown : (c : Contents) (i : Item) → InOrder c (form (said i)) → Admits r q (header_of c) i → FrontCounted c ss' →
      FrontCounted (extend c (said i)) (stored_segments (header_of c) i ss')
  counted_grown = by_order (λ c i. Admits r q (header_of c) i → FrontCounted c ss' → FrontCounted (extend c (said i)) (stored_segments (header_of c) i ss'))
      (λ n a h. h)
      (λ n arcs s a h.
      let free : length arcs < length ss' = omega (arith, a.1) in
      let front = ap (λ (k : ℕ). take k (set ss' (length arcs) s)) (length_push arcs (arc s)) ∙ take_more_set ss' (length arcs) s free in
      subst (AllByRecursion CountsChoices) (sym front) (All-push CountsChoices (take (length arcs) ss') s h a.2.counted))
      (λ n arcs s t a h. h)
      (λ n arcs s t xs w a h. h)

  pub weights_grown : (c : Contents) (i : Item) → InOrder c (form (said i)) → Admits r q (header_of c) i → Holds (λ (w : Weight). w) (weights_of c) ws ws' →
      Holds (λ (w : Weight). w) (weights_of (extend c (said i))) ws (stored_weights (header_of c) i ws')
  weights_grown = by_order (λ c i. Admits r q (header_of c) i → Holds (λ (w : Weight). w) (weights_of c) ws ws' →
      Holds (λ (w : Weight). w) (weights_of (extend c (said i))) ws (stored_weights (header_of c) i ws'))
      (λ n a h. h)
      (λ n arcs s a h. h)
      (λ n arcs s t a h. h)
      (λ n arcs s t xs w a h. holds_more (λ (v : Weight). v) xs ws ws' w (omega (arith, a.1)) h)

pub segments_long : (h : Header) (i : Item) (xs : List Record) → length (stored_segments h i xs) ≡ length xs
segments_long h (item.Nodes n) xs = refl
segments_long h (item.Segment s) xs = length-set xs h.segments s
segments_long h (item.Points s t) xs = refl
segments_long h (item.Weight w) xs = refl

pub weights_long : (h : Header) (i : Item) (xs : List Weight) → length (stored_weights h i xs) ≡ length xs
weights_long h (item.Nodes n) xs = refl
weights_long h (item.Segment s) xs = refl
weights_long h (item.Points s t) xs = refl
weights_long h (item.Weight w) xs = length-set xs h.weights w
