-- A rest is refused for one reason, and only where no field may follow. Assumes nothing.
use Rattle.std.proofs.Common.{◌≡◌, ℕ, ◌<◌, ◌≤◌, ◌⊎◌, List, [], ◌∷◌, length, sym, refl, ap, ◌∙◌, subst, inl, inr, arith}
use Rattle.network.specs.Choices.{Ranged, Apart}
use Rattle.network.specs.Costs.{LawfulWeight}
use Rattle.takeoff.specs.Format.{Form, letter, Fitting, Field, Nodes, Segment, Points, Weighing, form, value}
use Rattle.takeoff.specs.Takeoff.{Contents, Complete, nodes_of, arcs_of, weights_of, Counted}
use Rattle.takeoff.specs.Refusals.{InOrder, Torn, Begins, Known, Follows, Rises, Refused, EndsEarly, CutShort, UnknownTag, WrongLength, OutOfOrder, BadCount, TooManySegments, NoRoomForSegment, BadEnds, OutOfRange, EqualChoices, BadPoints, TooManyWeights, NoRoomForWeight, WeightRange}
use Rattle.takeoff.proofs.Injective.{begins_same, whole_not_torn, tag_same, sayable_fits, spelled_begins, spelled_same}

-- rules with their numbers, in the order in which they are checked
abbrev pub Rules : Type 1
Rules = List (ℕ × Type 0)

-- k is the number of the first rule that does not hold
abbrev pub First : Rules → ℕ → Type 0
First [] k = ⊥
First (rule ∷ rules) k = ((k ≡ rule.0) × (rule.1 → ⊥)) ⊎ (rule.1 × First rules k)

abbrev pub Hold : Rules → Type 0
Hold [] = Unit {0}
Hold (rule ∷ rules) = rule.1 × Hold rules

first_once : (rules : Rules) (j k : ℕ) → First rules j → First rules k → j ≡ k
first_once [] j k f g = absurd f
first_once (rule ∷ rules) j k (inl f) (inl g) = f.0 ∙ sym g.0
first_once (rule ∷ rules) j k (inl f) (inr g) = absurd (f.1 g.0)
first_once (rule ∷ rules) j k (inr f) (inl g) = absurd (g.1 f.0)
first_once (rule ∷ rules) j k (inr f) (inr g) = first_once rules j k f.1 g.1

first_none : (rules : Rules) (k : ℕ) → First rules k → Hold rules → ⊥
first_none [] k f h = f
first_none (rule ∷ rules) k (inl f) h = f.1 h.0
first_none (rule ∷ rules) k (inr f) h = first_none rules k f.1 h.1

-- the rules of any rest, and of a field that is whole and in order
abbrev early : Contents → List ℕ → Rules
early c rest =
    (4, (rest ≡ [] → Complete c))
    ∷ (1, ((rest ≡ [] → ⊥) → Torn rest → ⊥))
    ∷ (2, ((t : ℕ) (v x : List ℕ) → Begins rest t v x → Known t))
    ∷ (3, ((g : Form) (v x : List ℕ) → Begins rest (letter g) v x → Fitting g (length v)))
    ∷ (4, ((g : Form) (v x : List ℕ) → Begins rest (letter g) v x → InOrder c g))
    ∷ []

abbrev pub late : ℕ → ℕ → Contents → Field → Rules
late r q c (Nodes n) = (5, Counted n) ∷ []
late r q c (Segment a) =
    (11, (length (arcs_of c) < 1024)) ∷ (10, (length (arcs_of c) < r)) ∷ (5, Rises (nodes_of c) a) ∷ (7, Ranged a.sizes) ∷ (12, Apart a.sizes) ∷ []
late r q c (Points s t) = (5, ((s < nodes_of c) × (t < nodes_of c))) ∷ []
late r q c (Weighing w) = (11, (length (weights_of c) < 16)) ∷ (10, (length (weights_of c) < q)) ∷ (8, LawfulWeight w) ∷ []

-- a refusal is for the first early rule, or for the first late one of the field that follows
data Sorted (r q : ℕ) (c : Contents) (rest : List ℕ) (k : ℕ) : Type 0 where
  Early : First (early c rest) k → Sorted r q c rest k
  Late : (f : Field) → Follows c f rest → First (late r q c f) k → Sorted r q c rest k

module _ (rest : List ℕ) (t : ℕ) (v x : List ℕ) (b : Begins rest t v x) where
  some : rest ≡ [] → ⊥
  some e = omega (arith, ap length (sym b.0 ∙ e))

  not_torn : (rest ≡ [] → ⊥) → Torn rest → ⊥
  not_torn n = whole_not_torn rest t v x b

  known : Known t → (u : ℕ) (w y : List ℕ) → Begins rest u w y → Known u
  known k u w y d = subst Known (begins_same rest t u v w x y b d).0 k

module _ (rest : List ℕ) (g : Form) (v x : List ℕ) (b : Begins rest (letter g) v x) where
  -- what holds of the form and the value holds however the bytes are cut
  as_cut : (Q : Form → List ℕ → Type 0) → Q g v → (h : Form) (w y : List ℕ) → Begins rest (letter h) w y → Q h w
  as_cut Q p h w y d =
      let same = begins_same rest (letter g) (letter h) v w x y b d in
      subst (λ (u : List ℕ). Q h u) same.1 (subst (λ (u : Form). Q u v) (tag_same g h same.0) p)

module _ (c : Contents) (f : Field) (rest : List ℕ) (h : Follows c f rest) where
  -- the field that follows keeps every early rule
  follows_early : Hold (early c rest)
  follows_early =
      let b = spelled_begins rest f h.after h.splits h.sayable in (
        (λ e. absurd (some rest _ _ _ b e)),
        (
          not_torn rest _ _ _ b,
          (
            known rest _ _ _ b (form f, refl),
            (
              as_cut rest (form f) (value f) h.after b (λ g v. Fitting g (length v)) (sayable_fits f h.sayable),
              (as_cut rest (form f) (value f) h.after b (λ g v. InOrder c g) h.in_order, tt),
            ),
          ),
        ),
      )

  follows_once : (g : Field) → Follows c g rest → f ≡ g
  follows_once g k = (spelled_same f g h.after k.after h.sayable k.sayable (sym h.splits ∙ k.splits)).0

below : {m n : ℕ} → n ≤ m → m < n → ⊥
below h k = omega arith

sorted : (r q : ℕ) (c : Contents) (rest : List ℕ) (k : ℕ) → Refused r q c rest k → Sorted r q c rest k
sorted r q c rest k (EndsEarly e nil n) = Early (inl (e, λ h. n (h nil)))
sorted r q c rest k (CutShort e more torn) = Early (inr ((λ nil. absurd (more nil)), inl (e, λ h. h more torn)))
sorted r q c rest k (UnknownTag e t v x b n) = Early (inr ((λ nil. absurd (some rest t v x b nil)), inr (not_torn rest t v x b, inl (e, λ h. n (h t v x b)))))
sorted r q c rest k (WrongLength e g v x b n) =
    Early (inr ((λ nil. absurd (some rest _ v x b nil)), inr (not_torn rest _ v x b, inr (known rest _ v x b (g, refl), inl (e, λ h. n (h g v x b))))))
sorted r q c rest k (OutOfOrder e g v x b fits n) =
    Early (inr (
      (λ nil. absurd (some rest _ v x b nil)),
      inr (
        not_torn rest _ v x b,
        inr (
          known rest _ v x b (g, refl),
          inr (as_cut rest g v x b (λ g v. Fitting g (length v)) fits, inl (e, λ h. n (h g v x b))),
        ),
      ),
    ))
sorted r q c rest k (BadCount e m f n) = Late (Nodes m) f (inl (e, n))
sorted r q c rest k (TooManySegments e a f many) = Late (Segment a) f (inl (e, below many))
sorted r q c rest k (NoRoomForSegment e a f few full) = Late (Segment a) f (inr (few, inl (e, below full)))
sorted r q c rest k (BadEnds e a f more n) = Late (Segment a) f (inr (more.0, inr (more.1, inl (e, n))))
sorted r q c rest k (OutOfRange e a f more rises n) = Late (Segment a) f (inr (more.0, inr (more.1, inr (rises, inl (e, n)))))
sorted r q c rest k (EqualChoices e a f more rises ranged n) = Late (Segment a) f (inr (more.0, inr (more.1, inr (rises, inr (ranged, inl (e, n))))))
sorted r q c rest k (BadPoints e s t f n) = Late (Points s t) f (inl (e, n))
sorted r q c rest k (TooManyWeights e w f many) = Late (Weighing w) f (inl (e, below many))
sorted r q c rest k (NoRoomForWeight e w f few full) = Late (Weighing w) f (inr (few, inl (e, below full)))
sorted r q c rest k (WeightRange e w f more n) = Late (Weighing w) f (inr (more.0, inr (more.1, inl (e, n))))

module _ (r q : ℕ) (c : Contents) (rest : List ℕ) where
  sorted_once : (j k : ℕ) → Sorted r q c rest j → Sorted r q c rest k → j ≡ k
  sorted_once j k (Early a) (Early b) = first_once (early c rest) j k a b
  sorted_once j k (Early a) (Late f h b) = absurd (first_none (early c rest) j a (follows_early c f rest h))
  sorted_once j k (Late f h a) (Early b) = absurd (first_none (early c rest) k b (follows_early c f rest h))
  sorted_once j k (Late f h a) (Late g h' b) =
      first_once (late r q c g) j k (subst (λ (u : Field). First (late r q c u) j) (follows_once c f rest h g h') a) b

  pub refused_once : (j k : ℕ) → Refused r q c rest j → Refused r q c rest k → j ≡ k
  refused_once j k a b = sorted_once j k (sorted r q c rest j a) (sorted r q c rest k b)

  sorted_none : (f : Field) (k : ℕ) → Follows c f rest → Hold (late r q c f) → Sorted r q c rest k → ⊥
  sorted_none f k h holds (Early a) = first_none (early c rest) k a (follows_early c f rest h)
  sorted_none f k h holds (Late g h' a) = first_none (late r q c g) k a (subst (λ (u : Field). Hold (late r q c u)) (follows_once c f rest h g h') holds)

  -- a field that keeps all rules is not refused
  pub kept_not_refused : (f : Field) (k : ℕ) → Follows c f rest → Hold (late r q c f) → Refused r q c rest k → ⊥
  kept_not_refused f k h holds a = sorted_none f k h holds (sorted r q c rest k a)

  ended : Complete c → rest ≡ [] → Hold (early c rest)
  ended done nil =
      let no_field : (t : ℕ) (v x : List ℕ) → Begins rest t v x → ⊥ = λ t v x b. some rest t v x b nil in
      ((λ e. done), ((λ n. absurd (n nil)), ((λ t v x b. absurd (no_field t v x b)), ((λ g v x b. absurd (no_field _ v x b)), ((λ g v x b. absurd (no_field _ v x b)), tt)))))

  sorted_ended : (k : ℕ) → Complete c → rest ≡ [] → Sorted r q c rest k → ⊥
  sorted_ended k done nil (Early a) = first_none (early c rest) k a (ended done nil)
  sorted_ended k done nil (Late f h a) = some rest _ _ _ (spelled_begins rest f h.after h.splits h.sayable) nil

  -- nor is the end of complete contents
  pub end_not_refused : (k : ℕ) → Complete c → rest ≡ [] → Refused r q c rest k → ⊥
  end_not_refused k done nil a = sorted_ended k done nil (sorted r q c rest k a)
