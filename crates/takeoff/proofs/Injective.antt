-- The bytes of a field determine the field. Assumes nothing.
use Rattle.std.proofs.Common.{◌≡◌, ℕ, ◌/◌, ◌%◌, ◌<◌, List, [], ◌∷◌, ◌++◌, length, take, drop, ℤ, pos, negsuc, sym, refl, ap, ◌∙◌, arith}
use Rattle.std.specs.List.{flat_map, AllByRecursion}
use Rattle.std.proofs.lemmas.List.{append-nil, append_assoc, length-append, take_at, drop_at}
use Rattle.std.proofs.lemmas.Int.{ints}
use Rattle.network.specs.declared.size.Size.{Size}
use Rattle.network.specs.declared.weight.Weight.{Weight}
use Rattle.network.specs.Networks.{Arc}
use Rattle.takeoff.specs.Format.{Form, N, S, P, W, letter, Fitting, Field, Nodes, Segment, Points, Weighing, form, complement, four, size_bytes, value, framed, spelled, In16, In32, Short, Sayable}
use Rattle.takeoff.specs.Refusals.{Torn, Begins}
use Rattle.takeoff.proofs.Decoding.{sizes_long}

-- two's complement tells numbers apart within its range
complement_16 : (y z : ℤ) → In16 y → In16 z → complement 65536 y ≡ complement 65536 z → y ≡ z
complement_16 (pos m) (pos n) h k e = ap pos e
complement_16 (pos m) (negsuc n) h k e = absurd (omega (arith, ints, h.1, k.0))
complement_16 (negsuc m) (pos n) h k e = absurd (omega (arith, ints, h.0, k.1))
complement_16 (negsuc m) (negsuc n) h k e = let same : m ≡ n = omega (arith, ints, h.0, k.0) in ap negsuc same

complement_32 : (y z : ℤ) → In32 y → In32 z → complement 4294967296 y ≡ complement 4294967296 z → y ≡ z
complement_32 (pos m) (pos n) h k e = ap pos e
complement_32 (pos m) (negsuc n) h k e = absurd (omega (arith, ints, h.1, k.0))
complement_32 (negsuc m) (pos n) h k e = absurd (omega (arith, ints, h.0, k.1))
complement_32 (negsuc m) (negsuc n) h k e = let same : m ≡ n = omega (arith, ints, h.0, k.0) in ap negsuc same

two_digits : (m n : ℕ) → m / 256 ≡ n / 256 → m % 256 ≡ n % 256 → m ≡ n
two_digits m n h l = omega arith

four_digits : (m n : ℕ) → m / 16777216 ≡ n / 16777216 → m / 65536 % 256 ≡ n / 65536 % 256 → m / 256 % 256 ≡ n / 256 % 256 → m % 256 ≡ n % 256 → m ≡ n
four_digits m n a b c d = omega arith

cons_same : {X : Type 0} {x y : X} {xs ys : List X} → x ∷ xs ≡ y ∷ ys → (x ≡ y) × (xs ≡ ys)
cons_same e = ((cc), (cc))

-- four bytes tell choices apart
sizes_same : (ys zs : List Size) → AllByRecursion Short ys → AllByRecursion Short zs → flat_map size_bytes ys ≡ flat_map size_bytes zs → ys ≡ zs
sizes_same [] [] h k e = refl
sizes_same [] (z ∷ zs) h k e = absurd (omega (arith, ap length e))
sizes_same (y ∷ ys) [] h k e = absurd (omega (arith, ap length e))
sizes_same (y ∷ ys) (z ∷ zs) h k e =
    let a = cons_same e in
    let b = cons_same a.1 in
    let c = cons_same b.1 in
    let d = cons_same c.1 in
    let price = complement_16 y.price z.price h.0.0 k.0.0 (two_digits _ _ a.0 b.0) in
    let pressure = complement_16 y.pressure z.pressure h.0.1 k.0.1 (two_digits _ _ c.0 d.0) in
    let rest = sizes_same ys zs h.1 k.1 d.1 in
    λ i. record { price = price i; pressure = pressure i } ∷ rest i

arc_same : (x y : Arc) → x.tail ≡ y.tail → x.head ≡ y.head → x.sizes ≡ y.sizes → x ≡ y
arc_same x y tail head sizes = λ i. record { tail = tail i; head = head i; sizes = sizes i }

-- eight bytes tell weights apart
weight_same : (x y : Weight) → In32 x.a × In32 x.b → In32 y.a × In32 y.b → four x.a ++ four x.b ≡ four y.a ++ four y.b → x ≡ y
weight_same x y h k e =
    let a = cons_same e in
    let b = cons_same a.1 in
    let c = cons_same b.1 in
    let d = cons_same c.1 in
    let a' = cons_same d.1 in
    let b' = cons_same a'.1 in
    let c' = cons_same b'.1 in
    let d' = cons_same c'.1 in
    let one = complement_32 x.a y.a h.0 k.0 (four_digits _ _ a.0 b.0 c.0 d.0) in
    let other = complement_32 x.b y.b h.1 k.1 (four_digits _ _ a'.0 b'.0 c'.0 d'.0) in
    λ i. record { a = one i; b = other i }

-- one tag and one value are one field
pub field_same : (f g : Field) → Sayable f → Sayable g → letter (form f) ≡ letter (form g) → value f ≡ value g → f ≡ g
field_same (Nodes m) (Nodes n) h k t e = ap Nodes (cons_same e).0
field_same (Nodes m) (Segment b) h k t e = absurd (omega arith)
field_same (Nodes m) (Points s u) h k t e = absurd (omega arith)
field_same (Nodes m) (Weighing w) h k t e = absurd (omega arith)
field_same (Segment a) (Nodes n) h k t e = absurd (omega arith)
field_same (Segment a) (Segment b) h k t e =
    let tail = cons_same e in
    let head = cons_same tail.1 in
    ap Segment (arc_same a b tail.0 head.0 (sizes_same a.sizes b.sizes h.4 k.4 head.1))
field_same (Segment a) (Points s u) h k t e = absurd (omega arith)
field_same (Segment a) (Weighing w) h k t e = absurd (omega arith)
field_same (Points s u) (Nodes n) h k t e = absurd (omega arith)
field_same (Points s u) (Segment b) h k t e = absurd (omega arith)
field_same (Points s u) (Points s' u') h k t e =
    let start = cons_same e in
    let target = cons_same start.1 in
    (λ i. Points (start.0 i) (target.0 i))
field_same (Points s u) (Weighing w) h k t e = absurd (omega arith)
field_same (Weighing v) (Nodes n) h k t e = absurd (omega arith)
field_same (Weighing v) (Segment b) h k t e = absurd (omega arith)
field_same (Weighing v) (Points s u) h k t e = absurd (omega arith)
field_same (Weighing v) (Weighing w) h k t e = ap Weighing (weight_same v w h k e)

-- the length in front of a value says where it ends
pub framed_same : (t u : ℕ) (v w x y : List ℕ) → length v < 65536 → length w < 65536 → framed t v ++ x ≡ framed u w ++ y → (t ≡ u) × (v ≡ w) × (x ≡ y)
framed_same t u v w x y short short' e =
    let tag = cons_same e in
    let high = cons_same tag.1 in
    let low = cons_same high.1 in
    let long : length w ≡ length v = sym (two_digits (length v) (length w) high.0 low.0) in (
      tag.0,
      sym (take_at v x (length v) refl) ∙ ap (take (length v)) low.1 ∙ take_at w y (length v) long,
      sym (drop_at v x (length v) refl) ∙ ap (drop (length v)) low.1 ∙ drop_at w y (length v) long,
    )

pub begins_same : (rest : List ℕ) (t u : ℕ) (v w x y : List ℕ) → Begins rest t v x → Begins rest u w y → (t ≡ u) × (v ≡ w) × (x ≡ y)
begins_same rest t u v w x y b c = framed_same t u v w x y b.1 c.1 (sym b.0 ∙ c.0)

-- a whole field is not torn
pub whole_not_torn : (rest : List ℕ) (t : ℕ) (v x : List ℕ) → Begins rest t v x → Torn rest → ⊥
whole_not_torn rest t v x b torn =
    let all = sym (append_assoc (framed t v) x torn.more) ∙ ap (λ (l : List ℕ). l ++ torn.more) (sym b.0) ∙ torn.whole ∙ sym (append-nil (framed torn.tag torn.held)) in
    let none = (framed_same t torn.tag v torn.held (x ++ torn.more) [] b.1 torn.short all).2 in
    omega (arith, ap length none, length-append x torn.more, torn.missing)

pub tag_same : (g h : Form) → letter g ≡ letter h → g ≡ h
tag_same N N e = refl
tag_same N S e = absurd (omega arith)
tag_same N P e = absurd (omega arith)
tag_same N W e = absurd (omega arith)
tag_same S N e = absurd (omega arith)
tag_same S S e = refl
tag_same S P e = absurd (omega arith)
tag_same S W e = absurd (omega arith)
tag_same P N e = absurd (omega arith)
tag_same P S e = absurd (omega arith)
tag_same P P e = refl
tag_same P W e = absurd (omega arith)
tag_same W N e = absurd (omega arith)
tag_same W S e = absurd (omega arith)
tag_same W P e = absurd (omega arith)
tag_same W W e = refl

-- a field that its bytes can say has a length that its tag allows
pub sayable_fits : (f : Field) → Sayable f → Fitting (form f) (length (value f))
sayable_fits (Nodes n) s = refl
sayable_fits (Segment a) s = (length a.sizes, s.2, s.3, omega (arith, sizes_long a.sizes))
sayable_fits (Points s t) h = refl
sayable_fits (Weighing w) s = refl

pub fitting_short : (g : Form) (l : ℕ) → Fitting g l → l < 65536
fitting_short N l h = omega arith
fitting_short S l h = omega (arith, h.2, h.3)
fitting_short P l h = omega arith
fitting_short W l h = omega arith

pub spelled_begins : (rest : List ℕ) (f : Field) (x : List ℕ) → rest ≡ spelled f ++ x → Sayable f → Begins rest (letter (form f)) (value f) x
spelled_begins rest f x e s = (e, fitting_short (form f) (length (value f)) (sayable_fits f s))

pub spelled_same : (f g : Field) (x y : List ℕ) → Sayable f → Sayable g → spelled f ++ x ≡ spelled g ++ y → (f ≡ g) × (x ≡ y)
spelled_same f g x y h k e =
    let same = framed_same (letter (form f)) (letter (form g)) (value f) (value g) x y (spelled_begins _ f x refl h).1 (spelled_begins _ g y refl k).1 e in
    (field_same f g h k same.0 same.1, same.2)
