-- The format of a takeoff file: what a field says, and the bytes that say it. Assumes nothing.
use Rattle.std.specs.Prelude.{◌≡◌, ℕ, suc, ◌+◌, ◌-◌, ◌*◌, ◌/◌, ◌%◌, ◌<◌, ◌≤◌, List, [], ◌∷◌, ◌++◌, length, ℤ, pos, negsuc, ◌≤ℤ◌}
use Rattle.std.specs.List.{flat_map, AllByRecursion}
use Rattle.network.specs.declared.size.Size.{Size}
use Rattle.network.specs.declared.weight.Weight.{Weight}
use Rattle.network.specs.Networks.{Arc}

-- the four forms of field, each by the letter of its tag
pub data Form : Type 0 where
  N : Form
  S : Form
  P : Form
  W : Form

-- the byte of each tag: N, S, P and W in ASCII
abbrev pub letter : Form → ℕ
letter N = 78
letter S = 83
letter P = 80
letter W = 87

-- how many bytes the value of each form may have
abbrev pub Fitting : Form → ℕ → Type 0
Fitting N l = l ≡ 1
Fitting S l = (choices : ℕ) × (1 ≤ choices) × (choices ≤ 8) × (l ≡ 2 + 4 * choices)
Fitting P l = l ≡ 2
Fitting W l = l ≡ 8

-- what one field says: how many nodes there are, a segment, start and target, a weight
pub data Field : Type 0 where
  Nodes : ℕ → Field
  Segment : Arc → Field
  Points : ℕ → ℕ → Field
  Weighing : Weight → Field

abbrev pub form : Field → Form
form (Nodes n) = N
form (Segment a) = S
form (Points s t) = P
form (Weighing w) = W

-- two's complement: the number itself, or what is left of m where it is negative
abbrev pub complement : ℕ → ℤ → ℕ
complement m (pos n) = n
complement m (negsuc n) = m - suc n

-- a number in 16 bits and in 32 bits, high byte first
abbrev pub two : ℤ → List ℕ
two z = (complement 65536 z / 256) ∷ (complement 65536 z % 256) ∷ []

abbrev pub four : ℤ → List ℕ
four z =
    (complement 4294967296 z / 16777216) ∷ (complement 4294967296 z / 65536 % 256)
    ∷ (complement 4294967296 z / 256 % 256) ∷ (complement 4294967296 z % 256) ∷ []

-- a choice: its price and its pressure loss
abbrev pub size_bytes : Size → List ℕ
size_bytes z = two z.price ++ two z.pressure

-- the value of a field
abbrev pub value : Field → List ℕ
value (Nodes n) = n ∷ []
value (Segment a) = a.tail ∷ a.head ∷ flat_map size_bytes a.sizes
value (Points s t) = s ∷ t ∷ []
value (Weighing w) = four w.a ++ four w.b

-- the tag, two bytes that say the value's length, high byte first, and the value
abbrev pub framed : ℕ → List ℕ → List ℕ
framed t v = t ∷ (length v / 256) ∷ (length v % 256) ∷ v

-- the bytes of a field
abbrev pub spelled : Field → List ℕ
spelled f = framed (letter (form f)) (value f)

-- the numbers that 16 bits and 32 bits can say
abbrev pub In16 : ℤ → Type 0
In16 z = (negsuc 32767 ≤ℤ z) × (z ≤ℤ pos 32767)

abbrev pub In32 : ℤ → Type 0
In32 z = (negsuc 2147483647 ≤ℤ z) × (z ≤ℤ pos 2147483647)

abbrev pub Short : Size → Type 0
Short z = In16 z.price × In16 z.pressure

-- a field that its bytes can say
abbrev pub Sayable : Field → Type 0
Sayable (Nodes n) = n < 256
Sayable (Segment a) = (a.tail < 256) × (a.head < 256) × (1 ≤ length a.sizes) × (length a.sizes ≤ 8) × AllByRecursion Short a.sizes
Sayable (Points s t) = (s < 256) × (t < 256)
Sayable (Weighing w) = In32 w.a × In32 w.b
