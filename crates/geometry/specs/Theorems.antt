-- What is shown of polygons, for the contracts of theorem functions. Assumes nothing.
use Rattle.std.specs.Prelude.{◌≡◌, ℕ, ◌+◌, ◌<◌, ◌≤◌, ◌⊎◌, List, [], ◌∷◌, ◌++◌, length, ℤ, ◌+ℤ◌, ◌<ℤ◌}
use Rattle.geometry.specs.Plane.{Pt, dot, nth, In, Lex, Near}
use Rattle.geometry.specs.Polygons.{Polygon, Inside, LeftOfEdges}
use Rattle.geometry.specs.Support.{Costs, support, join, chain, never, free}
use Rattle.geometry.specs.Sums.{add, sums, OnePair}
use Rattle.geometry.specs.Cones.{InCone, Attains, exposing}
use Rattle.geometry.specs.Exposed.{Exposed, ExposedWithin, cost_range, weight_range}
use Rattle.geometry.specs.Walks.{Wraps, Walked}
use Rattle.geometry.specs.Steps.{LeastOf, Takes, Keeps, Found, Going, Summing, Advanced, SumAdvances, measure}

-- corner lists of equal support are equal
abbrev pub Faithful : Type 0
Faithful = (ps qs : List Pt) → Polygon ps → Polygon qs → support ps ≡ support qs → ps ≡ qs

-- every list of points has a polygon of its support
abbrev pub HullExists : Type 0
HullExists = (pts : List Pt) → (rs : List Pt) × (Polygon rs × (support rs ≡ support pts))

-- a walk round the points gives a polygon
abbrev pub HullConvex : Type 0
HullConvex = (pts rs : List Pt) → Wraps pts rs → Polygon rs

-- of points of the list
abbrev pub HullCorners : Type 0
HullCorners = (pts rs : List Pt) → Wraps pts rs → (i : ℕ) → i < length rs → In pts (nth rs i)

-- that all points lie in
abbrev pub HullCovers : Type 0
HullCovers = (pts rs : List Pt) → Wraps pts rs → (p : Pt) → In pts p → Inside rs p

-- and that has their support
abbrev pub HullSupport : Type 0
HullSupport = (pts rs : List Pt) → Wraps pts rs → support rs ≡ support pts

-- a point lies in a polygon exactly when it is to the right of no edge
abbrev pub InsideEdges : Type 0
InsideEdges = (ps : List Pt) → Polygon ps → (p : Pt) → Inside ps p → LeftOfEdges ps p

abbrev pub EdgesInside : Type 0
EdgesInside = (ps : List Pt) → Polygon ps → (p : Pt) → LeftOfEdges ps p → Inside ps p

-- lists one after the other have the lesser support, all sums the summed support
abbrev pub UnionSupport : Type 0
UnionSupport = (ps qs : List Pt) → support (ps ++ qs) ≡ join (support ps) (support qs)

abbrev pub SumSupport : Type 0
SumSupport = (ps qs : List Pt) → support (sums ps qs) ≡ chain (support ps) (support qs)

-- costs at every weight form a semiring
pub record SemiringOfCosts : Type 0 where
  pub join_assoc : (f g h : Costs) → join (join f g) h ≡ join f (join g h)
  pub join_comm : (f g : Costs) → join f g ≡ join g f
  pub join_identityˡ : (f : Costs) → join never f ≡ f
  pub chain_assoc : (f g h : Costs) → chain (chain f g) h ≡ chain f (chain g h)
  pub chain_identityˡ : (f : Costs) → chain free f ≡ f
  pub chain_identityʳ : (f : Costs) → chain f free ≡ f
  pub zeroˡ : (f : Costs) → chain never f ≡ never
  pub zeroʳ : (f : Costs) → chain f never ≡ never
  pub distribˡ : (f g h : Costs) → chain f (join g h) ≡ join (chain f g) (chain f h)
  pub distribʳ : (f g h : Costs) → chain (join f g) h ≡ join (chain f h) (chain g h)

-- a weight lies in the cone of a corner exactly when the corner is as cheap as any
abbrev pub ConeCheapest : Type 0
ConeCheapest = (ps : List Pt) → Polygon ps → (k : ℕ) → k < length ps → (w : Pt) → InCone ps k w → Attains ps k w

abbrev pub CheapestCone : Type 0
CheapestCone = (ps : List Pt) → Polygon ps → (k : ℕ) → k < length ps → (w : Pt) → Attains ps k w → InCone ps k w

-- at its exposing weight a corner is cheaper than any other point of the figure
abbrev pub CornerExposed : Type 0
CornerExposed = (ps : List Pt) → Polygon ps → (k : ℕ) → k < length ps → (s : Pt) → Inside ps s → ¬ (s ≡ nth ps k)
    → dot (exposing ps k) (nth ps k) <ℤ dot (exposing ps k) s

-- and this weight lies within twice the range of the corners
abbrev pub ExposingNear : Type 0
ExposingNear = (B : ℤ) (ps : List Pt) → ((i : ℕ) → i < length ps → Near B (nth ps i)) → (k : ℕ) → k < length ps → Near (B +ℤ B) (exposing ps k)

abbrev pub ExposingInRange : Type 0
ExposingInRange = (ps : List Pt) → ((i : ℕ) → i < length ps → Near cost_range (nth ps i)) → (k : ℕ) → k < length ps
    → Near weight_range (exposing ps k)

-- a corner is a point that is alone cheapest at some weight in range
abbrev pub CornerAlone : Type 0
CornerAlone = (pts rs : List Pt) → ((s : Pt) → In pts s → Near cost_range s) → Polygon rs → support rs ≡ support pts → (p : Pt) → In rs p
    → In pts p × ExposedWithin weight_range pts p

-- each such point is a corner
abbrev pub AloneCorner : Type 0
AloneCorner = (pts rs : List Pt) → Polygon rs → support rs ≡ support pts → (p : Pt) → In pts p → ExposedWithin weight_range pts p → In rs p

-- and stands once
abbrev pub CornerOnce : Type 0
CornerOnce = (rs : List Pt) → Polygon rs → (i j : ℕ) → i < length rs → j < length rs → nth rs i ≡ nth rs j → i ≡ j

-- a polygon of the support has every exposed point as a corner
abbrev pub ExposedCorner : Type 0
ExposedCorner = (pts rs : List Pt) → Polygon rs → support rs ≡ support pts → (p : Pt) → In pts p → Exposed pts p → In rs p

-- so if a walk has found more than n corners, no polygon of n corners has the support
abbrev pub TooMany : Type 0
TooMany = (n : ℕ) (pts rs qs : List Pt) → Walked pts rs → n < length rs → Polygon qs → length qs ≤ n → ¬ (support qs ≡ support pts)

-- and if an exposed point is out of range, no polygon in range has it
abbrev pub TooFar : Type 0
TooFar = (M : ℤ) (pts qs : List Pt) (p : Pt) → In pts p → Exposed pts p → ¬ (Near M p) → Polygon qs → ((i : ℕ) → i < length qs → Near M (nth qs i))
    → ¬ (support qs ≡ support pts)

-- a corner of a join is a corner of one of the parts
abbrev pub JoinCorners : Type 0
JoinCorners = (ps qs rs : List Pt) → Polygon rs → support rs ≡ join (support ps) (support qs) → (p : Pt) → In rs p → In ps p ⊎ In qs p

-- and all corners of the parts lie in it
abbrev pub JoinCovers : Type 0
JoinCovers = (ps qs rs : List Pt) → support rs ≡ join (support ps) (support qs) → (p : Pt) → In ps p ⊎ In qs p → Inside rs p

-- a corner of a chain is the sum of exactly one pair of corners of the parts
abbrev pub ChainCorners : Type 0
ChainCorners = (ps qs rs : List Pt) → Polygon ps → Polygon qs → Polygon rs → support rs ≡ chain (support ps) (support qs) → (r : Pt) → In rs r
    → OnePair ps qs r

-- and all sums of two corners lie in it
abbrev pub ChainCovers : Type 0
ChainCovers = (ps qs rs : List Pt) → support rs ≡ chain (support ps) (support qs) → (p q : Pt) → In ps p → In qs q → Inside rs (add p q)

-- one pass finds the least point: the next one takes its place, or not
abbrev pub LeastTakes : Type 0
LeastTakes = (pts : List Pt) (o : Pt) (i : ℕ) → i < length pts → LeastOf pts o i → Lex (nth pts i) o → LeastOf pts (nth pts i) (i + 1)

abbrev pub LeastKeeps : Type 0
LeastKeeps = (pts : List Pt) (o : Pt) (i : ℕ) → LeastOf pts o i → ¬ (Lex (nth pts i) o) → LeastOf pts o (i + 1)

-- and one the next corner after an exposed point
abbrev pub NextTakes : Type 0
NextTakes = (pts : List Pt) (p b : Pt) (i : ℕ) → i < length pts → Exposed pts p → Found pts p b i → Takes p b (nth pts i)
    → Found pts p (nth pts i) (i + 1)

abbrev pub NextKeeps : Type 0
NextKeeps = (pts : List Pt) (p b : Pt) (i : ℕ) → i < length pts → Exposed pts p → Found pts p b i → Keeps p b (nth pts i) → Found pts p b (i + 1)

-- where a walk stands, is an exposed point
abbrev pub WalkExposed : Type 0
WalkExposed = (pts os : List Pt) (o p : Pt) → Going pts os o p → Exposed pts p

-- a walk may begin at the least point
abbrev pub WalkBegins : Type 0
WalkBegins = (pts : List Pt) (o : Pt) → LeastOf pts o (length pts) → Going pts [] o o

-- at the next corner found it goes on, and its measure falls
abbrev pub WalkGoes : Type 0
WalkGoes = (pts os : List Pt) (o p : Pt) → Going pts os o p → (q : Pt) → Found pts p q (length pts) → ¬ (q ≡ o) → Going pts (os ++ p ∷ []) o q

abbrev pub WalkFalls : Type 0
WalkFalls = (pts os : List Pt) (o p q : Pt) → Going pts os o p → Found pts p q (length pts) → ¬ (q ≡ o)
    → measure pts (os ++ p ∷ []) o q < measure pts os o p

-- or closes, where that is the start
abbrev pub WalkCloses : Type 0
WalkCloses = (pts os : List Pt) (o p : Pt) → Going pts os o p → (q : Pt) → Found pts p q (length pts) → q ≡ o → Wraps pts (os ++ p ∷ [])

-- a walk round the sums of two polygons begins at their first corners, finds its next corner from the edges at hand,
-- and goes on or closes
abbrev pub SumBegins : Type 0
SumBegins = (ps qs : List Pt) → Polygon ps → Polygon qs → 0 < length ps → 0 < length qs → Summing ps qs [] 0 0

abbrev pub SumSteps : Type 0
SumSteps = (ps qs os : List Pt) (i j : ℕ) → Polygon ps → Polygon qs → Summing ps qs os i j → SumAdvances ps qs i j

abbrev pub SumGoes : Type 0
SumGoes = (ps qs os : List Pt) (i j k l : ℕ) → Summing ps qs os i j → Advanced ps qs i j k l → Polygon ps → Polygon qs → ¬ ((k ≡ 0) × (l ≡ 0))
    → Summing ps qs (os ++ add (nth ps i) (nth qs j) ∷ []) k l

abbrev pub SumFalls : Type 0
SumFalls = (ps qs os : List Pt) (i j k l : ℕ) → Summing ps qs os i j → Advanced ps qs i j k l → Polygon ps → Polygon qs → ¬ ((k ≡ 0) × (l ≡ 0))
    → measure (sums ps qs) (os ++ add (nth ps i) (nth qs j) ∷ []) (add (nth ps 0) (nth qs 0)) (add (nth ps k) (nth qs l))
    < measure (sums ps qs) os (add (nth ps 0) (nth qs 0)) (add (nth ps i) (nth qs j))

abbrev pub SumCloses : Type 0
SumCloses = (ps qs os : List Pt) (i j k l : ℕ) → Summing ps qs os i j → Advanced ps qs i j k l → k ≡ 0 → l ≡ 0
    → Wraps (sums ps qs) (os ++ add (nth ps i) (nth qs j) ∷ [])
