-- A test whether a network keeps the rules. Assumes nothing.
use Rattle.std.proofs.Common.{◌≡◌, ℕ, zero, suc, Bool, true, ◌&&◌, ltb, leb, List, [], ◌∷◌, length, get_or, ℤ, pos, neg_ℤ, Some, None, Option, sym, ap, ◌∙◌, arith}
use lib.Signed.{le_z}
use Rattle.std.proofs.ByRecursion.{All-get_or}
use Rattle.std.proofs.lemmas.Bool.{and_parts, leb-true, ltb-true}
use Rattle.network.specs.declared.size.Size.{Size}
use Rattle.network.specs.Choices.{Apart, InRange, choice}
use Rattle.network.specs.Networks.{Arc, Network, Ruled, at}
use Rattle.network.specs.Ranges.{Within}
use Rattle.geometry.specs.Plane.{Pt}
use Rattle.takeoff.specs.Takeoff.{LawfulArc}
use Rattle.samples.proofs.Points.{apart?, apart_passed}
use Rattle.samples.proofs.Tests.{below?, below_passed, each?, each_passed, le_passed}

abbrev pub within? : ℕ → ℤ → Bool
within? n z = le_z (neg_ℤ (pos n)) z && le_z z (pos n)

pub within_passed : (n : ℕ) (z : ℤ) → within? n z ≡ true → Within n z
within_passed n z t =
    let both = and_parts (le_z (neg_ℤ (pos n)) z) (le_z z (pos n)) t in
    (le_passed (neg_ℤ (pos n)) z both.0, le_passed z (pos n) both.1)

abbrev in_range? : Size → Bool
in_range? z = within? 10000 z.price && within? 10000 z.pressure

in_range_passed : (z : Size) → in_range? z ≡ true → InRange z
in_range_passed z t =
    let both = and_parts (within? 10000 z.price) (within? 10000 z.pressure) t in
    (within_passed 10000 z.price both.0, within_passed 10000 z.pressure both.1)

-- no two choices are equal
abbrev parts : Size → Pt
parts z = (z.price, z.pressure)

abbrev different? : List Size → ℕ → ℕ → Bool
different? zs j i = apart? (parts (choice zs i)) (parts (choice zs j))

abbrev pub no_twins? : List Size → Bool
no_twins? zs = below? (length zs) (λ j. below? j (different? zs j))

pub no_twins_passed : (zs : List Size) → no_twins? zs ≡ true → Apart zs
no_twins_passed zs t j h i l e =
    apart_passed (parts (choice zs i)) (parts (choice zs j))
    (below_passed j (different? zs j) (below_passed (length zs) (λ n. below? n (different? zs n)) t j h) i l) (ap parts e)

-- the rules of one segment among n nodes
abbrev sizes? : List Size → Bool
sizes? zs = (leb 1 (length zs) && leb (length zs) 8) && (each? in_range? zs && no_twins? zs)

abbrev pub lawful? : ℕ → Arc → Bool
lawful? n a = (ltb a.tail a.head && ltb a.head n) && sizes? a.sizes

pub lawful_passed : (n : ℕ) (a : Arc) → lawful? n a ≡ true → LawfulArc n a
lawful_passed n a t =
    let zs = a.sizes in
    let both = and_parts (ltb a.tail a.head && ltb a.head n) (sizes? zs) t in
    let ends = and_parts (ltb a.tail a.head) (ltb a.head n) both.0 in
    let choices = and_parts (leb 1 (length zs) && leb (length zs) 8) (each? in_range? zs && no_twins? zs) both.1 in
    let counted = and_parts (leb 1 (length zs)) (leb (length zs) 8) choices.0 in
    let each = and_parts (each? in_range? zs) (no_twins? zs) choices.1 in
    let rises = ltb-true a.tail a.head ends.0 in
    let inside = ltb-true a.head n ends.1 in (
      record {
        tail_inside = omega arith;
        head_inside = inside;
        some = leb-true 1 (length zs) counted.0;
        few = leb-true (length zs) 8 counted.1;
        ranged = λ k h. All-get_or InRange zs k _ h (each_passed in_range? InRange in_range_passed zs each.0);
        apart = no_twins_passed zs each.1;
      },
      rises,
    )

-- what is tested of a segment that is present
abbrev present? : (Arc → Bool) → Option Arc → Bool
present? f None = true
present? f (Some a) = f a

never : {P : Type 0} (a : Arc) → None ≡ Some a → P
never a h = let z : ◌≡◌ {A = ℕ} 0 1 = cc in absurd (omega arith)

present_passed : (f : Arc → Bool) (os : List (Option Arc)) → each? (present? f) os ≡ true → (e : ℕ) (a : Arc) → get_or os e None ≡ Some a → f a ≡ true
present_passed f [] t e a h = never a h
present_passed f (o ∷ os) t zero a h = ap (present? f) (sym h) ∙ (and_parts (present? f o) (each? (present? f) os) t).0
present_passed f (o ∷ os) t (suc e) a h = present_passed f os (and_parts (present? f o) (each? (present? f) os) t).1 e a h

abbrev counts? : Network → Bool
counts? N = (leb 1 N.nodes && leb N.nodes 128) && leb (length N.arcs) 1024

abbrev pub ruled? : Network → Bool
ruled? N = counts? N && each? (present? (lawful? N.nodes)) N.arcs

pub ruled_passed : (N : Network) → ruled? N ≡ true → Ruled N
ruled_passed N t =
    let n = N.nodes in
    let both = and_parts (counts? N) (each? (present? (lawful? n)) N.arcs) t in
    let counts = and_parts (leb 1 n && leb n 128) (leb (length N.arcs) 1024) both.0 in
    let nodes = and_parts (leb 1 n) (leb n 128) counts.0 in
    let lawful : (e : ℕ) (a : Arc) → at N e ≡ Some a → LawfulArc n a = λ e a h. lawful_passed n a (present_passed (lawful? n) N.arcs both.1 e a h) in
    record {
      some = leb-true 1 n nodes.0;
      few = leb-true n 128 nodes.1;
      short = leb-true (length N.arcs) 1024 counts.1;
      proper = λ e a h. (lawful e a h).0;
      rises = λ e a h. (lawful e a h).1;
    }
