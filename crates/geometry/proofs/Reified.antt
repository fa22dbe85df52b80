-- Points, costs and sides as expressions, for identities over coordinates.
use Rattle.std.proofs.Common.{ℕ, ◌+◌, ◌*◌, List, [], ◌∷◌, ℤ}
use Rattle.geometry.specs.Plane.{Pt}
use Rattle.geometry.proofs.Ring.{Ex, X, ◌⊕◌, ◌⊖◌, ◌⊗◌}

-- a point by the places of its coordinates
abbrev pub PtE : Type 0
PtE = Ex × Ex

abbrev pub pt : ℕ → PtE
pt i = (X (2 * i), X (2 * i + 1))

abbrev pub orientE : PtE → PtE → PtE → Ex
orientE p q r = (q.0 ⊖ p.0) ⊗ (r.1 ⊖ p.1) ⊖ (q.1 ⊖ p.1) ⊗ (r.0 ⊖ p.0)

abbrev pub dotE : PtE → PtE → Ex
dotE w p = w.0 ⊗ p.0 ⊕ w.1 ⊗ p.1

abbrev pub coords : List Pt → List ℤ
coords [] = []
coords (p ∷ ps) = p.0 ∷ p.1 ∷ coords ps

abbrev pub addE : PtE → PtE → PtE
addE p q = (p.0 ⊕ q.0, p.1 ⊕ q.1)

abbrev pub acrossE : PtE → PtE → PtE → PtE → Ex
acrossE a b c d = (b.0 ⊖ a.0) ⊗ (d.1 ⊖ c.1) ⊖ (b.1 ⊖ a.1) ⊗ (d.0 ⊖ c.0)

abbrev pub rayE : PtE → PtE → PtE
rayE p q = (p.1 ⊖ q.1, q.0 ⊖ p.0)
