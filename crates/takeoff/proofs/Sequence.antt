-- The order of fields: what may follow, and what the contents then are. Assumes nothing.
use Rattle.std.proofs.Common.{◌≡◌, ℕ, Bool, true, false, ◌⊎◌, List, [], ◌∷◌, ◌++◌, refl, ap, inl, inr, arith}
use Rattle.std.proofs.lemmas.Bool.{true≢false, false≢true}
use Rattle.network.specs.declared.record.Record.{Record}
use Rattle.network.specs.declared.weight.Weight.{Weight}
use Rattle.network.specs.Networks.{Arc}
use Rattle.takeoff.specs.declared.order.Stage.{Stage}
use Rattle.takeoff.specs.declared.tag.Tag.{Tag}
use Rattle.takeoff.specs.declared.tag.Tag.TheVariants as tag
use Rattle.takeoff.specs.declared.values.Item.{Item}
use Rattle.takeoff.specs.declared.values.Item.TheVariants as item
use Rattle.takeoff.specs.Format.{Form, N, S, P, W, letter, Field, Nodes, Segment, Points, Weighing, form}
use Rattle.takeoff.specs.Takeoff.{Contents, Empty, Drawn, Aimed}
use Rattle.takeoff.specs.Refusals.{InOrder}
use Rattle.takeoff.specs.Inner.{form_of, said, tag_for, ordered, stage_of}

-- the contents with one field more; where that is out of order they stay
abbrev pub extend : Contents → Field → Contents
extend Empty (Nodes n) = Drawn n []
extend Empty (Segment a) = Empty
extend Empty (Points s t) = Empty
extend Empty (Weighing w) = Empty
extend (Drawn n arcs) (Nodes m) = Drawn n arcs
extend (Drawn n arcs) (Segment a) = Drawn n (arcs ++ a ∷ [])
extend (Drawn n arcs) (Points s t) = Aimed n arcs s t []
extend (Drawn n arcs) (Weighing w) = Drawn n arcs
extend (Aimed n arcs s t ws) (Nodes m) = Aimed n arcs s t ws
extend (Aimed n arcs s t ws) (Segment a) = Aimed n arcs s t ws
extend (Aimed n arcs s t ws) (Points u v) = Aimed n arcs s t ws
extend (Aimed n arcs s t ws) (Weighing w) = Aimed n arcs s t (ws ++ w ∷ [])

-- after nothing only N may come, after N and S only these two, after P only W
not_first : (g : Form) → (letter g ≡ 78 → ⊥) → g ≡ N → ⊥
not_first g n e = n (ap letter e)

not_middle : (g : Form) → (letter g ≡ 83 → ⊥) → (letter g ≡ 80 → ⊥) → (g ≡ S) ⊎ (g ≡ P) → ⊥
not_middle g n m (inl e) = n (ap letter e)
not_middle g n m (inr e) = m (ap letter e)

not_last : (g : Form) → (letter g ≡ 87 → ⊥) → g ≡ W → ⊥
not_last g n e = n (ap letter e)

-- four ways to go on, and no other
pub by_order : (Q : Contents → Item → Type 0) →
    ((n : ℕ) → Q Empty (item.Nodes n)) →
    ((n : ℕ) (arcs : List Arc) (s : Record) → Q (Drawn n arcs) (item.Segment s)) →
    ((n : ℕ) (arcs : List Arc) (s t : ℕ) → Q (Drawn n arcs) (item.Points s t)) →
    ((n : ℕ) (arcs : List Arc) (s t : ℕ) (ws : List Weight) (w : Weight) → Q (Aimed n arcs s t ws) (item.Weight w)) →
    (c : Contents) (i : Item) → InOrder c (form (said i)) → Q c i
by_order Q first segment points weight Empty (item.Nodes n) o = first n
by_order Q first segment points weight Empty (item.Segment s) o = absurd (not_first S (λ e. omega arith) o)
by_order Q first segment points weight Empty (item.Points s t) o = absurd (not_first P (λ e. omega arith) o)
by_order Q first segment points weight Empty (item.Weight w) o = absurd (not_first W (λ e. omega arith) o)
by_order Q first segment points weight (Drawn n arcs) (item.Nodes m) o = absurd (not_middle N (λ e. omega arith) (λ e. omega arith) o)
by_order Q first segment points weight (Drawn n arcs) (item.Segment s) o = segment n arcs s
by_order Q first segment points weight (Drawn n arcs) (item.Points s t) o = points n arcs s t
by_order Q first segment points weight (Drawn n arcs) (item.Weight w) o = absurd (not_middle W (λ e. omega arith) (λ e. omega arith) o)
by_order Q first segment points weight (Aimed n arcs s t ws) (item.Nodes m) o = absurd (not_last N (λ e. omega arith) o)
by_order Q first segment points weight (Aimed n arcs s t ws) (item.Segment a) o = absurd (not_last S (λ e. omega arith) o)
by_order Q first segment points weight (Aimed n arcs s t ws) (item.Points u v) o = absurd (not_last P (λ e. omega arith) o)
by_order Q first segment points weight (Aimed n arcs s t ws) (item.Weight w) o = weight n arcs s t ws w

-- what the reader's stages say of the order
no_such : {X : Type 0} {s t : Stage} → ◌≡◌ {A = Stage × Bool} (s, true) (t, false) → X
no_such e = absurd (true≢false (ap (λ (p : Stage × Bool). p.1) e))

not_so : {X : Type 0} {s t : Stage} → ◌≡◌ {A = Stage × Bool} (s, false) (t, true) → X
not_so e = absurd (false≢true (ap (λ (p : Stage × Bool). p.1) e))

pub in_order : (c : Contents) (t : Tag) (s : Stage) → (s, true) ≡ ordered (stage_of c) t → InOrder c (form_of t)
in_order Empty tag.Nodes s e = refl
in_order Empty tag.Segment s e = no_such e
in_order Empty tag.Points s e = no_such e
in_order Empty tag.Weight s e = no_such e
in_order (Drawn n arcs) tag.Nodes s e = no_such e
in_order (Drawn n arcs) tag.Segment s e = inl refl
in_order (Drawn n arcs) tag.Points s e = inr refl
in_order (Drawn n arcs) tag.Weight s e = no_such e
in_order (Aimed n arcs a b ws) tag.Nodes s e = no_such e
in_order (Aimed n arcs a b ws) tag.Segment s e = no_such e
in_order (Aimed n arcs a b ws) tag.Points s e = no_such e
in_order (Aimed n arcs a b ws) tag.Weight s e = refl

pub out_of_order : (c : Contents) (t : Tag) (s : Stage) → (s, false) ≡ ordered (stage_of c) t → InOrder c (form_of t) → ⊥
out_of_order Empty tag.Nodes s e = not_so e
out_of_order Empty tag.Segment s e = not_first S (λ h. omega arith)
out_of_order Empty tag.Points s e = not_first P (λ h. omega arith)
out_of_order Empty tag.Weight s e = not_first W (λ h. omega arith)
out_of_order (Drawn n arcs) tag.Nodes s e = not_middle N (λ h. omega arith) (λ h. omega arith)
out_of_order (Drawn n arcs) tag.Segment s e = not_so e
out_of_order (Drawn n arcs) tag.Points s e = not_so e
out_of_order (Drawn n arcs) tag.Weight s e = not_middle W (λ h. omega arith) (λ h. omega arith)
out_of_order (Aimed n arcs a b ws) tag.Nodes s e = not_last N (λ h. omega arith)
out_of_order (Aimed n arcs a b ws) tag.Segment s e = not_last S (λ h. omega arith)
out_of_order (Aimed n arcs a b ws) tag.Points s e = not_last P (λ h. omega arith)
out_of_order (Aimed n arcs a b ws) tag.Weight s e = not_so e

-- an item has the form of its tag
pub same_form : (i : Item) → form_of (tag_for i) ≡ form (said i)
same_form (item.Nodes n) = refl
same_form (item.Segment s) = refl
same_form (item.Points s t) = refl
same_form (item.Weight w) = refl
