-- A network with nodes closed keeps the rules that it kept. Assumes nothing.
use Rattle.std.specs.Prelude.{◌≡◌, ℕ, zero, suc, Bool, true, false, cond, List, [], ◌∷◌, map, Some, None, Option, slice_index_or, refl}
use Rattle.std.proofs.Common.{sym, ap, ◌∙◌, arith}
use Rattle.std.proofs.lemmas.List.{length-map}
use Rattle.network.specs.Networks.{Network, Arc, Ruled, at}
use Rattle.closings.specs.Closings.{among, spared, without}

spared_at : (vs : List ℕ) (os : List (Option Arc)) (e : ℕ) → slice_index_or (map (spared vs) os) e None ≡ spared vs (slice_index_or os e None)
spared_at vs [] e = refl
spared_at vs (o ∷ os) zero = refl
spared_at vs (o ∷ os) (suc e) = spared_at vs os e

-- what becomes of segment e
pub at_without : (vs : List ℕ) (N : Network) (e : ℕ) → at (without vs N) e ≡ spared vs (at N e)
at_without vs N e = spared_at vs N.arcs e

open_ends : (a b : Arc) (p q : Bool) → cond p None (cond q None (Some b)) ≡ Some a → (Some b ≡ Some a) × (p ≡ false) × (q ≡ false)
open_ends a b true q h = let z : ◌≡◌ {A = ℕ} 0 1 = cc in absurd (omega arith)
open_ends a b false true h = let z : ◌≡◌ {A = ℕ} 0 1 = cc in absurd (omega arith)
open_ends a b false false h = (h, refl, refl)

-- a segment that is left was there before, and both its ends are open
pub spared_some : (vs : List ℕ) (o : Option Arc) (a : Arc) → spared vs o ≡ Some a → (o ≡ Some a) × (among vs a.tail ≡ false) × (among vs a.head ≡ false)
spared_some vs None a h = let z : ◌≡◌ {A = ℕ} 0 1 = cc in absurd (omega arith)
spared_some vs (Some b) a h =
    let w = open_ends a b (among vs b.tail) (among vs b.head) h in
    let e : a ≡ b = cc w.0 in
    (w.0, ap (λ (x : Arc). among vs x.tail) e ∙ w.1, ap (λ (x : Arc). among vs x.head) e ∙ w.2)

pub was_there : (vs : List ℕ) (N : Network) (e : ℕ) (a : Arc) → at (without vs N) e ≡ Some a → at N e ≡ Some a
was_there vs N e a h = (spared_some vs (at N e) a (sym (at_without vs N e) ∙ h)).0

pub without_ruled : (vs : List ℕ) (N : Network) → Ruled N → Ruled (without vs N)
without_ruled vs N r = record {
  some = r.some;
  few = r.few;
  short = simp length-map r.short;
  proper = λ e a h. r.proper e a (was_there vs N e a h);
  rises = λ e a h. r.rises e a (was_there vs N e a h);
}
