-- Every grid keeps the rules of a network. Assumes nothing.
use Rattle.std.specs.Prelude.{◌≡◌, ℕ, ◌-◌, ◌*◌, ◌/◌, ◌%◌, ◌<◌, ◌≤◌, Bool, true, false, cond, List, map, length, take, ℤ, ◌+ℤ◌, Some, None, Option, ◌==◌, nat_lt, refl}
use Rattle.std.proofs.Common.{sym, ap, subst, ◌∙◌, inl, inr, mul-pos, arith}
use Rattle.std.proofs.Math.Nat.{zero-mod}
use Rattle.std.proofs.lemmas.List.{get_or-map, get_or_past, length-map, length-take}
use Rattle.std.proofs.lemmas.List.FromFn.{get_or-map-range_with_len, length-map-range_with_len}
use Rattle.std.proofs.lemmas.Int.{ints}
use Rattle.std.proofs.lemmas.Bool.{cases_lt, eqb-false, ltb-false}
use Rattle.network.specs.declared.size.Size.{Size}
use Rattle.network.specs.Choices.{InRange, Ranged, Apart, choice}
use Rattle.network.specs.Networks.{Arc, Proper, Ruled, at}
use Rattle.grids.specs.declared.cell.Cell.{Cell}
use Rattle.grids.specs.declared.cell.Cell.TheVariants.{Closed, Open}
use Rattle.grids.specs.declared.grid.Grid.{Grid}
use Rattle.grids.specs.Cells.{cell, Mild, MildExtras, MildSizes, SizesApart}
use Rattle.grids.specs.Crossings.{Before, Crosses}
use Rattle.grids.specs.Grids.{paid, plus_extra, crossing, origin, entering, grid, grid_network}

never : {A P : Type 0} (a : A) → None ≡ Some a → P
never a h = let z : ◌≡◌ {A = ℕ} 0 1 = cc in absurd (omega arith)

by_tests : (v w u : ℕ) (b c d : Bool) → (v % w == 0) ≡ c → nat_lt v w ≡ d → cond b (cond c None (Some (v - 1))) (cond d None (Some (v - w))) ≡ Some u → Before w u v
by_tests v w u true true d p q h = never u h
by_tests v w u true false d p q h =
    let e : v - 1 ≡ u = cc in
    let off : v % w ≡ 0 → ⊥ = eqb-false (v % w) 0 p in
    let some : v ≡ 0 → ⊥ = λ z. off (ap (λ (n : ℕ). n % w) z ∙ zero-mod w) in
    inl (omega (arith, some), off)
by_tests v w u false c true p q h = never u h
by_tests v w u false c false p q h = let e : v - w ≡ u = cc in inr (omega (arith, ltb-false v w q))

-- a segment comes from a neighbour of the cell that it enters
pub from_neighbour : (w e u : ℕ) → origin w e ≡ Some u → Before w u (e / 2)
from_neighbour w e u h = by_tests (e / 2) w u (e % 2 == 0) (e / 2 % w == 0) (nat_lt (e / 2) w) refl refl h

module _ (w h : ℕ) (cs : List Cell) (zs : List Size) where
  -- segment e of the grid
  pub at_grid : (e : ℕ) → e < 2 * (w * h) → at (grid w h cs zs) e ≡ entering cs zs (e / 2) (origin w e)
  at_grid e l = get_or-map-range_with_len (λ i. entering cs zs (i / 2) (origin w i)) 0 (2 * (w * h)) e e None l (omega arith)

  pub at_grid_past : (e : ℕ) → 2 * (w * h) ≤ e → at (grid w h cs zs) e ≡ None
  at_grid_past e l =
      get_or_past (grid w h cs zs).arcs e None (rw length-map-range_with_len l)

  crosses : (u v : ℕ) (b c : Cell) (a : Arc) → cell cs u ≡ b → cell cs v ≡ c → v < w * h → Before w u v → crossing zs u v b c ≡ Some a → Crosses w h cs zs a
  crosses u v Closed c a p q l n f = never a f
  crosses u v (Open x) Closed a p q l n f = never a f
  crosses u v (Open x) (Open y) a p q l n f =
      let s : Arc = record { tail = u; head = v; sizes = map (plus_extra (paid x y)) zs } in
      let e : s ≡ a = cc in
      subst (Crosses w h cs zs) e (record { inside = l; before = n; left = x; entered = y; tail_open = p; head_open = q; choices = refl })

  from_origin : (e : ℕ) (a : Arc) (o : Option ℕ) → origin w e ≡ o → e < 2 * (w * h) → entering cs zs (e / 2) o ≡ Some a → Crosses w h cs zs a
  from_origin e a None q l f = never a f
  from_origin e a (Some u) q l f =
      crosses u (e / 2) (cell cs u) (cell cs (e / 2)) a refl refl (omega arith) (from_neighbour w e u q) f

  pub grid_crosses : (e : ℕ) (a : Arc) → at (grid w h cs zs) e ≡ Some a → Crosses w h cs zs a
  grid_crosses e a s =
      elim (cases_lt e (2 * (w * h))) [
        | inl l ↦ from_origin e a (origin w e) refl l (sym (at_grid e l) ∙ s)
        | inr l ↦ never a (sym (at_grid_past e l) ∙ s)
      ]

  pub rising : (a : Arc) → 1 ≤ w → Crosses w h cs zs a → a.tail < a.head
  rising a l x = elim x.before [ inl n ↦ omega (arith, n.0) | inr n ↦ omega arith ]

cancel : (a b x : ℤ) → a +ℤ x ≡ b +ℤ x → a ≡ b
cancel a b x h = omega (arith, ints)

same_size : (z y x : Size) → plus_extra x z ≡ plus_extra x y → z ≡ y
same_size z y x h =
    λ i. record { price = cancel z.price y.price x.price (λ j. (h j).price) i; pressure = cancel z.pressure y.pressure x.pressure (λ j. (h j).pressure) i }

-- the choices of a segment: mild sizes with a mild extra
module _ (x : Size) (zs : List Size) where
  pub choice_plus : (k : ℕ) → k < length zs → choice (map (plus_extra x) zs) k ≡ plus_extra x (choice zs k)
  choice_plus k l = get_or-map (plus_extra x) zs k _ _ l

  pub plus_ranged : Mild x → MildSizes zs → Ranged (map (plus_extra x) zs)
  plus_ranged m h k l =
      let l' : k < length zs = rw length-map at l in
      let z = h k l' in
      subst InRange (sym (choice_plus k l'))
      ((omega (arith, ints, m.0.0, z.0.0), omega (arith, ints, m.0.1, z.0.1)), (omega (arith, ints, m.1.0, z.1.0), omega (arith, ints, m.1.1, z.1.1)))

  plus_apart : SizesApart zs → Apart (map (plus_extra x) zs)
  plus_apart h j l i o q =
      let l' : j < length zs = rw length-map at l in
      let e : plus_extra x (choice zs i) ≡ plus_extra x (choice zs j) = sym (choice_plus i (omega arith)) ∙ q ∙ choice_plus j l' in
      h (record { first = i; second = j; listed = l'; order = o; equal = same_size (choice zs i) (choice zs j) x e })

-- what a step pays is in the range of the extras
paid_mild : (x y : Size) → Mild x → Mild y → Mild (paid x y)
paid_mild x y h k = k

pub grid_proper : (w h : ℕ) (cs : List Cell) (zs : List Size) (a : Arc) → 1 ≤ w → 1 ≤ length zs → length zs ≤ 8 → MildExtras cs → MildSizes zs → SizesApart zs → Crosses w h cs zs a → Proper (w * h) a
grid_proper w h cs zs a l some few extras mild apart x =
    let long : length a.sizes ≡ length zs = ap length x.choices ∙ length-map zs (plus_extra (paid x.left x.entered)) in
    let left = extras (record { number = a.tail; extra = x.left; is = x.tail_open }) in
    let entered = extras (record { number = a.head; extra = x.entered; is = x.head_open }) in
    let extra = paid_mild x.left x.entered left entered in
    record {
      tail_inside = omega (arith, rising w h cs zs a l x, x.inside);
      head_inside = x.inside;
      some = omega (arith, long);
      few = omega (arith, long);
      ranged = subst Ranged (sym x.choices) (plus_ranged (paid x.left x.entered) zs extra mild);
      apart = subst Apart (sym x.choices) (plus_apart (paid x.left x.entered) zs apart);
    }

pub grid_ruled : (g : Grid) → Ruled (grid_network g)
grid_ruled g =
    let w = g.width in
    let h = g.height in
    let cs = take (w * h) g.cells in
    let zs = take g.count g.sizes in
    let long : length zs ≡ g.count = rw length-take (omega (arith, g.sizeroom, g.few)) in
    record {
      some = mul-pos g.wide g.high;
      few = g.small;
      short = rw length-map-range_with_len (omega (arith, g.small));
      proper = λ e a s. grid_proper w h cs zs a g.wide (omega (arith, long, g.some)) (omega (arith, long, g.few)) g.extras g.ranged g.apart (grid_crosses w h cs zs e a s);
      rises = λ e a s. rising w h cs zs a g.wide (grid_crosses w h cs zs e a s);
    }
