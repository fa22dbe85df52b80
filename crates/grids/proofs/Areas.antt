-- When so many rows of so many cells are a grid. Assumes nothing.
use Rattle.std.proofs.Common.{ℕ, zero, suc, ◌*◌, ◌≤◌, Bool, true, false, mul-pos, mul_comm, refl, Decides, arith}
use Rattle.std.specs.Bool.{then_some}
use Rattle.std.specs.Option.{SomeIff}
use Rattle.std.proofs.lemmas.Bool.Decides.{not_from_Decides}
use Rattle.grids.specs.Laying.{Area}

some_factor : (w h : ℕ) → 1 ≤ w * h → 1 ≤ w
some_factor zero h l = omega arith
some_factor (suc w) h l = omega arith

-- a number of cells in 1..128 makes a grid, and no other does
pub area_counted : (w h : ℕ) (b : Bool) → Decides b ((1 ≤ w * h) × (w * h ≤ 128)) → SomeIff (then_some b (w * h)) (Area w h) (w * h)
area_counted w h true d =
    let l = d.0 refl in
    (record { wide = some_factor w h l.0; high = some_factor h w (omega (arith, l.0, mul_comm w h)); small = l.1 }, refl)
area_counted w h false d = λ a. not_from_Decides false d refl (mul-pos a.wide a.high, a.small)
