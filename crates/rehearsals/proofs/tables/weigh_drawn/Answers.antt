use Rattle.std.proofs.Common.{◌≡◌, ℕ, [], ◌∷◌, Ok, Err, Result, sym, refl, arith}
use Rattle.network.specs.declared.fault.Fault.{Fault}
use Rattle.polygons.specs.declared.cheapest.Cheapest.{Cheapest}
use Rattle.samples.specs.Table.{drawn}
use Rattle.samples.proofs.Held.{drawn_holds}
use Rattle.rehearsals.proofs.tables.weigh_drawn.Goals as goal

not_refused : {X : Type 0} (f : Fault) (b : Cheapest) → ◌≡◌ {A = Result Cheapest Fault} (Err f) (Ok b) → X
not_refused f b h = let z : ◌≡◌ {A = ℕ} 0 1 = cc in absurd (omega arith)

same_best : (a b : Cheapest) → ◌≡◌ {A = Result Cheapest Fault} (Ok a) (Ok b) → a ≡ b
same_best a b h = cc

pub returns-in_err-evenly : goal.returns-in_err-evenly
returns-in_err-evenly c =
    not_refused _ _ (c.in_err-evenly.ensures drawn drawn_holds (sym c.in_ok-table.ensures) refl _ drawn_holds.weighed.0)

pub returns-in_err-by_nothing : goal.returns-in_err-by_nothing
returns-in_err-by_nothing c =
    not_refused _ _ (c.in_err-by_nothing.ensures drawn drawn_holds (sym c.in_ok-table.ensures) refl _ drawn_holds.weighed.1.0)

pub returns-in_err-by_pressure : goal.returns-in_err-by_pressure
returns-in_err-by_pressure c =
    not_refused _ _ (c.in_err-by_pressure.ensures drawn drawn_holds (sym c.in_ok-table.ensures) refl _ drawn_holds.weighed.1.1.0)

pub returns : goal.returns
returns c =
    let drew = sym c.in_ok-table.ensures in
    let evenly = same_best _ _ (c.in_ok-evenly.ensures drawn drawn_holds drew refl _ drawn_holds.weighed.0) in
    let by_nothing = same_best _ _ (c.in_ok-by_nothing.ensures drawn drawn_holds drew refl _ drawn_holds.weighed.1.0) in
    let by_pressure = same_best _ _ (c.in_ok-by_pressure.ensures drawn drawn_holds drew refl _ drawn_holds.weighed.1.1.0) in
    λ i. evenly i ∷ by_nothing i ∷ by_pressure i ∷ []
