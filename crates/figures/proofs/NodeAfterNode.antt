-- A run of the least kind finishes: each node's least cost fits, and so does every result on the way. Assumes nothing.
use Rattle.std.proofs.Common.{◌≡◌, ℕ, zero, suc, ◌+◌, ◌≤◌, List, length, set, ℤ, Some, None, Option, refl, ◌∙◌, subst, arith, length-set}
use Rattle.network.specs.declared.weight.Weight.{Weight}
use Rattle.network.specs.Costs.{LawfulWeight}
use Rattle.network.specs.Networks.{Network, Ruled}
use Rattle.network.specs.Routes.{Route}
use Rattle.algebra.specs.Values.{IsJoin}
use Rattle.algebra.specs.Enumerated.{value}
use Rattle.algebra.proofs.Exact.{routes_exact}
use Rattle.algebra.proofs.Results.{value_is}
use Rattle.kinds.specs.declared.amount.Amount.{Amount}
use Rattle.kinds.specs.Leasts.{InBound, leasts, amount}
use Rattle.kinds.specs.LeastLaws.{leasts_semiring}
use Rattle.runs.specs.Runs.{AllFit, Done}
use Rattle.runs.proofs.Rows.{done_more, none_done}
use Rattle.figures.specs.Finishing.{LeastRunsFinish}
use Rattle.figures.proofs.LeastFits.{least_route_fits, least_letters_fit, least_extended_fits, least_through_fits}

-- a cost that fits can be held
held : (x : Option ℤ) → InBound x → Option Amount
held None fits = None
held (Some a) fits = Some (record { units = a; bounded = fits })

held_is : (x : Option ℤ) (fits : InBound x) → amount (held x fits) ≡ x
unfolding held
held_is None fits = refl
held_is (Some a) fits = refl

module _ (N : Network) (ruled : Ruled N) (s : ℕ) (w : Weight) (lawful : LawfulWeight w) (old : List (Option Amount)) where
  all_fit : (v e : ℕ) → AllFit (leasts w) N s v e
  all_fit v e f l a stands into = record {
    choices = least_letters_fit w lawful a (ruled.proper f a stands).ranged;
    chain = least_extended_fits N ruled w lawful s f;
    join = least_through_fits N ruled w lawful s v f;
  }

  fits : (v : ℕ) → InBound (value (leasts w) N s v)
  unfolding value
  fits v = least_route_fits N ruled w lawful s v _ (routes_exact ruled s v)

  -- the nodes below v, one after another
  through : (v : ℕ) → v ≤ length old → (new : List (Option Amount)) × ((length new ≡ length old) × Done (leasts w) N s amount old new v)
  through zero l = (old, (refl, none_done (leasts w) N s amount old))
  through (suc v) l =
      let before = through v (omega arith) in
      let new = before.0 in
      let x = held (value (leasts w) N s v) (fits v) in
      let one_more : v + 1 ≡ suc v = omega arith in
      let here : IsJoin (leasts w) N (Route N s v) (amount x) = λ L exact. held_is (value (leasts w) N s v) (fits v) ∙ value_is (leasts_semiring w) N ruled s v L exact in (
        set new v x,
        (
          length-set new v x ∙ before.1.0,
          subst (Done (leasts w) N s amount old (set new v x)) one_more (done_more (leasts w) N s amount old new (set new v x) v x refl (omega (arith, before.1.0)) (here, all_fit v (length N.arcs)) before.1.1),
        ),
      )

pub least_runs_finish : LeastRunsFinish
least_runs_finish N ruled s inside w lawful old long =
    let run = through N ruled s w lawful old N.nodes long in
    (run.0, (inside, long, run.1.1))
