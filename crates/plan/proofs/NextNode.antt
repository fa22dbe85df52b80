-- What settling a node answers. Assumes nothing.
use Rattle.std.proofs.Common.{◌≡◌, ℕ, ◌<◌, length, Some, Ok, Err, Result, inl, inr, arith, below_more}
use Rattle.network.specs.declared.fault.Fault.{Fault}
use Rattle.network.specs.Networks.{Network, Ruled}
use Rattle.polygons.specs.declared.polygon.Polygon.{Polygon}
use Rattle.polygons.specs.Fits.{hulls, costs}
use Rattle.runs.specs.Runs.{AllFit, NodeAnswer, NodeRefused, NoNode, FewCells, NodeStops}
use Rattle.corners.proofs.Passing.{all_get_past, all_stop}
use Rattle.plan.specs.declared.state.State.{State}
use Rattle.plan.specs.Answers.{Settles, SettleRefused, Misfit}
use Rattle.plan.specs.Lists.{Found, NextList}
use Rattle.plan.specs.Progress.{Progress}
use Rattle.plan.specs.Standing.{progress, Stands}

module _ (N : Network) (ruled : Ruled N) (σ : State) (stands : Stands N σ) (s : ℕ) (is : σ.start ≡ Some s) (low : σ.settled < N.nodes) where
  refuses : (f : Fault) → NodeRefused hulls N s costs σ.settled σ.lists f → SettleRefused N (progress σ) f
  refuses f (NoNode at (inl a)) = absurd (omega (arith, stands.start_inside s is))
  refuses f (NoNode at (inr a)) = absurd (omega arith)
  refuses f (FewCells at a b c) = absurd (omega (arith, σ.room, ruled.few))
  refuses f (NodeStops e st at a b c stops) =
      let here = stops (stands.values s is) in
      Misfit s e st at is low here (all_stop N ruled s a σ.settled e st f at low (stands.fits s is) here)

  -- what one node of a run answers, said of the plan
  pub next_list : (r : Result Polygon Fault) → NodeAnswer hulls N s costs σ.settled σ.lists r → NextList N (progress σ) r
  next_list (Ok x) h =
      let (value, fit) = h.3 (stands.values s is) in
      record {
        start = s;
        is_started = is;
        lower = low;
        start_inside = h.0;
        value = value;
        fits = below_more (λ v. AllFit hulls N s v (length N.arcs)) σ.settled (stands.fits s is) fit;
      }
  next_list (Err f) h = refuses f h

-- a node that was found settles as every run gets past it
pub found_settles : (N : Network) → Ruled N → (p : Progress) (x : Polygon) → Found N p x → Settles N p
found_settles N ruled p x found = record {
  start = found.start;
  is_started = found.is_started;
  lower = found.lower;
  fits = found.fits p.settled (omega arith);
  as_every_run = all_get_past N ruled found.start found.start_inside p.settled (λ u l. found.fits u (omega arith));
}
