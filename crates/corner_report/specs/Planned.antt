-- A plan that has settled a node, and what is made of its answers. Assumes nothing.
use Rattle.std.specs.Prelude.{◌≡◌, ℕ, ◌+◌, ◌<◌, ◌≤◌, ◌⊎◌, List, map, length, get_or, take, Some, slice_index_or}
use Rattle.network.specs.declared.fault.Fault.{Fault}
use Rattle.network.specs.declared.fault.Place.TheVariants.{At}
use Rattle.network.specs.declared.record.Record.{Record}
use Rattle.network.specs.declared.weight.Weight.{Weight}
use Rattle.network.specs.Faults.{listed as coded}
use Rattle.network.specs.Networks.{Network}
use Rattle.geometry.specs.Plane.{Pt}
use Rattle.sources.specs.Tables.{listed}
use Rattle.sources.specs.declared.table.Table.{Table}
use Rattle.takeoff.specs.declared.header.Header.{Header}
use Rattle.traceback.specs.Tracing.{list_of}
use Rattle.plan.specs.declared.state.State.{State}
use Rattle.plan.specs.PlanParts.{PlanParts}
use Rattle.plan.specs.Progress.{Progress}
use Rattle.plan.specs.Standing.{progress, Stands}
use Rattle.printout.specs.declared.entry.Entry.{Entry}
use Rattle.printout.specs.declared.summary.Report.{Report}
use Rattle.printout.specs.declared.weight_line.WeightLine.{WeightLine}
use Rattle.corner_report.specs.Reports.{Answers, Misfits, Tells, Weighs}

-- so many nodes are settled from s
abbrev pub settled_to : ℕ → ℕ → Progress
settled_to s n = record { start = Some s; settled = n }

-- a plan with this state stands over N, and has settled n nodes from s
pub record SettledTo (N : Network) (s : ℕ) (σ : State) (n : ℕ) : Type 0 where
  pub stands : Stands N σ
  pub so_far : progress σ ≡ settled_to s n

-- why a plan from s does not come past t: one of the two is no node, or a result up to t does not fit
abbrev pub Unsettled : Network → ℕ → ℕ → Fault → Type 0
Unsettled N s t f = ((coded f ≡ (5, At 0)) × ((N.nodes ≤ s) ⊎ (N.nodes ≤ t))) ⊎ Misfits N s t f

-- the plan has settled the target of the header from its start
abbrev pub Planned : Network → Header → PlanParts Table → Type 0
Planned N h p = SettledTo N h.start p.state (h.target + 1)

-- the corner list of the target
abbrev pub target_list : Header → PlanParts Table → List Pt
target_list h p = list_of p.state.lists h.target

-- a network, a start, a node and the corner list of that node
module _ (N : Network) (s v : ℕ) (list : List Pt) where
  -- the first n entries, as far as there is room for them, tell of the first n corners
  abbrev pub Entered : List Entry → ℕ → Type 0
  Entered entries n = (k : ℕ) → k < n → k < length entries → (d : Entry) → Tells N s v list k (slice_index_or entries k d)

  -- the first n lines are those of the first n weights
  pub record Lined (weights : List Weight) (lines : List WeightLine) (n : ℕ) : Type 0 where
    pub room : length lines ≡ 16
    pub kept : map (λ (l : WeightLine). l.weight) (take n lines) ≡ take n weights
    pub weighs : (i : ℕ) → i < n → (d : WeightLine) → Weighs N s v list (get_or lines i d).weight (get_or lines i d).best

-- the report of a header, records and weights
pub record Reckoned (h : Header) (records : List Record) (weights : List Weight) (x : Report) : Type 0 where
  pub headed : x.heading ≡ record { nodes = h.nodes; segments = length records; start = h.start; target = h.target }
  pub answers : Answers (listed h.nodes records) h.start h.target weights x
