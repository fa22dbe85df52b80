-- What a run leaves at each node, and where it stops, said of the routes. Assumes nothing.
use Rattle.std.specs.Prelude.{◌≡◌, ℕ, ◌<◌, ◌≤◌, ◌⊎◌, List, map, length, drop, Some, Ok, Err, Result, slice_index_or}
use Rattle.network.specs.declared.fault.Fault.{Fault}
use Rattle.network.specs.declared.fault.Place.TheVariants.{At, During}
use Rattle.network.specs.declared.fault.Stage.{Stage}
use Rattle.network.specs.declared.fault.Stage.TheVariants as stage
use Rattle.network.specs.Faults.{listed}
use Rattle.network.specs.Networks.{Network, Arc, at}
use Rattle.network.specs.Routes.{Route}
use Rattle.algebra.specs.Semirings.{Algebra}
use Rattle.algebra.specs.Values.{IsJoin, Fits, Misfits, LettersFit, Extended, Through}

-- the algebra, the network and the start
module _ (A : Algebra) (N : Network) (s : ℕ) where
  -- the three results that a run has of segment e, which is a and leads into node v, fit
  pub record SegmentFits (v e : ℕ) (a : Arc) : Type 0 where
    pub choices : LettersFit A a
    pub chain : Fits A N (Extended N s e)
    pub join : Fits A N (Through N s v e)

  -- and so do those of every segment into v below e
  abbrev pub AllFit : ℕ → ℕ → Type 0
  AllFit v e = (f : ℕ) → f < e → (a : Arc) → at N f ≡ Some a → a.head ≡ v → SegmentFits v f a

  -- the result at this stage is the first of segment e, which is a and leads into v, that does not fit
  abbrev pub Stuck : ℕ → ℕ → Arc → Stage → Type 0
  Stuck v e a stage.Choices = LettersFit A a → ⊥
  Stuck v e a stage.Chain = LettersFit A a × Misfits A N (Extended N s e)
  Stuck v e a stage.Join = LettersFit A a × Fits A N (Extended N s e) × Misfits A N (Through N s v e)

  -- node v stops at segment e and this stage: every result of v before it fits
  pub record Stops (v e : ℕ) (st : Stage) : Type 0 where
    pub over : Arc
    pub stands : at N e ≡ Some over
    pub into : over.head ≡ v
    pub before : AllFit v e
    pub stuck : Stuck v e over st

  module _ {V : Type 0} (means : V → A.Carrier) where
    -- each node below v has its value: the join over all routes that lead there
    abbrev pub Below : ℕ → List V → Type 0
    Below v cells = (u : ℕ) → u < v → IsJoin A N (Route N s u) (slice_index_or (map means cells) u A.zero)

    -- why node v is not answered from these cells
    pub data NodeRefused (v : ℕ) (cells : List V) (f : Fault) : Type 0 where
      NoNode : listed f ≡ (5, At 0) → ((N.nodes ≤ s) ⊎ (N.nodes ≤ v)) → NodeRefused v cells f
      FewCells : listed f ≡ (10, At 0) → s < N.nodes → v < N.nodes → length cells < v → NodeRefused v cells f
      NodeStops : (e : ℕ) (st : Stage) → listed f ≡ (24, During v e st) → s < N.nodes → v < N.nodes → v ≤ length cells
          → (Below v cells → Stops v e st) → NodeRefused v cells f

    -- what is answered of node v, where the nodes below it have their values in the cells
    abbrev pub NodeAnswer : ℕ → List V → Result V Fault → Type 0
    NodeAnswer v cells (Ok x) =
        (s < N.nodes) × (v < N.nodes) × (v ≤ length cells)
        × (Below v cells → IsJoin A N (Route N s v) (means x) × AllFit v (length N.arcs))
    NodeAnswer v cells (Err f) = NodeRefused v cells f

    -- the nodes below v have their values, every result on the way there fits, and the cells from v on are as they were
    pub record Done (old new : List V) (v : ℕ) : Type 0 where
      pub values : Below v new
      pub fit : (u : ℕ) → u < v → AllFit u (length N.arcs)
      pub rest : drop v new ≡ drop v old

    -- why a run ends with a fault, and what the cells hold then
    pub data RunRefused (old new : List V) (f : Fault) : Type 0 where
      NoStart : listed f ≡ (5, At 0) → N.nodes ≤ s → new ≡ old → RunRefused old new f
      ShortSheet : listed f ≡ (10, At 0) → s < N.nodes → length old < N.nodes → new ≡ old → RunRefused old new f
      RunStops : (v e : ℕ) (st : Stage) → listed f ≡ (24, During v e st) → s < N.nodes → N.nodes ≤ length old
          → v < N.nodes → Done old new v → Stops v e st → RunRefused old new f

    -- what a run answers and leaves in the cells
    abbrev pub Ran : List V → List V → Result (Unit {0}) Fault → Type 0
    Ran old new (Ok _) = (s < N.nodes) × (N.nodes ≤ length old) × Done old new N.nodes
    Ran old new (Err f) = RunRefused old new f
