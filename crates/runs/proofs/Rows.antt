-- The sheet, node by node. Assumes nothing.
use Rattle.std.proofs.Common.{◌≡◌, ℕ, ◌+◌, ◌<◌, ◌≤◌, ◌≢◌, List, map, length, get_or, drop, set, Ok, Err, Result, sym, refl, ap, ◌∙◌, subst, inl, inr, arith, below_more}
use Rattle.std.proofs.lemmas.List.{map-set, drop-set-lt, drop-drop, length-map, get_or-set_same, get_or-set_other}
use Rattle.algebra.specs.Semirings.{Algebra}
use Rattle.algebra.specs.Values.{IsJoin}
use Rattle.network.specs.declared.fault.Fault.{Fault}
use Rattle.network.specs.Faults.{listed}
use Rattle.network.specs.Networks.{Network}
use Rattle.network.specs.Routes.{Route}
use Rattle.runs.specs.Runs.{AllFit, Below, Done, NodeAnswer, NodeRefused, NoNode, FewCells, NodeStops, RunRefused, RunStops}
use Rattle.runs.specs.Steps.{Gathers}

module _ (A : Algebra) (N : Network) (s : ℕ) {V : Type 0} (means : V → A.Carrier) where
  -- one node more
  pub done_more : (old new last : List V) (v : ℕ) (x : V) → last ≡ set new v x → v < length new → IsJoin A N (Route N s v) (means x) × AllFit A N s v (length N.arcs) → Done A N s means old new v → Done A N s means old last (v + 1)
  done_more old new last v x put l r h =
      let is : map means last ≡ set (map means new) v (means x) = ap (map means) put ∙ map-set means new v x in
      let other : (u : ℕ) → u < v → get_or (map means last) u A.zero ≡ get_or (map means new) u A.zero =
      λ u b. let ne : u ≢ v = omega arith in ap (λ xs. get_or xs u A.zero) is ∙ get_or-set_other (map means new) v u (means x) A.zero ne in
      let this : get_or (map means last) v A.zero ≡ means x = ap (λ xs. get_or xs v A.zero) is ∙ get_or-set_same (map means new) v (means x) A.zero (simp length-map l) in
      record {
        values = below_more (λ u. IsJoin A N (Route N s u) (get_or (map means last) u A.zero)) v
            (λ u b L exact. other u b ∙ h.values u b L exact)
            (λ L exact. this ∙ r.0 L exact);
        fit = below_more (λ u. AllFit A N s u (length N.arcs)) v h.fit r.1;
        rest = ap (drop (v + 1)) put ∙ drop-set-lt (v + 1) new v x (omega arith) ∙ sym (drop-drop 1 v new) ∙ ap (drop 1) h.rest ∙ drop-drop 1 v old;
      }

  pub below_same : {xs ys : List V} {v : ℕ} → xs ≡ ys → Below A N s means v ys → Below A N s means v xs
  below_same {v = v} e h = subst (λ zs. Below A N s means v zs) (sym e) h

  -- no node yet
  pub none_done : (old : List V) → Done A N s means old old 0
  none_done old = record { values = λ u l. absurd (omega arith); fit = λ u l. absurd (omega arith); rest = refl }

  -- what the gathering answers is what the node answers
  pub node_answers : (v : ℕ) (cells : List V) (r : Result V Fault) → s < N.nodes → v < N.nodes → v ≤ length cells → Gathers A means N s v cells r → NodeAnswer A N s means v cells r
  node_answers v cells (Ok x) p q l h = (p, q, l, h)
  node_answers v cells (Err f) p q l h = NodeStops h.0 h.1 (ap listed h.2) p q l h.3

  -- where a node stops, the run does
  pub run_stops : (old new cells : List V) (v : ℕ) (f : Fault) → cells ≡ new → v < N.nodes → s < N.nodes → N.nodes ≤ length old → length new ≡ length old → Done A N s means old new v → NodeRefused A N s means v cells f → RunRefused A N s means old new f
  run_stops old new cells v f same l p long kept done (NoNode is (inl h)) = absurd (omega arith)
  run_stops old new cells v f same l p long kept done (NoNode is (inr h)) = absurd (omega arith)
  run_stops old new cells v f same l p long kept done (FewCells is a b h) = absurd (omega (arith, ap length same))
  run_stops old new cells v f same l p long kept done (NodeStops e st is a b c h) =
      RunStops v e st is p long l done (h (below_same same done.values))
