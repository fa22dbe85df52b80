-- The segments and the routes of a grid. Assumes nothing.
use Rattle.std.proofs.Common.{◌≡◌, ℕ, ◌+◌, ◌-◌, ◌*◌, ◌/◌, ◌%◌, ◌<◌, Bool, true, false, cond, eqb, ltb, List, [], ◌∷◌, map, length, Some, None, refl, ap, ◌∙◌, subst, inl, inr, arith}
use Rattle.std.proofs.lemmas.List.{length-map}
use Rattle.std.proofs.lemmas.Bool.{eq-eqb, ne_eqb, le-ltb, cond-false}
use Rattle.std.specs.List.{AllByRecursion}
use Rattle.network.specs.declared.size.Size.{Size}
use Rattle.network.specs.declared.step.Step.{Step}
use Rattle.network.specs.Routes.{Leads, Route}
use Rattle.grids.specs.declared.cell.Cell.{Cell}
use Rattle.grids.specs.Crossings.{Before}
use Rattle.grids.specs.Grids.{paid, plus_extra, crossing, origin, entering, grid}
use Rattle.grids.specs.GridRules.{at_grid, grid_crosses}
use Rattle.grids.specs.Walks.{IsOpen, Stands, Entered, Goes, Walk, Through, Walked}

origin_at : (w e v : ℕ) (b : Bool) → eqb (e % 2) 0 ≡ b → e / 2 ≡ v → origin w e ≡ cond b (cond (eqb (v % w) 0) None (Some (v - 1))) (cond (ltb v w) None (Some (v - w)))
origin_at w e v b p q = λ i. cond (p i) (cond (eqb (q i % w) 0) None (Some (q i - 1))) (cond (ltb (q i) w) None (Some (q i - w)))

origin_left : (w u v : ℕ) → u + 1 ≡ v → (v % w ≡ 0 → ⊥) → origin w (2 * v) ≡ Some u
origin_left w u v n off =
    origin_at w (2 * v) v true (eq-eqb (2 * v % 2) 0 (omega arith)) (omega arith)
    ∙ cond-false (eqb (v % w) 0) None (Some (v - 1)) (ne_eqb (v % w) 0 off)
    ∙ ap Some (omega arith)

origin_above : (w u v : ℕ) → u + w ≡ v → origin w (2 * v + 1) ≡ Some u
origin_above w u v n =
    origin_at w (2 * v + 1) v false (ne_eqb ((2 * v + 1) % 2) 0 (omega arith)) (omega arith)
    ∙ cond-false (ltb v w) None (Some (v - w)) (le-ltb v w (omega arith))
    ∙ ap Some (omega arith)

module _ (w h : ℕ) (cs : List Cell) (zs : List Size) where
  -- a segment into v stands where its origin is a cell u, and both are open
  stands : (e u v : ℕ) → e < 2 * (w * h) → e / 2 ≡ v → origin w e ≡ Some u → IsOpen cs u → IsOpen cs v → Stands (grid w h cs zs) e u v
  stands e u v l q o a b = (
    record { tail = u; head = v; sizes = map (plus_extra (paid a.0 b.0)) zs },
    ((at_grid w h cs zs e l ∙ (λ i. entering cs zs (q i) (o i)) ∙ (λ i. crossing zs u v (a.1 i) (b.1 i))), (refl, refl)),
  )

  pub grid_entered : Entered w h cs zs (grid w h cs zs)
  grid_entered = record {
    each = grid_crosses w h cs zs;
    left = λ u v i n off a b. stands (2 * v) u v (omega arith) (omega arith) (origin_left w u v n off) a b;
    above = λ u v i n a b. stands (2 * v + 1) u v (omega arith) (omega arith) (origin_above w u v n) a b;
  }

  step_goes : (s : Step) (u v : ℕ) → Leads (grid w h cs zs) s u v → Goes w h cs u v
  step_goes s u v l =
      let x = grid_crosses w h cs zs s.segment l.over l.stands in
      record {
        inside = subst (λ i. i < w * h) l.to x.inside;
        before = subst (λ i. Before w u i) l.to (subst (λ i. Before w i l.over.head) l.from x.before);
        leaves = subst (IsOpen cs) l.from (x.left, x.tail_open);
        enters = subst (IsOpen cs) l.to (x.entered, x.head_open);
      }

  route_walks : (u v : ℕ) (r : List Step) → Route (grid w h cs zs) u v r → (xs : List ℕ) × (Walk w h cs u v xs × Through (grid w h cs zs) u xs r)
  route_walks u v [] q = ([], (q, tt))
  route_walks u v (s ∷ r) q =
      let rest = route_walks q.0 v r q.1.1 in
      (q.0 ∷ rest.0, ((step_goes s u q.0 q.1.0, rest.1.0), (q.1.0, rest.1.1)))

  -- over a segment that stands, by any choice
  leads_by : (e u v k : ℕ) → k < length zs → Stands (grid w h cs zs) e u v → Leads (grid w h cs zs) (record { segment = e; choice = k }) u v
  leads_by e u v k l s =
      let x = grid_crosses w h cs zs e s.0 s.1.0 in
      let long : length s.0.sizes ≡ length zs = ap length x.choices ∙ length-map zs (plus_extra (paid x.left x.entered)) in
      record { over = s.0; stands = s.1.0; from = s.1.1.0; to = s.1.1.1; within = omega (arith, long) }

  goes_step : (u v k : ℕ) → k < length zs → Goes w h cs u v → (s : Step) × (Leads (grid w h cs zs) s u v × (s.choice ≡ k))
  goes_step u v k l g =
      elim g.before [
        | inl n ↦ (record { segment = 2 * v; choice = k }, (leads_by (2 * v) u v k l (grid_entered.left u v g.inside n.0 n.1 g.leaves g.enters), refl))
        | inr n ↦ (record { segment = 2 * v + 1; choice = k }, (leads_by (2 * v + 1) u v k l (grid_entered.above u v g.inside n g.leaves g.enters), refl))
      ]

  walk_routes : (u v : ℕ) (xs : List ℕ) → Walk w h cs u v xs → (ks : List ℕ) → length ks ≡ length xs → AllByRecursion (λ k. k < length zs) ks → (r : List Step) × (Route (grid w h cs zs) u v r × (Through (grid w h cs zs) u xs r × (map (λ s. s.choice) r ≡ ks)))
  walk_routes u v [] q [] e a = ([], (q, (tt, refl)))
  walk_routes u v [] q (k ∷ ks) e a = absurd (omega arith)
  walk_routes u v (x ∷ xs) q [] e a = absurd (omega arith)
  walk_routes u v (x ∷ xs) q (k ∷ ks) e a =
      let here = goes_step u x k a.0 q.0 in
      let rest = walk_routes x v xs q.1 ks (omega arith) a.1 in
      (here.0 ∷ rest.0, ((x, (here.1.0, rest.1.0)), ((here.1.0, rest.1.1.0), λ i. here.1.1 i ∷ rest.1.1.1 i)))

  pub grid_walked : Walked w h cs zs (grid w h cs zs)
  grid_walked = record { only = route_walks; all = walk_routes }
