-- The loop that works back, turn by turn. Assumes nothing.
use Rattle.std.proofs.Common.{◌≡◌, ℕ, suc, ◌+◌, ◌<◌, ◌≤◌, ◌≢◌, List, [], ◌∷◌, ◌++◌, length, take, set, sym, refl, ◌∙◌, subst, arith, length-set}
use Rattle.std.proofs.lemmas.List.{take_more_set}
use Rattle.network.specs.declared.step.Step.{Step}
use Rattle.network.specs.Costs.{Point, origin}
use Rattle.network.specs.Networks.{Network, Ruled}
use Rattle.polygons.specs.declared.polygon.Polygon.{Polygon}
use Rattle.corners.specs.CornerLists.{Corner, Cornered}
use Rattle.traceback.specs.Tracing.{Listed}
use Rattle.traceback.specs.WorkingBack.{Serves, Takes, Back}
use Rattle.traceback.proofs.Downs.{Down}
use Rattle.traceback.proofs.InNetwork.{serves_as, listed_corner, corner_listed}
use Rattle.traceback.proofs.LastSteps.{leads_lower, corner_served, start_origin}
use Rattle.traceback.proofs.OneWay.{goes_on, none_serves, something_left}

module _ (N : Network) (IsCorner : ℕ → Point → Type 0) (s : ℕ) where
  -- one step more at the end
  down_more : (v : ℕ) (p : Point) (xs : List Step) (u : ℕ) (q : Point) (x : Step) (t : ℕ) (r : Point) → Down N IsCorner s v p xs u q → u ≢ s → Takes N IsCorner u q x t r → Down N IsCorner s v p (xs ++ x ∷ []) t r
  down_more v p [] u q x t r (same_node, same_cost) far takes =
      let moved = subst (λ z. Takes N IsCorner u z x t r) (sym same_cost) takes in
      (t, (r, ((λ e. far (sym same_node ∙ e)), subst (λ n. Takes N IsCorner n p x t r) (sym same_node) moved, (refl, refl))))
  down_more v p (y ∷ xs) u q x t r (m, (o, (here, taken, below))) far takes =
      (m, (o, (here, taken, down_more m o xs u q x t r below far takes)))

  -- down to the start with nothing left is all the way back
  down_back : (v : ℕ) (p : Point) (xs : List Step) (u : ℕ) (q : Point) → Down N IsCorner s v p xs u q → u ≡ s → q ≡ origin → Back N IsCorner s v p xs
  down_back v p [] u q (same_node, same_cost) e z = (same_node ∙ e, same_cost ∙ z)
  down_back v p (x ∷ xs) u q (m, (o, (here, taken, below))) e z = (m, (o, (here, taken, down_back m o xs u q below e z)))

-- the first `count` steps lead back from v to `node`, where `left` is left; if p is listed at v, so is `left` there
pub record Descended (N : Network) (s : ℕ) (lists : List Polygon) (v : ℕ) (p : Point) (count : ℕ) (steps : List Step) (node : ℕ) (left : Point) : Type 0 where
  pub down : Down N (Listed lists) s v p (take count steps) node left
  pub lower : count + node ≤ v
  pub room : length steps ≡ 128
  pub still : Listed lists v p → Listed lists node left

module _ {N : Network} (ruled : Ruled N) (s : ℕ) (lists : List Polygon) (v : ℕ) (p : Point) where
  pub descended_more : (count : ℕ) (steps : List Step) (node : ℕ) (left : Point) (x : Step) (u : ℕ) (q : Point) → v < 128 → node ≢ s → Takes N (Listed lists) node left x u q → Descended N s lists v p count steps node left → Descended N s lists v p (count + 1) (set steps count x) u q
  descended_more count steps node left x u q few far takes d =
      let falls = leads_lower ruled x u node takes.serves.leads in
      let inside : count < length steps = omega (arith, d.lower, d.room) in
      record {
        down = subst (λ xs. Down N (Listed lists) s v p xs u q) (sym (take_more_set steps count x inside)) (down_more N (Listed lists) s v p (take count steps) node left x u q d.down far takes);
        lower = omega (arith, d.lower);
        room = length-set _ _ _ ∙ d.room;
        still = λ h. takes.serves.corner;
      }

  -- with right lists a step always serves, since every corner away from the start has a last step
  pub stuck : (count : ℕ) (steps : List Step) (node : ℕ) (left : Point) → node ≢ s → ((x : Step) (u : ℕ) (q : Point) → Serves N (Listed lists) node left x u q → ⊥) → Descended N s lists v p count steps node left → Cornered N s lists (suc v) → Listed lists v p → ⊥
  stuck count steps node left far none d right h =
      let corner = listed_corner N s lists (suc v) right node (omega (arith, d.lower)) left (d.still h) in
      let found = corner_served N s node left corner far in
      none found.step found.tail found.corner
      (serves_as N ruled (Corner N s) (Listed lists) node (λ u l. corner_listed N s lists (suc v) right u (omega (arith, d.lower))) left found.step found.tail found.corner found.serves)

  -- whatever the lists hold, no way leads all the way back then
  pub no_way_on : (count : ℕ) (steps : List Step) (node : ℕ) (left : Point) → node ≢ s → ((x : Step) (u : ℕ) (q : Point) → Serves N (Listed lists) node left x u q → ⊥) → Descended N s lists v p count steps node left → (ys : List Step) → Back N (Listed lists) s v p ys → ⊥
  no_way_on count steps node left far none d ys back =
      let on = goes_on N (Listed lists) s v p (take count steps) node left ys d.down back in
      none_serves N (Listed lists) s node left far none on.0 on.1

  pub no_way_home : (count : ℕ) (steps : List Step) (node : ℕ) (left : Point) → node ≡ s → (left ≡ origin → ⊥) → Descended N s lists v p count steps node left → (ys : List Step) → Back N (Listed lists) s v p ys → ⊥
  no_way_home count steps node left here over d ys back =
      let on = goes_on N (Listed lists) s v p (take count steps) node left ys d.down back in
      something_left N (Listed lists) s node left here over on.0 on.1

  -- with right lists nothing is left at the start
  pub nothing_left : (count : ℕ) (steps : List Step) (node : ℕ) (left : Point) → node ≡ s → Descended N s lists v p count steps node left → Cornered N s lists (suc v) → Listed lists v p → left ≡ origin
  nothing_left count steps node left e d right h =
      start_origin N ruled s left
      (subst (λ n. Corner N s n left) e (listed_corner N s lists (suc v) right node (omega (arith, d.lower)) left (d.still h)))

  pub all_back : (count : ℕ) (steps : List Step) (node : ℕ) (left : Point) → node ≡ s → left ≡ origin → Descended N s lists v p count steps node left → (count ≤ v) × (length steps ≡ 128) × Back N (Listed lists) s v p (take count steps)
  all_back count steps node left e z d =
      (omega (arith, d.lower), d.room, down_back N (Listed lists) s v p (take count steps) node left d.down e z)
