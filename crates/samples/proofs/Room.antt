-- A test that all results of a run of the polygon kind fit, since nowhere are there more than 32 routes. Assumes nothing.
use Rattle.std.proofs.Common.{◌≡◌, ℕ, suc, ◌<◌, ◌≤◌, Bool, true, ◌&&◌, leb, List, [], ◌∷◌, map, length, take, Some, None, Option, sym, refl, ◌∙◌, subst, arith}
use Rattle.std.proofs.lemmas.List.{get_or-map, get_or-take, length-map, length-take}
use Rattle.std.proofs.lemmas.Int.{ints}
use Rattle.std.proofs.lemmas.Bool.{and_parts, leb-true}
use Rattle.network.specs.declared.size.Size.{Size}
use Rattle.network.specs.declared.step.Step.{Step}
use Rattle.network.specs.Choices.{InRange, Ranged, choice}
use Rattle.network.specs.Networks.{Arc, Network, Proper, Ruled, at}
use Rattle.network.specs.Routes.{Route}
use Rattle.network.proofs.Routes.{route_push}
use Rattle.algebra.specs.Enumerated.{extended, routes, routes_below}
use Rattle.algebra.specs.Lists as lists
use Rattle.algebra.specs.Values.{Extended, LettersFit, Through, joined, word}
use Rattle.algebra.proofs.Exact.{below_exact, extended_exact}
use Rattle.algebra.proofs.Results.{fits_from}
use Rattle.geometry.specs.Exposed.{cost_range}
use Rattle.geometry.specs.Plane.{In, Near, Pt, nth}
use Rattle.geometry.specs.Support.{join, support}
use Rattle.geometry.proofs.Alone.{corner_in}
use Rattle.geometry.proofs.Existing.{hull_exists}
use Rattle.geometry.proofs.Members.{in_nth}
use Rattle.geometry.proofs.Pigeons.{no_longer}
use Rattle.geometry.proofs.Semiring.{append_support}
use Rattle.polygons.specs.Fits.{Fits, hulls, letter}
use Rattle.polygons.specs.HullLaws.{hulls_semiring}
use Rattle.runs.specs.Runs.{AllFit, SegmentFits}
use Rattle.corners.proofs.Listing.{spot_out}
use Rattle.corners.proofs.RouteCosts.{route_near}
use Rattle.corners.proofs.Supports.{joined_spots, route_spot}
use Rattle.samples.proofs.Tests.{below?, below_passed}

-- a hull has no more corners than points, and they are some of these
pub few_fit : (pts : List Pt) → length pts ≤ 32 → ((p : Pt) → In pts p → Near cost_range p) → Fits (support pts)
few_fit pts few near =
    let (rs, (polygon, level)) = hull_exists pts in
    let from : (i : ℕ) → i < length rs → In pts (nth rs i) = λ i h. corner_in pts rs polygon level (nth rs i) (in_nth rs i h) in
    let shorter = no_longer rs pts polygon.convex.apart from in
    record { corners = rs; rounded = polygon; few = omega arith; near = λ i h. near (nth rs i) (from i h); support_is = level }

-- the letters of a segment are points
abbrev parts : Size → Pt
parts z = (z.price, z.pressure)

letters_support : (zs : List Size) → joined hulls (map letter zs) ≡ support (map parts zs)
letters_support [] = refl
letters_support (z ∷ zs) = (λ i. join (letter z) (letters_support zs i)) ∙ sym (append_support (parts z ∷ []) (map parts zs))

letters_near : (zs : List Size) → Ranged zs → (p : Pt) → In (map parts zs) p → Near cost_range p
letters_near zs ranged p m =
    let within : m.place < length zs = omega (arith, m.within, length-map zs parts) in
    let same : parts (choice zs m.place) ≡ p = sym (get_or-map parts zs m.place _ _ within) ∙ m.here in
    let h = ranged m.place within in
    subst (Near cost_range) same (record {
      wide = (omega (arith, ints, h.0.0), omega (arith, ints, h.0.1));
      high = (omega (arith, ints, h.1.0), omega (arith, ints, h.1.1));
    })

letters_fit : (n : ℕ) (a : Arc) → Proper n a → LettersFit hulls a
letters_fit n a proper k l =
    let zs = a.sizes in
    let short = length-take k zs in
    let ranged : Ranged (take k zs) = λ i h. subst InRange (sym (get_or-take k zs i _ (omega arith))) (proper.ranged i (omega arith)) in
    subst Fits (sym (letters_support (take k zs)))
    (few_fit (map parts (take k zs)) (rw length-map (omega (arith, proper.few))) (letters_near (take k zs) ranged))

module _ (N : Network) (ruled : Ruled N) (s : ℕ) where
  -- the join over few routes fits
  routes_fit : (v : ℕ) (L : List (List Step)) → ((r : List Step) → lists.In r L → Route N s v r) → length L ≤ 32 → Fits (joined hulls (map (word hulls N) L))
  routes_fit v L leads few =
      subst Fits (sym (joined_spots N s v L leads))
      (few_fit (map (route_spot N) L) (rw length-map few)
      (λ p m. let o = spot_out N L p m in subst (Near cost_range) o.1.1 (route_near N ruled s v o.0 (leads o.0 o.1.0))))

  -- a route that is extended over segment e leads to its head
  extended_leads : (e : ℕ) (a : Arc) → at N e ≡ Some a → (r : List Step) → Extended N s e r → Route N s a.head r
  extended_leads e a stands r h =
      let same : h.over ≡ a = let one = h.stands in cc in
      subst (λ (b : Arc). Route N s b.head r) same
      (subst (Route N s h.over.head) (sym h.is)
      (route_push N s h.over.tail h.over.head h.front (record { segment = e; choice = h.choice_number }) h.leads
      (record { over = h.over; stands = h.stands; from = refl; to = refl; within = h.within })))

-- no more than 32 routes over segment e, nor to its head through segments up to e
abbrev roomy_at? : Network → ℕ → ℕ → Option Arc → Bool
roomy_at? N s e None = true
roomy_at? N s e (Some a) = leb (length (extended (routes N s a.tail) e (length a.sizes))) 32 && leb (length (routes_below N s a.head (suc e))) 32

abbrev pub roomy? : Network → ℕ → Bool
roomy? N s = below? (length N.arcs) (λ e. roomy_at? N s e (at N e))

module _ (N : Network) (ruled : Ruled N) (s : ℕ) (t : roomy? N s ≡ true) where
  segment_fits : (e : ℕ) → e < length N.arcs → (a : Arc) → at N e ≡ Some a → SegmentFits hulls N s a.head e a
  segment_fits e l a stands =
      let ours = extended (routes N s a.tail) e (length a.sizes) in
      let through = routes_below N s a.head (suc e) in
      let passed = subst (λ (o : Option Arc). roomy_at? N s e o ≡ true) stands (below_passed (length N.arcs) (λ n. roomy_at? N s n (at N n)) t e l) in
      let few = and_parts (leb (length ours) 32) (leb (length through) 32) passed in
      let over = extended_exact ruled s e a stands in
      let below = below_exact ruled s a.head e in
      record {
        choices = letters_fit N.nodes a (ruled.proper e a stands);
        chain =
            fits_from hulls_semiring N (Extended N s e) ours over
            (routes_fit N ruled s a.head ours (λ r m. extended_leads N ruled s e a stands r (over.only r m)) (leb-true (length ours) 32 few.0));
        join =
            fits_from hulls_semiring N (Through N s a.head e) through below
            (routes_fit N ruled s a.head through (λ r m. (below.only r m).leads) (leb-true (length through) 32 few.1));
      }

  pub all_fit : (v : ℕ) → AllFit hulls N s v (length N.arcs)
  all_fit v e l a stands into = subst (λ (n : ℕ). SegmentFits hulls N s n e a) into (segment_fits e l a stands)
