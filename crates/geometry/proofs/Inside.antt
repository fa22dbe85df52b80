-- A point lies in a polygon exactly when it is to the right of no edge; lists of equal support cover the same points.
use Rattle.std.proofs.Common.{◌≡◌, ℕ, zero, suc, ◌<◌, List, [], ◌∷◌, length, ℤ, pos, neg_ℤ, ◌≤ℤ◌, sym, refl, ap, ◌∙◌, subst, arith}
use native.Mathlib.Decide.{dec_lt, ℕ_discrete}
use mathlib.Core.Path.{fun_ext}
use lib.Signed.{≤ℤ_refl}
use Rattle.std.proofs.lemmas.Int.{ints}
use Rattle.geometry.specs.Plane.{Pt, dot, away, orient, Between, nth, In}
use Rattle.geometry.specs.Polygons.{after, before, Edges, Covered, Inside, LeftOfEdges, ray}
use Rattle.geometry.specs.Support.{support}
use Rattle.geometry.proofs.Convexity.{weak}
use Rattle.geometry.proofs.Exposing.{between_low}
use Rattle.geometry.proofs.Integers.{lin, ≤ℤ_trans}
use Rattle.geometry.proofs.Least.{Least, least, support_least, least_support}
use Rattle.geometry.proofs.LocalMinimum.{corner_min}
use Rattle.geometry.proofs.Members.{here0, in_nth}
use Rattle.geometry.proofs.Rays.{ray_start, away_cost, size_pos, away_back}
use Rattle.geometry.proofs.Round.{after_in, after_end, round, before_in, after_before}
use Rattle.geometry.proofs.Turning.{orient_back}

-- at a corner that is least, the two edges there bound the figure
many : (ps : List Pt) → Edges ps → 2 < length ps → (p : Pt) → LeftOfEdges ps p → (w : Pt) (m : ℤ) → Least ps w m → m ≤ℤ dot w p
many ps c d p b w m l = go (before n j) (before_in n j l.within) (after_before n j l.within) (after n j) refl
  where
    n : ℕ
    n = length ps

    j : ℕ
    j = l.place

    go : (i : ℕ) → i < length ps → after (length ps) i ≡ l.place → (k : ℕ) → after (length ps) l.place ≡ k → m ≤ℤ dot w p
    go i hi ij k jk =
        let a = round (length ps) i l.place hi ij in
        let r = round (length ps) l.place k l.within jk in
        let hk : k < length ps = omega arith in
        let x = l.below i hi in
        let y = l.below k hk in
        let z = corner_min w (nth ps i) (nth ps l.place) (nth ps k) p
        (c.inside i l.place k hi ij hk (omega arith) (omega arith)).left
        (b.side i l.place hi ij) (b.side l.place k l.within jk)
        (omega (arith, lin, l.reached, x)) (omega (arith, lin, l.reached, y)) in
        omega (arith, lin, l.reached, z)

-- the least corner is no dearer than a point that no edge keeps out
bound_least : (ps : List Pt) → Edges ps → (p : Pt) → LeftOfEdges ps p → (w : Pt) (m : ℤ) → Least ps w m → m ≤ℤ dot w p
bound_least ps c p b w m l = go (dec_lt 2 (length ps)) (ℕ_discrete (length ps) 2)
  where
    two : length ps ≡ 2 → m ≤ℤ dot w p
    two e =
        let x = l.below 0 (omega arith) in
        let y = l.below 1 (omega arith) in
        let z = between_low w (nth ps 0) (nth ps 1) p (c.apart 0 1 (omega arith) (omega arith)) (b.line e) in
        omega (arith, lin)

    go : Dec (2 < length ps) → Dec (length ps ≡ 2) → m ≤ℤ dot w p
    go (yes d) e = many ps c d p b w m l
    go (no d) (yes e) = two e
    go (no d) (no e) = subst (λ z. m ≤ℤ dot w z) (sym (b.single (omega (arith, b.some)))) (l.below 0 b.some)

pub inside_least : (ps : List Pt) (p w : Pt) → 0 < length ps → ((m : ℤ) → Least ps w m → m ≤ℤ dot w p) → Covered ps w p
inside_least [] p w h f = absurd (omega arith)
inside_least (q ∷ ps) p w h f =
    let (m, e, l) = least q ps w in record { place = l.place; within = l.within; covers = omega (arith, lin, l.reached, f m l) }

pub edges_inside : (ps : List Pt) → Edges ps → (p : Pt) → LeftOfEdges ps p → Inside ps p
edges_inside ps c p b = record { at = λ w. inside_least ps p w b.some (bound_least ps c p b w) }

pub inside_some : (ps : List Pt) (p : Pt) → Inside ps p → 0 < length ps
inside_some ps p h = let c = h.at (pos 0, pos 0) in omega (arith, c.within)

-- at the ray of an edge the edge is least
pub inside_edge : (ps : List Pt) → Edges ps → (p : Pt) → Inside ps p → (i j : ℕ) → i < length ps → after (length ps) i ≡ j
    → pos 0 ≤ℤ orient (nth ps i) (nth ps j) p
inside_edge ps c p h i j hi ij =
    let k = h.at (ray (nth ps i) (nth ps j)) in
    omega (arith, lin, k.covers, weak ps c i j k.place hi ij k.within, ray_start (nth ps i) (nth ps j) (nth ps k.place), ray_start (nth ps i) (nth ps j) p)

-- what holds of two corners holds of each
of_two : (ps : List Pt) → length ps ≡ 2 → (P : Pt → Type 0) → P (nth ps 0) → P (nth ps 1) → (k : ℕ) → k < length ps → P (nth ps k)
of_two ps e P a b zero h = a
of_two ps e P a b (suc zero) h = b
of_two ps e P a b (suc (suc k)) h = absurd (omega arith)

-- at the way from one corner to the other, it is the cheaper
pub toward : (ps : List Pt) (p a b : Pt) → ¬ (a ≡ b) → Covered ps (away a b) p
    → ((P : Pt → Type 0) → P a → P b → (k : ℕ) → k < length ps → P (nth ps k)) → dot (away a b) a ≤ℤ dot (away a b) p
toward ps p a b n c f =
    let l = f (λ q. dot (away a b) a ≤ℤ dot (away a b) q) (≤ℤ_refl (dot (away a b) a)) (omega (arith, lin, away_cost a b, size_pos a b n)) c.place c.within in
    ≤ℤ_trans l c.covers

inside_line : (ps : List Pt) → Edges ps → (p : Pt) → Inside ps p → length ps ≡ 2 → Between (nth ps 0) p (nth ps 1)
inside_line ps c p h e =
    let n = c.apart 0 1 (omega arith) (omega arith) in
    let x = inside_edge ps c p h 0 1 (omega arith) (after_in (length ps) 0 (omega arith)) in
    let y = inside_edge ps c p h 1 0 (omega arith) (after_end (length ps) 1 (omega arith)) in
    let z = orient_back (nth ps 0) (nth ps 1) p in
    let past = toward ps p (nth ps 0) (nth ps 1) n (h.at (away (nth ps 0) (nth ps 1))) (λ P a b. of_two ps e P a b) in
    let short = toward ps p (nth ps 1) (nth ps 0) (λ d. n (sym d)) (h.at (away (nth ps 1) (nth ps 0))) (λ P a b. of_two ps e P b a) in
    record { level = omega (arith, lin); past = past; short = omega (arith, lin, short, away_back (nth ps 0) (nth ps 1) p, away_back (nth ps 0) (nth ps 1) (nth ps 1)) }

inside_single : (ps : List Pt) (p : Pt) → Inside ps p → length ps ≡ 1 → p ≡ nth ps 0
inside_single ps p h e = go (low (pos 1, pos 0)) (low (neg_ℤ (pos 1), pos 0)) (low (pos 0, pos 1)) (low (pos 0, neg_ℤ (pos 1)))
  where
    low : (w : Pt) → dot w (nth ps 0) ≤ℤ dot w p
    low w = let c = h.at w in let z : 0 ≡ c.place = omega (arith, c.within) in subst (λ k. dot w (nth ps k) ≤ℤ dot w p) (sym z) c.covers

    x : dot (pos 1, pos 0) (nth ps 0) ≤ℤ dot (pos 1, pos 0) p → dot (neg_ℤ (pos 1), pos 0) (nth ps 0) ≤ℤ dot (neg_ℤ (pos 1), pos 0) p
        → p.0 ≡ (nth ps 0).0
    x a b = omega (arith, ints)

    y : dot (pos 0, pos 1) (nth ps 0) ≤ℤ dot (pos 0, pos 1) p → dot (pos 0, neg_ℤ (pos 1)) (nth ps 0) ≤ℤ dot (pos 0, neg_ℤ (pos 1)) p
        → p.1 ≡ (nth ps 0).1
    y a b = omega (arith, ints)

    go : dot (pos 1, pos 0) (nth ps 0) ≤ℤ dot (pos 1, pos 0) p → dot (neg_ℤ (pos 1), pos 0) (nth ps 0) ≤ℤ dot (neg_ℤ (pos 1), pos 0) p
        → dot (pos 0, pos 1) (nth ps 0) ≤ℤ dot (pos 0, pos 1) p → dot (pos 0, neg_ℤ (pos 1)) (nth ps 0) ≤ℤ dot (pos 0, neg_ℤ (pos 1)) p → p ≡ nth ps 0
    go a b c d = λ i. (x a b i, y c d i)

pub inside_edges : (ps : List Pt) → Edges ps → (p : Pt) → Inside ps p → LeftOfEdges ps p
inside_edges ps c p h = record { some = inside_some ps p h; side = inside_edge ps c p h; line = inside_line ps c p h; single = inside_single ps p h }

-- the least of a list whose points all lie in rs
least_inside : (rs pts : List Pt) (w : Pt) (m : ℤ) → ((i : ℕ) → i < length rs → In pts (nth rs i)) → ((s : Pt) → In pts s → Inside rs s)
    → Least rs w m → Least pts w m
least_inside rs pts w m from inside l =
    let f = from l.place l.within in
    record { below = below; place = f.place; within = f.within; reached = ap (dot w) f.here ∙ l.reached }
  where
    below : (i : ℕ) → i < length pts → m ≤ℤ dot w (nth pts i)
    below i h = let c = (inside (nth pts i) (in_nth pts i h)).at w in ≤ℤ_trans (l.below c.place c.within) c.covers

-- corners that are points, and points that lie within the corners: the supports are equal
pub same_support : (rs pts : List Pt) → ((i : ℕ) → i < length rs → In pts (nth rs i)) → ((s : Pt) → In pts s → Inside rs s) → support rs ≡ support pts
same_support [] [] from inside = refl
same_support [] (p ∷ pts) from inside = absurd (omega (arith, inside_some [] p (inside p (here0 p pts))))
same_support (r ∷ rs) pts from inside = fun_ext (λ w.
    let (m, e, l) = least r rs w in
    e ∙ sym (support_least pts w m (least_inside (r ∷ rs) pts w m from inside l)))

-- and the other way: lists of equal support cover the same points
pub support_inside : (rs pts : List Pt) → support rs ≡ support pts → (s : Pt) → In pts s → Inside rs s
support_inside rs pts e s h = record { at = λ w. go w pts e h }
  where
    go : (w : Pt) (pts : List Pt) → support rs ≡ support pts → In pts s → Covered rs w s
    go w [] e h = absurd (omega (arith, h.within))
    go w (p ∷ pts) e h =
        let (m, f, l) = least p pts w in
        let k = least_support rs w m (ap (λ g. g w) e ∙ f) in
        let below = l.below h.place h.within in
        record { place = k.place; within = k.within; covers = subst (λ z. dot w (nth rs k.place) ≤ℤ dot w z) h.here (subst (λ z. z ≤ℤ dot w (nth (p ∷ pts) h.place)) (sym k.reached) below) }
