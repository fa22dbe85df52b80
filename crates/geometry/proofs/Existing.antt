-- Every list of points has its polygon: search the least point, then walk until the walk comes back.
use Rattle.std.proofs.Common.{◌≡◌, ℕ, zero, suc, ◌<◌, ◌≤◌, ◌⊎◌, List, [], ◌∷◌, ◌++◌, length, ℤ, pos, ◌≤ℤ◌, ◌<ℤ◌, refl, subst, inl, inr, arith}
use Rattle.std.proofs.lemmas.Int.{by_lt_z}
use Rattle.geometry.specs.Exposed.{Exposed}
use Rattle.geometry.specs.Plane.{Pt, dot, away, orient, Lex, nth, In}
use Rattle.geometry.specs.Polygons.{Polygon}
use Rattle.geometry.specs.Steps.{LeastOf, Takes, Keeps, Found, Going, measure}
use Rattle.geometry.specs.Support.{support}
use Rattle.geometry.specs.Walks.{Wraps}
use Rattle.geometry.proofs.Going.{begin, going_exposed, closes, goes, falls}
use Rattle.geometry.proofs.Hull.{hull_polygon, hull_support}
use Rattle.geometry.proofs.Integers.{lin}
use Rattle.geometry.proofs.Members.{here0}
use Rattle.geometry.proofs.Results.{empty_polygon}
use Rattle.geometry.proofs.Searching.{least_none, least_took, least_kept, found_none, took, kept}
use Rattle.geometry.proofs.Turning.{same?}

compare : (a b : ℤ) → (a <ℤ b) ⊎ ((a ≡ b) ⊎ (b <ℤ a))
compare a b = by_lt_z a b inl (λ k. by_lt_z b a (λ l. inr (inr l)) (λ l. inr (inl (omega (arith, lin)))))

takes_or_keeps : (p b s : Pt) → Takes p b s ⊎ Keeps p b s
takes_or_keeps p b s = go (same? s p) (same? b p) (compare (orient p b s) (pos 0)) (by_lt_z (dot (away p b) b) (dot (away p b) s) inl inr)
  where
    go : Dec (s ≡ p) → Dec (b ≡ p) → (orient p b s <ℤ pos 0) ⊎ ((orient p b s ≡ pos 0) ⊎ (pos 0 <ℤ orient p b s))
        → (dot (away p b) b <ℤ dot (away p b) s) ⊎ (dot (away p b) s ≤ℤ dot (away p b) b) → Takes p b s ⊎ Keeps p b s
    go (yes e) d t l = inr (record { why = inl e })
    go (no n) (yes e) t l = inl (record { other = n; why = inl e })
    go (no n) (no m) (inl t) l = inl (record { other = n; why = inr (inl t) })
    go (no n) (no m) (inr (inl t)) (inl l) = inl (record { other = n; why = inr (inr (t, l)) })
    go (no n) (no m) (inr (inl t)) (inr l) = inr (record { why = inr (m, inr (t, l)) })
    go (no n) (no m) (inr (inr t)) l = inr (record { why = inr (m, inl t) })

-- the next corner, among the first n points
search_next : (pts : List Pt) (p : Pt) → In pts p → Exposed pts p → (n : ℕ) → n ≤ length pts → (q : Pt) × Found pts p q n
search_next pts p h x zero l = (p, found_none pts p h)
search_next pts p h x (suc n) l = let (b, f) = search_next pts p h x n (omega arith) in go b f (takes_or_keeps p b (nth pts n))
  where
    go : (b : Pt) → Found pts p b n → Takes p b (nth pts n) ⊎ Keeps p b (nth pts n) → (q : Pt) × Found pts p q (suc n)
    go b f (inl t) = (nth pts n, subst (Found pts p (nth pts n)) (omega arith) (took pts p b n (omega arith) x f t))
    go b f (inr k) = (b, subst (Found pts p b) (omega arith) (kept pts p b n (omega arith) x f k))

lex? : (p q : Pt) → Dec (Lex p q)
lex? p q = go (compare p.0 q.0) (compare p.1 q.1)
  where
    go : (p.0 <ℤ q.0) ⊎ ((p.0 ≡ q.0) ⊎ (q.0 <ℤ p.0)) → (p.1 <ℤ q.1) ⊎ ((p.1 ≡ q.1) ⊎ (q.1 <ℤ p.1)) → Dec (Lex p q)
    go (inl a) b = yes (record { lex = inl a })
    go (inr (inl a)) (inl b) = yes (record { lex = inr (a, b) })
    go (inr (inl a)) (inr (inl b)) = no (λ l. omega (arith, lin, l.lex))
    go (inr (inl a)) (inr (inr b)) = no (λ l. omega (arith, lin, l.lex))
    go (inr (inr a)) b = no (λ l. omega (arith, lin, l.lex))

search_least : (pts : List Pt) (p : Pt) → In pts p → (n : ℕ) → n ≤ length pts → (o : Pt) × LeastOf pts o n
search_least pts p h zero l = (p, least_none pts p h)
search_least pts p h (suc n) l = let (o, f) = search_least pts p h n (omega arith) in go o f (lex? (nth pts n) o)
  where
    go : (o : Pt) → LeastOf pts o n → Dec (Lex (nth pts n) o) → (o : Pt) × LeastOf pts o (suc n)
    go o f (yes x) = (nth pts n, subst (LeastOf pts (nth pts n)) (omega arith) (least_took pts o n (omega arith) f x))
    go o f (no x) = (o, subst (LeastOf pts o) (omega arith) (least_kept pts o n f x))

-- with enough steps left, a walk comes round
walk : (n : ℕ) (pts os : List Pt) (o p : Pt) → Going pts os o p → measure pts os o p < n → (rs : List Pt) × Wraps pts rs
walk zero pts os o p g l = absurd (omega arith)
walk (suc n) pts os o p g l =
    let (q, f) = search_next pts p g.among (going_exposed pts os o p g) (length pts) (omega arith) in
    go q f (same? q o) (λ d. walk n pts (os ++ p ∷ []) o q (goes pts os o p g q f d) (omega (arith, falls pts os o p q g f d)))
  where
    go : (q : Pt) → Found pts p q (length pts) → Dec (q ≡ o) → (¬ (q ≡ o) → (rs : List Pt) × Wraps pts rs) → (rs : List Pt) × Wraps pts rs
    go q f (yes e) on = (os ++ p ∷ [], closes pts os o p g q f e)
    go q f (no d) on = on d

pub walk_exists : (p : Pt) (pts : List Pt) → (rs : List Pt) × Wraps (p ∷ pts) rs
walk_exists p pts =
    let (o, l) = search_least (p ∷ pts) p (here0 p pts) (length (p ∷ pts)) (omega arith) in
    walk (suc (measure (p ∷ pts) [] o o)) (p ∷ pts) [] o o (begin (p ∷ pts) o l) (omega arith)

pub hull_exists : (pts : List Pt) → (rs : List Pt) × (Polygon rs × (support rs ≡ support pts))
hull_exists [] = ([], (empty_polygon, refl))
hull_exists (p ∷ pts) = let (rs, h) = walk_exists p pts in (rs, (hull_polygon (p ∷ pts) rs h, hull_support (p ∷ pts) rs h))
