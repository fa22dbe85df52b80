-- The enumeration holds no route twice. Assumes nothing.
use Rattle.std.proofs.Common.{◌≡◌, ℕ, zero, suc, ◌+◌, eqb, List, [], ◌∷◌, ◌++◌, length, take, Some, None, Option, sym, ap, ◌∙◌, subst, arith}
use Rattle.std.proofs.lemmas.List.{same_from_push}
use Rattle.network.specs.declared.step.Step.{Step}
use Rattle.network.specs.Networks.{Network, Arc}
use Rattle.algebra.specs.Lists.{In, Distinct}
use Rattle.algebra.specs.Enumerated.{ends_with, extended, over, into, own, within, routes_below}
use Rattle.algebra.proofs.Membership.{distinct_append, cond_distinct}
use Rattle.algebra.proofs.Enumerates.{Table, step, ends_out, extended_out, over_out, into_out, own_out}

pub not_nil : (r : List Step) (x : Step) → [] ≡ r ++ x ∷ [] → ⊥
not_nil [] x e = cc
not_nil (y ∷ r) x e = cc

ends_distinct : (r : List Step) (e c n : ℕ) → Distinct (ends_with r e c n)
unfolding ends_with
ends_distinct r e c zero = tt
ends_distinct r e c (suc n) = (
  λ m. let o = ends_out _ r e (suc c) n m in
      let same : step e c ≡ step e o.0 = (same_from_push r r _ _ o.3).1 in
      let k : c ≡ o.0 = ap (λ s. s.choice) same in
      omega (arith, k, o.1),
  ends_distinct r e (suc c) n,
)

pub extended_distinct : (rs : List (List Step)) (e n : ℕ) → Distinct rs → Distinct (extended rs e n)
unfolding extended
extended_distinct [] e n d = tt
extended_distinct (r ∷ rs) e n d =
    distinct_append (ends_with r e 0 n) (extended rs e n) (ends_distinct r e 0 n) (extended_distinct rs e n d.1)
    (λ z a m. let o = ends_out z r e 0 n a in let p = extended_out rs e n z m in
    d.0 (subst (λ w. In w rs) (same_from_push p.before r _ _ (sym p.is ∙ o.3)).0 p.listed))

over_distinct : (b : Table) (v e : ℕ) (x : Option Arc) → ((u : ℕ) → Distinct (b u)) → Distinct (over b v e x)
over_distinct b v e None d = tt
over_distinct b v e (Some s) d = cond_distinct (eqb s.head v) _ (extended_distinct (b s.tail) e (length s.sizes) (d s.tail))

pub into_distinct : (b : Table) (v k : ℕ) (xs : List (Option Arc)) → ((u : ℕ) → Distinct (b u)) → Distinct (into b v k xs)
unfolding into
into_distinct b v k [] d = tt
into_distinct b v k (x ∷ xs) d =
    distinct_append (over b v k x) (into b v (suc k) xs) (over_distinct b v k x d) (into_distinct b v (suc k) xs d)
    (λ z a m. let o = (over_out b v k x z a).ends in let p = into_out b v (suc k) xs z m in
    let same = (same_from_push _ _ _ _ (sym o.is ∙ p.1.ends.is)).1 in
    let w : k ≡ suc k + p.0 = ap (λ s. s.segment) same in
    omega arith)

own_distinct : (start v : ℕ) → Distinct (own start v)
unfolding own
own_distinct start v = cond_distinct (eqb v start) ([] ∷ []) (λ h. h, tt)

-- the routes that begin at the start, and those over the segments xs
whole_distinct : (b : Table) (start v : ℕ) (xs : List (Option Arc)) → ((u : ℕ) → Distinct (b u)) → Distinct (own start v ++ into b v 0 xs)
whole_distinct b start v xs d =
    distinct_append (own start v) (into b v 0 xs) (own_distinct start v) (into_distinct b v 0 xs d)
    (λ z a m. not_nil _ _ (sym (own_out start v z a).1 ∙ (into_out b v 0 xs z m).1.ends.is))

pub within_distinct : (N : Network) (start n v : ℕ) → Distinct (within N start n v)
unfolding within
within_distinct N start zero v = tt
within_distinct N start (suc n) v = whole_distinct (within N start n) start v N.arcs (within_distinct N start n)

pub below_distinct : (N : Network) (start v e : ℕ) → Distinct (routes_below N start v e)
unfolding routes_below
below_distinct N start v e = whole_distinct (within N start v) start v (take e N.arcs) (within_distinct N start v)
