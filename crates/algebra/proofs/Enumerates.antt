-- What each list of the enumeration holds. Assumes nothing.
use Rattle.std.proofs.Common.{◌≡◌, ℕ, zero, suc, ◌+◌, ◌<◌, ◌≤◌, eqb, ◌⊎◌, List, [], ◌∷◌, ◌++◌, length, get_or, Some, None, Option, sym, refl, ap, ◌∙◌, subst, inl, inr, ⊎_elim, arith, eq-eqb, eqb-true}
use Rattle.network.specs.declared.step.Step.{Step}
use Rattle.network.specs.Networks.{Arc}
use Rattle.algebra.specs.Lists.{In}
use Rattle.algebra.specs.Enumerated.{ends_with, extended, over, into, own}
use Rattle.algebra.proofs.Membership.{in_left, in_right, in_either, cond_in, cond_out}

abbrev pub Table : Type 0
Table = ℕ → List (List Step)

abbrev pub step : ℕ → ℕ → Step
step e k = record { segment = e; choice = k }

pub ends_in : (r : List Step) (e c n k : ℕ) → c ≤ k → k < c + n → In (r ++ step e k ∷ []) (ends_with r e c n)
unfolding ends_with
ends_in r e c zero k p q = absurd (omega arith)
ends_in r e c (suc n) k p q =
    ⊎_elim (λ h. inl (ap (λ i. r ++ step e i ∷ []) (sym h))) (λ h. inr (ends_in r e (suc c) n k (omega arith) (omega arith))) (le_cases c k p)
  where
    le_cases : (a b : ℕ) → a ≤ b → (a ≡ b) ⊎ (a < b)
    le_cases a b h = grind arith

pub ends_out : (q r : List Step) (e c n : ℕ) → In q (ends_with r e c n) → (k : ℕ) × (c ≤ k) × (k < c + n) × (q ≡ r ++ step e k ∷ [])
unfolding ends_with
ends_out q r e c zero h = absurd h
ends_out q r e c (suc n) (inl h) = (c, omega arith, omega arith, h)
ends_out q r e c (suc n) (inr m) = let o = ends_out q r e (suc c) n m in (o.0, omega (arith, o.1), omega (arith, o.2), o.3)

-- q is one of the routes rs and then a choice below n of segment e
pub record Ends (rs : List (List Step)) (e n : ℕ) (q : List Step) : Type 0 where
  pub before : List Step
  pub listed : In before rs
  pub choice : ℕ
  pub below : choice < n
  pub is : q ≡ before ++ step e choice ∷ []

pub extended_in : (rs : List (List Step)) (e n : ℕ) (q : List Step) → Ends rs e n q → In q (extended rs e n)
unfolding extended
extended_in [] e n q h = absurd h.listed
extended_in (r ∷ rs) e n q h =
    ⊎_elim
    (λ same. in_left q (ends_with r e 0 n) (extended rs e n) (subst (λ w. In w (ends_with r e 0 n)) (ap (λ w. w ++ step e h.choice ∷ []) (sym same) ∙ sym h.is) (ends_in r e 0 n h.choice (omega arith) (omega (arith, h.below)))))
    (λ m. in_right q (ends_with r e 0 n) (extended rs e n) (extended_in rs e n q (record { before = h.before; listed = m; choice = h.choice; below = h.below; is = h.is })))
    h.listed

pub extended_out : (rs : List (List Step)) (e n : ℕ) (q : List Step) → In q (extended rs e n) → Ends rs e n q
unfolding extended
extended_out [] e n q h = absurd h
extended_out (r ∷ rs) e n q h =
    ⊎_elim
    (λ m. let o = ends_out q r e 0 n m in record { before = r; listed = inl refl; choice = o.0; below = omega (arith, o.2); is = o.3 })
    (λ m. let o = extended_out rs e n q m in record { before = o.before; listed = inr o.listed; choice = o.choice; below = o.below; is = o.is })
    (in_either q (ends_with r e 0 n) (extended rs e n) h)

pub record Over (b : Table) (v e : ℕ) (x : Option Arc) (q : List Step) : Type 0 where
  pub segment : Arc
  pub stands : x ≡ Some segment
  pub to : segment.head ≡ v
  pub ends : Ends (b segment.tail) e (length segment.sizes) q

pub over_in : (b : Table) (v e : ℕ) (x : Option Arc) (q : List Step) → Over b v e x q → In q (over b v e x)
over_in b v e x q h =
    subst (λ o. In q (over b v e o)) (sym h.stands)
    (cond_in (eqb h.segment.head v) q _ (eq-eqb _ _ h.to) (extended_in (b h.segment.tail) e _ q h.ends))

pub over_out : (b : Table) (v e : ℕ) (x : Option Arc) (q : List Step) → In q (over b v e x) → Over b v e x q
over_out b v e None q h = absurd h
over_out b v e (Some s) q h =
    let o = cond_out (eqb s.head v) q (extended (b s.tail) e (length s.sizes)) h in
    record { segment = s; stands = refl; to = eqb-true _ _ o.0; ends = extended_out (b s.tail) e (length s.sizes) q o.1 }

pub into_in : (b : Table) (v k : ℕ) (xs : List (Option Arc)) (q : List Step) (i e : ℕ) → k + i ≡ e → Over b v e (get_or xs i None) q → In q (into b v k xs)
unfolding into
into_in b v k [] q i e l h = absurd (cc h.stands)
into_in b v k (x ∷ xs) q zero e l h = in_left q (over b v k x) (into b v (suc k) xs) (over_in b v k x q (subst (λ n. Over b v n x q) (omega arith) h))
into_in b v k (x ∷ xs) q (suc i) e l h = in_right q (over b v k x) (into b v (suc k) xs) (into_in b v (suc k) xs q i e (omega arith) h)

pub into_out : (b : Table) (v k : ℕ) (xs : List (Option Arc)) (q : List Step) → In q (into b v k xs) → (i : ℕ) × Over b v (k + i) (get_or xs i None) q
unfolding into
into_out b v k [] q h = absurd h
into_out b v k (x ∷ xs) q h =
    ⊎_elim {C = (i : ℕ) × Over b v (k + i) (get_or (x ∷ xs) i None) q}
    (λ m. (0, subst (λ n. Over b v n x q) (omega arith) (over_out b v k x q m)))
    (λ m. let o = into_out b v (suc k) xs q m in (suc o.0, subst (λ n. Over b v n (get_or xs o.0 None) q) (omega arith) o.1))
    (in_either q (over b v k x) (into b v (suc k) xs) h)

pub own_out : (start v : ℕ) (q : List Step) → In q (own start v) → (start ≡ v) × (q ≡ [])
unfolding own
own_out start v q h =
    let o = cond_out (eqb v start) q ([] ∷ []) h in
    (sym (eqb-true _ _ o.0), ⊎_elim (λ e. e) (λ n. absurd n) o.1)

pub own_in : (start v : ℕ) → start ≡ v → In [] (own start v)
unfolding own
own_in start v h = cond_in (eqb v start) [] ([] ∷ []) (eq-eqb _ _ (sym h)) (inl refl)
