-- What a node gathers from one more segment. Assumes nothing.
use Rattle.std.proofs.Common.{◌≡◌, ℕ, zero, suc, ◌+◌, ◌<◌, ◌≤◌, Bool, true, false, cond, eqb, ◌≢◌, List, [], ◌∷◌, ◌++◌, map, length, get_or, take, drop, Some, None, Option, sym, refl, ap, ◌∙◌, append_assoc, append-nil, add-zero, zero-add, arith, drop-cons, eq-eqb, ne_eqb, eqb-true}
use Rattle.std.proofs.lemmas.List.{take_more, take_all, drop_all, length-map, length-take, map-append, get_or-map}
use Rattle.network.specs.declared.step.Step.{Step}
use Rattle.network.specs.Networks.{Network, Arc, Ruled, at}
use Rattle.algebra.specs.Semirings.{Algebra, Semiring}
use Rattle.algebra.specs.Values.{joined, arc_letter, word}
use Rattle.algebra.specs.Enumerated.{ends_with, extended, over, into, own, within, routes, routes_below, value, gathered, letters}
use Rattle.algebra.proofs.Joins.{join_identityʳ, joined_append}

-- lists of routes

abbrev Table : Type 0
Table = ℕ → List (List Step)

pub into_push : (b : Table) (v k : ℕ) (xs : List (Option Arc)) (x : Option Arc) → into b v k (xs ++ x ∷ []) ≡ into b v k xs ++ over b v (k + length xs) x
unfolding into
into_push b v k [] x = append-nil (over b v k x) ∙ ap (λ n. over b v n x) (sym (add-zero k))
into_push b v k (y ∷ xs) x =
    ap (λ r. over b v k y ++ r) (into_push b v (suc k) xs x ∙ ap (λ n. into b v (suc k) xs ++ over b v n x) (omega arith))
    ∙ sym (append_assoc (over b v k y) (into b v (suc k) xs) (over b v (k + suc (length xs)) x))

cond_same : {X : Type 0} (t : Bool) {x y : X} (z : X) → (t ≡ true → x ≡ y) → cond t x z ≡ cond t y z
cond_same true z h = h refl
cond_same false z h = refl

over_same : (b d : Table) (v e : ℕ) (x : Option Arc) → ((s : Arc) → x ≡ Some s → s.head ≡ v → b s.tail ≡ d s.tail) → over b v e x ≡ over d v e x
over_same b d v e None h = refl
over_same b d v e (Some s) h = cond_same (eqb s.head v) [] (λ t. ap (λ rs. extended rs e (length s.sizes)) (h s refl (eqb-true _ _ t)))

pub into_same : (b d : Table) (v k : ℕ) (xs : List (Option Arc)) → ((i : ℕ) (s : Arc) → get_or xs i None ≡ Some s → s.head ≡ v → b s.tail ≡ d s.tail) → into b v k xs ≡ into d v k xs
unfolding into
into_same b d v k [] h = refl
into_same b d v k (x ∷ xs) h = λ j. over_same b d v k x (λ s e. h 0 s e) j ++ into_same b d v (suc k) xs (λ i s e. h (suc i) s e) j

pub within_same : {N : Network} → Ruled N → (start f g u : ℕ) → u < f → u < g → within N start f u ≡ within N start g u
unfolding within
within_same ruled start zero g u p q = absurd (omega arith)
within_same ruled start (suc f) zero u p q = absurd (omega arith)
within_same {N = N} ruled start (suc f) (suc g) u p q =
    ap (λ r. own start u ++ r) (into_same (within N start f) (within N start g) u 0 N.arcs
    (λ i s e h. let r = ruled.rises i s e in within_same ruled start f g s.tail (omega (arith, r)) (omega (arith, r))))

module _ {A : Algebra} (laws : Semiring A) (N : Network) where
  word_of : List Step → A.Carrier
  word_of r = word A N r

  pub word_push : (r : List Step) (x : Step) → word A N (r ++ x ∷ []) ≡ A.chain (word A N r) (arc_letter A (at N x.segment) x.choice)
  word_push [] x = laws.chain_identityʳ _ ∙ sym (laws.chain_identityˡ _)
  word_push (y ∷ r) x = ap (A.chain _) (word_push r x) ∙ sym (laws.chain_assoc _ _ _)

  abbrev sum_words : List (List Step) → A.Carrier
  sum_words rs = joined A (map (word A N) rs)

  pub sum_append : (rs ss : List (List Step)) → sum_words (rs ++ ss) ≡ A.join (sum_words rs) (sum_words ss)
  sum_append rs ss = ap (joined A) (map-append (word A N) rs ss) ∙ joined_append laws _ _

  sum_ends : (s : Arc) (e : ℕ) → at N e ≡ Some s → (r : List Step) (c n : ℕ) → c + n ≡ length s.sizes → sum_words (ends_with r e c n) ≡ A.chain (word A N r) (joined A (drop c (map A.letter s.sizes)))
  unfolding ends_with
  sum_ends s e h r c zero l =
      let m : length (map A.letter s.sizes) ≤ c = simp length-map (omega arith) in
      sym (ap (λ ys. A.chain (word A N r) (joined A ys)) (drop_all c (map A.letter s.sizes) m) ∙ laws.zeroʳ _)
  sum_ends s e h r c (suc n) l =
      let m : c < length (map A.letter s.sizes) = simp length-map (omega arith) in
      let this : word A N (r ++ record { segment = e; choice = c } ∷ []) ≡ A.chain (word A N r) (get_or (map A.letter s.sizes) c A.zero) =
      word_push r (record { segment = e; choice = c }) ∙ ap (λ o. A.chain (word A N r) (arc_letter A o c)) h ∙ ap (A.chain (word A N r)) (sym (get_or-map A.letter s.sizes c _ A.zero (omega arith))) in
      (λ j. A.join (this j) (sum_ends s e h r (suc c) n (omega arith) j))
      ∙ sym (laws.distribˡ _ _ _)
      ∙ sym (ap (λ ys. A.chain (word A N r) (joined A ys)) (drop-cons (map A.letter s.sizes) c A.zero m))

  pub sum_extended : (s : Arc) (e : ℕ) → at N e ≡ Some s → (rs : List (List Step)) → sum_words (extended rs e (length s.sizes)) ≡ A.chain (sum_words rs) (letters A s)
  unfolding extended
  sum_extended s e h [] = sym (laws.zeroˡ _)
  sum_extended s e h (r ∷ rs) =
      sum_append (ends_with r e 0 (length s.sizes)) (extended rs e (length s.sizes))
      ∙ (λ j. A.join (sum_ends s e h r 0 (length s.sizes) (zero-add _) j) (sum_extended s e h rs j))
      ∙ sym (laws.distribʳ _ _ _)

  module _ (start v : ℕ) where
    -- one more segment
    pub gathered_more : (e : ℕ) → e < length N.arcs → gathered A N start v (e + 1) ≡ A.join (gathered A N start v e) (sum_words (over (within N start v) v e (at N e)))
    unfolding gathered routes_below
    gathered_more e l =
        let k : 0 + length (take e N.arcs) ≡ e = simp length-take (omega arith) in
        ap (λ xs. sum_words (own start v ++ into (within N start v) v 0 xs)) (take_more N.arcs e None l)
        ∙ ap (λ rs. sum_words (own start v ++ rs)) (into_push (within N start v) v 0 (take e N.arcs) (at N e) ∙ ap (λ n. into (within N start v) v 0 (take e N.arcs) ++ over (within N start v) v n (at N e)) k)
        ∙ ap sum_words (sym (append_assoc (own start v) (into (within N start v) v 0 (take e N.arcs)) (over (within N start v) v e (at N e))))
        ∙ sum_append (own start v ++ into (within N start v) v 0 (take e N.arcs)) (over (within N start v) v e (at N e))

    pub gathered_none : (e : ℕ) → e < length N.arcs → at N e ≡ None → gathered A N start v (e + 1) ≡ gathered A N start v e
    gathered_none e l h = gathered_more e l ∙ ap (λ o. A.join (gathered A N start v e) (sum_words (over (within N start v) v e o))) h ∙ join_identityʳ laws _

    pub gathered_other : (e : ℕ) (s : Arc) → e < length N.arcs → at N e ≡ Some s → s.head ≢ v → gathered A N start v (e + 1) ≡ gathered A N start v e
    gathered_other e s l h n =
        gathered_more e l
        ∙ ap (λ o. A.join (gathered A N start v e) (sum_words (over (within N start v) v e o))) h
        ∙ ap (λ t. A.join (gathered A N start v e) (sum_words (cond t (extended (within N start v s.tail) e (length s.sizes)) []))) (ne_eqb s.head v n)
        ∙ join_identityʳ laws _

    pub gathered_taken : Ruled N → (e : ℕ) (s : Arc) → e < length N.arcs → at N e ≡ Some s → s.head ≡ v → gathered A N start v (e + 1) ≡ A.join (gathered A N start v e) (A.chain (value A N start s.tail) (letters A s))
    unfolding value routes
    gathered_taken ruled e s l h n =
        let p = ruled.rises e s h in
        gathered_more e l
        ∙ ap (λ o. A.join (gathered A N start v e) (sum_words (over (within N start v) v e o))) h
        ∙ ap (λ t. A.join (gathered A N start v e) (sum_words (cond t (extended (within N start v s.tail) e (length s.sizes)) []))) (eq-eqb s.head v n)
        ∙ ap (A.join (gathered A N start v e)) (sum_extended s e h (within N start v s.tail))
        ∙ ap (λ rs. A.join (gathered A N start v e) (A.chain (sum_words rs) (letters A s))) (within_same ruled start v (suc s.tail) s.tail (omega (arith, p, n)) (omega arith))

    pub gathered_one : v ≡ start → gathered A N start v 0 ≡ A.one
    unfolding gathered routes_below into own
    gathered_one h = ap (λ t. sum_words (cond t ([] ∷ []) [] ++ [])) (eq-eqb v start h) ∙ join_identityʳ laws _

    pub gathered_zero : v ≢ start → gathered A N start v 0 ≡ A.zero
    unfolding gathered routes_below into own
    gathered_zero h = ap (λ t. sum_words (cond t ([] ∷ []) [] ++ [])) (ne_eqb v start h)

    pub gathered_all : gathered A N start v (length N.arcs) ≡ value A N start v
    unfolding gathered routes_below value routes within
    gathered_all = ap (λ xs. sum_words (own start v ++ into (within N start v) v 0 xs)) (take_all (length N.arcs) N.arcs (omega arith))
