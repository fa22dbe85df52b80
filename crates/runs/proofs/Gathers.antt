-- What a node gathers, segment by segment. Assumes nothing.
use Rattle.std.proofs.Common.{◌≡◌, ℕ, suc, ◌+◌, ◌<◌, true, false, eqb, ◌≢◌, ◌⊎◌, List, map, length, get_or, Some, None, Ok, Err, MatchResult, Option, Result, sym, refl, ap, ◌∙◌, subst, inl, inr, arith, below_more}
use Rattle.std.proofs.lemmas.Bool.Decides.{eqb_tells}
use Rattle.std.proofs.lemmas.List.{get_or-map}
use Rattle.std.specs.Result.{IsErrAnd}
use Rattle.network.specs.declared.fault.Fault.{Fault}
use Rattle.network.specs.declared.fault.Stage.{Stage}
use Rattle.network.specs.declared.fault.Stage.TheVariants as stage
use Rattle.network.specs.Networks.{Network, Arc, Ruled, at}
use Rattle.network.specs.Routes.{Route}
use Rattle.algebra.specs.Semirings.{Algebra, Semiring}
use Rattle.algebra.specs.Values.{IsJoin, LettersFit}
use Rattle.algebra.specs.Enumerated.{value, gathered, letters, routes}
use Rattle.algebra.proofs.Exact.{routes_exact}
use Rattle.algebra.proofs.Sums.{gathered_one, gathered_zero, gathered_none, gathered_other, gathered_taken, gathered_all}
use Rattle.algebra.proofs.Results.{value_is, chain_fits, chain_misfits, join_fits, join_misfits}
use Rattle.runs.specs.Runs.{SegmentFits, AllFit, Stops, Stuck}
use Rattle.runs.specs.Steps.{Taken}

-- the value that a cell means
pub read_means : {V C : Type 0} (f : V → C) (xs : List V) (i : ℕ) (r : V) (d : C) → i < length xs → r ≡ get_or xs i r → f r ≡ get_or (map f xs) i d
read_means f xs i r d h e = ap f e ∙ sym (get_or-map f xs i r d h)

-- an answer t of which P holds, and r, where Made says which fault a stage in t is made into
module _ {V : Type 0} (P : Result V Stage → Type 0) (Made : Stage → Fault → Type 0) where
  pub refused : (t : Result V Stage) (r : Result V Fault) (f : Fault) → r ≡ Err f → P t → MatchResult t (λ x. r ≡ Ok x) (λ st. IsErrAnd r (Made st)) → (st : Stage) × Made st f × P (Err st)
  refused (Ok x) r f is p same = let z : Err f ≡ Ok x = sym is ∙ same in absurd cc
  refused (Err st) r f is p made = (st, subst (λ s. IsErrAnd s (Made st)) is made, p)

  pub went_on : (t : Result V Stage) (r : Result V Fault) (x : V) → r ≡ Ok x → P t → MatchResult t (λ y. r ≡ Ok y) (λ st. IsErrAnd r (Made st)) → P (Ok x)
  went_on (Ok y) r x is p same = let q : y ≡ x = cc in subst (λ z. P (Ok z)) q p
  went_on (Err st) r x is p made = absurd (subst (λ s. IsErrAnd s (Made st)) is made)

pub rising : {N : Network} → Ruled N → (e : ℕ) (a : Arc) → Some a ≡ at N e → a.tail < a.head
rising ruled e a h = ruled.rises e a (sym h)

-- the node v has gathered x from the segments below e, and every result on the way fits
abbrev pub Upto : (A : Algebra) → Network → ℕ → ℕ → ℕ → A.Carrier → Type 0
Upto A N s v e x = (x ≡ gathered A N s v e) × AllFit A N s v e

pub moved : {C F : Type 0} {x y z : C} → x ≡ y → (y ≡ z) × F → (x ≡ z) × F
moved e u = (e ∙ u.0, u.1)

-- a join over all routes is the enumerated one
pub joined_value : (A : Algebra) {N : Network} → Ruled N → (s v : ℕ) {x : A.Carrier} → IsJoin A N (Route N s v) x → x ≡ value A N s v
unfolding value
joined_value A {N = N} ruled s v h = h (routes N s v) (routes_exact ruled s v)

module _ {A : Algebra} (laws : Semiring A) {N : Network} (ruled : Ruled N) (s v : ℕ) where
  abbrev Fit : ℕ → Type 0
  Fit f = (a : Arc) → at N f ≡ Some a → a.head ≡ v → SegmentFits A N s v f a

  -- one at the start, zero elsewhere
  pub begin : {x : A.Carrier} → (v ≡ s → x ≡ A.one) → ((v ≡ s → ⊥) → x ≡ A.zero) → Upto A N s v 0 x
  begin {x = x} at_start elsewhere = (by_start (eqb_tells v s), λ f l. absurd (omega arith))
    where
      by_start : ((eqb v s ≡ true) × (v ≡ s)) ⊎ ((eqb v s ≡ false) × (v ≡ s → ⊥)) → x ≡ gathered A N s v 0
      by_start (inl h) = at_start h.1 ∙ sym (gathered_one laws N s v h.1)
      by_start (inr h) = elsewhere h.1 ∙ sym (gathered_zero laws N s v h.1)

  pub pass_none : {x : A.Carrier} (e : ℕ) → e < length N.arcs → None ≡ at N e → Upto A N s v e x → Upto A N s v (e + 1) x
  pass_none e l h u =
      (u.0 ∙ sym (gathered_none laws N s v e l (sym h)), below_more Fit e u.1 (λ a k n. let z : ◌≡◌ {A = ℕ} 0 1 = cc in absurd (omega arith)))

  pub pass_other : {x : A.Carrier} (e : ℕ) (a : Arc) → e < length N.arcs → Some a ≡ at N e → a.head ≢ v → Upto A N s v e x → Upto A N s v (e + 1) x
  pass_other e a l h n u =
      (u.0 ∙ sym (gathered_other laws N s v e a l (sym h) n), below_more Fit e u.1 (λ b k m. let q : b ≡ a = cc in absurd (n (ap (λ (y : Arc). y.head) (sym q) ∙ m))))

  -- no segment numbered e leads into v
  pub passed : {x : A.Carrier} (e : ℕ) → e < length N.arcs → ((a : Arc) → at N e ≡ Some a → a.head ≡ v → ⊥) → Upto A N s v e x → Upto A N s v (e + 1) x
  passed {x = x} e l missing u = by_case (at N e) refl
    where
      by_case : (o : Option Arc) → at N e ≡ o → Upto A N s v (e + 1) x
      by_case None h = pass_none e l (sym h) u
      by_case (Some a) h = pass_other e a l (sym h) (missing a h) u

  -- a segment a into v, numbered e, whose tail has its value y, where v has gathered x
  module _ {x y : A.Carrier} (e : ℕ) (a : Arc) (stands : Some a ≡ at N e) (into : a.head ≡ v) (tail : y ≡ value A N s a.tail) (u : Upto A N s v e x) (l : e < length N.arcs) where
    chain_is : A.chain y (letters A a) ≡ A.chain (value A N s a.tail) (letters A a)
    chain_is = ap (λ w. A.chain w (letters A a)) tail

    join_is : A.join x (A.chain y (letters A a)) ≡ gathered A N s v (suc e)
    join_is =
        (λ j. A.join (u.0 j) (chain_is j)) ∙ sym (gathered_taken laws N s v ruled e a l (sym stands) into)
        ∙ ap (gathered A N s v) (omega arith)

    pub taken : {new : A.Carrier} → (new ≡ A.join x (A.chain y (letters A a))) × LettersFit A a × A.fits (A.chain y (letters A a)) × A.fits (A.join x (A.chain y (letters A a))) → Upto A N s v (e + 1) new
    taken r =
        let here : SegmentFits A N s v e a = record {
          choices = r.1;
          chain = chain_fits laws N ruled s e a (sym stands) (subst A.fits chain_is r.2);
          join = join_fits laws N ruled s v e (subst A.fits join_is r.3);
        } in (
          r.0 ∙ join_is ∙ ap (gathered A N s v) (omega arith),
          below_more Fit e u.1 (λ b k m. let q : a ≡ b = cc in subst (λ (w : Arc). SegmentFits A N s v e w) q here),
        )

    pub stuck_at : {V : Type 0} (means : V → A.Carrier) (st : Stage) → Taken A means a y x (Err st) → Stuck A N s v e a st
    stuck_at means stage.Choices r = r
    stuck_at means stage.Chain r = (r.0, chain_misfits laws N ruled s e a (sym stands) (λ fit. r.1 (subst A.fits (sym chain_is) fit)))
    stuck_at means stage.Join r =
        (r.0, chain_fits laws N ruled s e a (sym stands) (subst A.fits chain_is r.1), join_misfits laws N ruled s v e (λ fit. r.2 (subst A.fits (sym join_is) fit)))

    pub stops : {V : Type 0} (means : V → A.Carrier) (st : Stage) → Taken A means a y x (Err st) → Stops A N s v e st
    stops means st r = record { over = a; stands = sym stands; into = into; before = u.1; stuck = stuck_at means st r }

  pub finish : {x : A.Carrier} (e : ℕ) → e ≡ length N.arcs → Upto A N s v e x → IsJoin A N (Route N s v) x × AllFit A N s v (length N.arcs)
  finish {x = x} e same u =
      let w : Upto A N s v (length N.arcs) x = subst (λ n. Upto A N s v n x) same u in
      (λ L exact. w.0 ∙ gathered_all laws N s v ∙ value_is laws N ruled s v L exact, w.1)
