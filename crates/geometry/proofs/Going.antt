-- A walk that has its next corner goes on or closes; going on, the number of points to its left falls.
use Rattle.std.proofs.Common.{◌≡◌, ℕ, zero, suc, ◌<◌, ◌≤◌, ◌⊎◌, List, [], ◌∷◌, ◌++◌, length, ℤ, sym, refl, ◌∙◌, subst, arith}
use Rattle.std.proofs.lemmas.List.{length_push}
use Rattle.geometry.specs.Exposed.{Exposed}
use Rattle.geometry.specs.Plane.{Pt, Lex, Near, nth, In}
use Rattle.geometry.specs.Polygons.{Polygon}
use Rattle.geometry.specs.Steps.{LeastOf, Found, Going, measure}
use Rattle.geometry.specs.Support.{support}
use Rattle.geometry.specs.Walks.{Next, Wraps}
use Rattle.geometry.proofs.DoesNotFit.{too_many, too_far}
use Rattle.geometry.proofs.Falling.{walks, lefts_most}
use Rattle.geometry.proofs.Hull.{walked_exposed}
use Rattle.geometry.proofs.Members.{nth_old, nth_new}
use Rattle.geometry.proofs.Searching.{found_next, found_alone}
use Rattle.geometry.proofs.Turning.{same?}
use Rattle.geometry.proofs.Walking.{extend, close, close_one}

pub begin : (pts : List Pt) (o : Pt) → LeastOf pts o (length pts) → Going pts [] o o
begin pts o l = record {
  among = l.among;
  home = refl;
  walked = record {
    some = omega arith;
    from = one;
    first = λ s h. subst (λ z. (z ≡ o) ⊎ Lex o z) h.here (l.least h.place h.within);
    step = λ i k. absurd (omega arith);
    return = λ i a k. absurd (omega arith);
  };
}
  where
    one : (i : ℕ) → i < 1 → In pts (nth (o ∷ []) i)
    one zero k = l.among
    one (suc i) k = absurd (omega arith)

module _ (pts os : List Pt) (o p : Pt) (g : Going pts os o p) where
  -- the corner at hand is exposed
  pub going_exposed : Exposed pts p
  going_exposed = subst (Exposed pts) (nth_new os p) (walked_exposed pts (os ++ p ∷ []) g.walked (length os) (omega (arith, length_push os p)))

  pub going_start : In pts o
  going_start = subst (In pts) g.home (g.walked.from 0 g.walked.some)

  pub start_exposed : Exposed pts o
  start_exposed = subst (Exposed pts) g.home (walked_exposed pts (os ++ p ∷ []) g.walked 0 g.walked.some)

  pub not_home : 0 < length os → ¬ (p ≡ o)
  not_home h e = g.walked.return (length os) h (omega (arith, length_push os p)) (nth_new os p ∙ e ∙ sym g.home)

  -- the next corner is known
  pub closes_next : (q : Pt) → Next pts p q → q ≡ o → Wraps pts (os ++ p ∷ [])
  closes_next q n e = close pts os p g.walked (subst (Next pts p) (e ∙ sym g.home) n)

  pub goes_next : (q : Pt) → Next pts p q → In pts q → ¬ (q ≡ o) → Going pts (os ++ p ∷ []) o q
  goes_next q n h ne = record {
    among = h;
    walked = extend pts os p q g.walked n h (λ d. ne (d ∙ g.home));
    home = nth_old (os ++ p ∷ []) q 0 g.walked.some ∙ g.home;
  }

  -- a walk that stands at its only point is done
  pub closes_alone : ((s : Pt) → In pts s → s ≡ p) → Wraps pts (os ++ p ∷ [])
  closes_alone a = go os g
    where
      go : (os : List Pt) → Going pts os o p → Wraps pts (os ++ p ∷ [])
      go [] g = close_one pts p g.walked a
      go (r ∷ os) g = absurd (g.walked.return (suc (length os)) (omega arith) (omega (arith, length_push os p))
          (nth_new (r ∷ os) p ∙ sym (a (nth ((r ∷ os) ++ p ∷ []) 0) (g.walked.from 0 g.walked.some))))

  -- the next corner was searched for
  pub closes : (q : Pt) → Found pts p q (length pts) → q ≡ o → Wraps pts (os ++ p ∷ [])
  closes q f e = go (same? q p)
    where
      go : Dec (q ≡ p) → Wraps pts (os ++ p ∷ [])
      go (yes d) = closes_alone (found_alone pts p q f d)
      go (no d) = closes_next q (found_next pts p q f d) e

  other : (q : Pt) → Found pts p q (length pts) → ¬ (q ≡ o) → ¬ (q ≡ p)
  other q f n d = n (d ∙ sym (found_alone pts p q f d o going_start))

  pub goes : (q : Pt) → Found pts p q (length pts) → ¬ (q ≡ o) → Going pts (os ++ p ∷ []) o q
  goes q f n = goes_next q (found_next pts p q f (other q f n)) f.among n

pub falls_next : (pts os : List Pt) (o p q : Pt) → Going pts os o p → Next pts p q → In pts q → ¬ (q ≡ o)
    → measure pts (os ++ p ∷ []) o q < measure pts os o p
falls_next pts [] o p q g n h ne = omega (arith, lefts_most o q pts)
falls_next pts (r ∷ os) o p q g n h ne =
    (walks pts o p q (going_start pts (r ∷ os) o p g) g.among h (start_exposed pts (r ∷ os) o p g) n (not_home pts (r ∷ os) o p g (omega arith)) ne).1

pub falls : (pts os : List Pt) (o p q : Pt) → Going pts os o p → Found pts p q (length pts) → ¬ (q ≡ o)
    → measure pts (os ++ p ∷ []) o q < measure pts os o p
falls pts os o p q g f n = falls_next pts os o p q g (found_next pts p q f (other pts os o p g q f n)) f.among n

-- a walk that stands at its corner number n, counted from 0, shows that no polygon of n corners fits
pub going_too_many : (n : ℕ) (pts os : List Pt) (o p : Pt) → Going pts os o p → n ≤ length os → (qs : List Pt) → Polygon qs → length qs ≤ n
    → ¬ (support qs ≡ support pts)
going_too_many n pts os o p g h qs k l = too_many n pts (os ++ p ∷ []) qs g.walked (omega (arith, length_push os p)) k l

-- a walk that stands out of range shows that no polygon in range fits
pub going_too_far : (M : ℤ) (pts os : List Pt) (o p : Pt) → Going pts os o p → ¬ (Near M p) → (qs : List Pt) → Polygon qs
    → ((i : ℕ) → i < length qs → Near M (nth qs i)) → ¬ (support qs ≡ support pts)
going_too_far M pts os o p g out qs k near = too_far M pts qs p g.among (going_exposed pts os o p g) out k near
