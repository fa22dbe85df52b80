-- The support at a weight is a bound of the costs, and reached.
use Rattle.std.proofs.Common.{◌≡◌, ℕ, zero, suc, ◌<◌, List, [], ◌∷◌, length, ℤ, ◌≤ℤ◌, ◌<ℤ◌, Some, refl, ap, ◌∙◌, subst, arith}
use lib.Signed.{≤ℤ_refl}
use Rattle.std.specs.Int.{int_min}
use Rattle.std.proofs.lemmas.Int.{ints, clamps, by_lt_z}
use Rattle.geometry.specs.Plane.{Pt, dot, nth}
use Rattle.geometry.specs.Support.{low, support}
use Rattle.geometry.proofs.Integers.{lin, ≤ℤ_trans, ≤ℤ_antisym}

-- m is the least cost of ps at w: a bound, and reached
pub record Least (ps : List Pt) (w : Pt) (m : ℤ) : Type 0 where
  pub below : (i : ℕ) → i < length ps → m ≤ℤ dot w (nth ps i)
  pub place : ℕ
  pub within : place < length ps
  pub reached : dot w (nth ps place) ≡ m

min_cases : (P : ℤ → Type 0) (a b : ℤ) → (a ≤ℤ b → P a) → (b ≤ℤ a → P b) → P (int_min a b)
min_cases P a b f g = by_lt_z b a (λ l. subst P (e l) (g (omega (arith, lin)))) (λ l. subst P (d l) (f l))
  where
    e : b <ℤ a → b ≡ int_min a b
    e l = omega (arith, ints, clamps)

    d : a ≤ℤ b → a ≡ int_min a b
    d l = omega (arith, ints, clamps)

pub least : (p : Pt) (ps : List Pt) (w : Pt) → (m : ℤ) × (support (p ∷ ps) w ≡ Some m) × Least (p ∷ ps) w m
least p [] w = (dot w p, refl, record { below = b; place = 0; within = omega arith; reached = refl })
  where
    b : (i : ℕ) → i < 1 → dot w p ≤ℤ dot w (nth (p ∷ []) i)
    b zero h = ≤ℤ_refl (dot w p)
    b (suc i) h = absurd (omega arith)
least p (q ∷ ps) w =
    let (m, e, l) = least q ps w in
    (int_min (dot w p) m, ap (low (Some (dot w p))) e, min_cases (Least (p ∷ q ∷ ps) w) (dot w p) m (first m l) (later m l))
  where
    first : (m : ℤ) → Least (q ∷ ps) w m → dot w p ≤ℤ m → Least (p ∷ q ∷ ps) w (dot w p)
    first m l h = record { below = b; place = 0; within = omega arith; reached = refl }
      where
        b : (i : ℕ) → i < length (p ∷ q ∷ ps) → dot w p ≤ℤ dot w (nth (p ∷ q ∷ ps) i)
        b zero k = ≤ℤ_refl (dot w p)
        b (suc i) k = ≤ℤ_trans h (l.below i (omega arith))

    later : (m : ℤ) → Least (q ∷ ps) w m → m ≤ℤ dot w p → Least (p ∷ q ∷ ps) w m
    later m l h = record { below = b; place = suc l.place; within = omega arith; reached = l.reached }
      where
        b : (i : ℕ) → i < length (p ∷ q ∷ ps) → m ≤ℤ dot w (nth (p ∷ q ∷ ps) i)
        b zero k = h
        b (suc i) k = l.below i (omega arith)

pub least_same : (ps : List Pt) (w : Pt) (m n : ℤ) → Least ps w m → Least ps w n → m ≡ n
least_same ps w m n a b =
    ≤ℤ_antisym (subst (λ z. m ≤ℤ z) b.reached (a.below b.place b.within)) (subst (λ z. n ≤ℤ z) a.reached (b.below a.place a.within))

pub support_least : (ps : List Pt) (w : Pt) (m : ℤ) → Least ps w m → support ps w ≡ Some m
support_least [] w m l = absurd (omega (arith, l.within))
support_least (p ∷ ps) w m l = let (n, e, k) = least p ps w in e ∙ ap Some (least_same (p ∷ ps) w n m k l)

pub least_support : (ps : List Pt) (w : Pt) (m : ℤ) → support ps w ≡ Some m → Least ps w m
least_support [] w m e = absurd (cc)
least_support (p ∷ ps) w m e = let (n, f, k) = least p ps w in subst (Least (p ∷ ps) w) (let z : n ≡ m = cc in z) k
