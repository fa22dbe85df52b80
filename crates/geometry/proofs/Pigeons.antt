-- A list of distinct points of another list is no longer than it.
use Rattle.std.proofs.Common.{◌≡◌, ℕ, zero, suc, ◌-◌, ◌<◌, ◌≤◌, cond, ltb, List, length, sym, ap, ◌∙◌, arith}
use Rattle.std.proofs.lemmas.Bool.Decides.{nat_tests}
use Rattle.geometry.specs.Plane.{Pt, nth, In}

squeeze : ℕ → ℕ → ℕ
squeeze t x = cond (ltb t x) (x - 1) x

squeeze_small : (t x m : ℕ) → t < suc m → x < suc m → ¬ (x ≡ t) → squeeze t x < m
unfolding squeeze
squeeze_small t x m ht hx n = grind (arith, nat_tests)

squeeze_apart : (t x y : ℕ) → ¬ (x ≡ t) → ¬ (y ≡ t) → ¬ (x ≡ y) → ¬ (squeeze t x ≡ squeeze t y)
unfolding squeeze
squeeze_apart t x y a b n e = grind (arith, nat_tests)

-- n distinct numbers below m: leave out the last and close the gap
pigeons : (n m : ℕ) (f : (i : ℕ) → i < n → ℕ) → ((i : ℕ) (h : i < n) → f i h < m)
    → ((i j : ℕ) (hi : i < n) (hj : j < n) → i < j → ¬ (f i hi ≡ f j hj)) → n ≤ m
pigeons zero m f b a = omega arith
pigeons (suc n) zero f b a = absurd (omega (arith, b n (omega arith)))
pigeons (suc n) (suc m) f b a =
    let l = pigeons n m (λ i h. squeeze (f n (last n)) (f i (more i n h)))
    (λ i h. squeeze_small (f n (last n)) (f i (more i n h)) m (b n (last n)) (b i (more i n h)) (a i n (more i n h) (last n) h))
    (λ i j hi hj ij. squeeze_apart (f n (last n)) (f i (more i n hi)) (f j (more j n hj)) (a i n (more i n hi) (last n) hi) (a j n (more j n hj) (last n) hj) (a i j (more i n hi) (more j n hj) ij)) in
    omega arith
  where
    last : (n : ℕ) → n < suc n
    last n = omega arith

    more : (i n : ℕ) → i < n → i < suc n
    more i n h = omega arith

pub no_longer : (rs qs : List Pt) → ((i j : ℕ) → i < j → j < length rs → ¬ (nth rs i ≡ nth rs j)) → ((i : ℕ) → i < length rs → In qs (nth rs i))
    → length rs ≤ length qs
no_longer rs qs apart from = pigeons (length rs) (length qs) (λ i h. (from i h).place) (λ i h. (from i h).within)
    (λ i j hi hj ij e. apart i j ij hj (sym (from i hi).here ∙ ap (nth qs) e ∙ (from j hj).here))
