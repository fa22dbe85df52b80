-- What a value says under its tag. Assumes nothing.
use Rattle.std.proofs.Common.{◌≡◌, ℕ, ◌*◌, List, [], ◌∷◌, ◌++◌, length, get_or, ℤ, sym, refl, ap, ◌∙◌, arith, w32, SFits, to_z, of_z}
use Rattle.std.specs.List.{flat_map}
use Rattle.std.proofs.lemmas.Int.{to_z-of_z}
use Rattle.network.specs.declared.size.Size.{Size}
use Rattle.takeoff.specs.Format.{two, size_bytes}

two_only : (v : List ℕ) → length v ≡ 2 → v ≡ get_or v 0 0 ∷ get_or v 1 0 ∷ []
two_only [] e = absurd (omega arith)
two_only (x ∷ []) e = absurd (omega arith)
two_only (x ∷ y ∷ []) e = refl
two_only (x ∷ y ∷ z ∷ v) e = absurd (omega arith)

four_only : (v : List ℕ) → length v ≡ 4 → v ≡ get_or v 0 0 ∷ get_or v 1 0 ∷ get_or v 2 0 ∷ get_or v 3 0 ∷ []
four_only [] e = absurd (omega arith)
four_only (x ∷ v) e = ap (λ (u : List ℕ). x ∷ u) (three_only v (omega arith))
  where
    three_only : (u : List ℕ) → length u ≡ 3 → u ≡ get_or u 0 0 ∷ get_or u 1 0 ∷ get_or u 2 0 ∷ []
    three_only [] e = absurd (omega arith)
    three_only (y ∷ u) e = ap (λ (s : List ℕ). y ∷ s) (two_only u (omega arith))

-- two numbers that come back from their bits, in two bytes each
pub size_spells : (v : List ℕ) (a b : ℤ) → SFits w32 a → SFits w32 b → length v ≡ 4 → two a ≡ get_or v 0 0 ∷ get_or v 1 0 ∷ [] → two b ≡ get_or v 2 0 ∷ get_or v 3 0 ∷ [] →
    two (to_z w32 (of_z w32 a)) ++ two (to_z w32 (of_z w32 b)) ≡ v
size_spells v a b fa fb long ea eb =
    ap (λ (z : ℤ). two z ++ two (to_z w32 (of_z w32 b))) (to_z-of_z w32 a fa) ∙ ap (λ (z : ℤ). two a ++ two z) (to_z-of_z w32 b fb)
    ∙ ap (λ (x : List ℕ). x ++ two b) ea ∙ ap (λ (x : List ℕ). (get_or v 0 0 ∷ get_or v 1 0 ∷ []) ++ x) eb ∙ sym (four_only v long)

-- four bytes a choice
pub sizes_long : (zs : List Size) → length (flat_map size_bytes zs) ≡ 4 * length zs
sizes_long [] = refl
sizes_long (z ∷ zs) = omega (arith, sizes_long zs)
