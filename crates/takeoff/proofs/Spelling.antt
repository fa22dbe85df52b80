-- Reading choices four bytes at a time. Assumes nothing.
use Rattle.std.proofs.Common.{◌≡◌, ℕ, zero, suc, ◌*◌, ◌/◌, List, ◌++◌, map, length, take, drop, sym, ap, ◌∙◌, arith, length-drop}
use Rattle.std.specs.List.{flat_map, AllByRecursion}
use Rattle.std.specs.Simd.{first_chunks}
use Rattle.std.proofs.lemmas.List.{nil_from_length, take-append-drop, take_all}
use Rattle.std.proofs.lemmas.List.Folds.{flat_map-map}
use Rattle.network.specs.declared.size.Size.{Size}
use Rattle.takeoff.specs.Format.{size_bytes, Short}

-- the first sizes say the first chunks of four bytes, one each
pub record Spelt (chunks : List (List ℕ)) (sizes : List Size) (count : ℕ) : Type 0 where
  pub said : map size_bytes (take count sizes) ≡ take count chunks
  pub short : AllByRecursion Short (take count sizes)
  pub room : length sizes ≡ 8

-- the chunks side by side are the bytes, where four divides their number
chunks_joined : (k : ℕ) (bytes : List ℕ) → length bytes ≡ 4 * k → flat_map (λ (b : List ℕ). b) (first_chunks 4 k bytes) ≡ bytes
chunks_joined zero bytes long = sym (nil_from_length bytes long)
chunks_joined (suc k) bytes long =
    ap (λ (b : List ℕ). take 4 bytes ++ b) (chunks_joined k (drop 4 bytes) (omega (arith, length-drop 4 bytes)))
    ∙ take-append-drop 4 bytes

-- so the sizes say the bytes
pub spelt_all : (bytes : List ℕ) (chunks : List (List ℕ)) (sizes : List Size) (choices : ℕ) → chunks ≡ first_chunks 4 (length bytes / 4) bytes → Spelt chunks sizes (length chunks) → length bytes ≡ 4 * choices →
    flat_map size_bytes (take (length chunks) sizes) ≡ bytes
spelt_all bytes chunks sizes choices are i long =
    sym (flat_map-map (λ (b : List ℕ). b) size_bytes (take (length chunks) sizes))
    ∙ ap (flat_map (λ (b : List ℕ). b)) (i.said ∙ take_all (length chunks) chunks (omega arith) ∙ are)
    ∙ chunks_joined (length bytes / 4) bytes (omega arith)
