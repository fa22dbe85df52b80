-- Bytes begin with a field, or end inside one. Assumes nothing.
use Rattle.std.proofs.Common.{◌≡◌, ℕ, ◌+◌, ◌-◌, ◌*◌, ◌/◌, ◌%◌, ◌<◌, ◌≤◌, List, [], ◌∷◌, ◌++◌, length, get_or, take, drop, replicate, refl, ap, arith}
use Rattle.std.proofs.lemmas.List.{length-append, length-replicate, take_rest}
use Rattle.takeoff.specs.Format.{framed}
use Rattle.takeoff.specs.Refusals.{Torn}

-- the two bytes of a length say it
framed_whole : (t h l : ℕ) (v : List ℕ) → l < 256 → length v ≡ h * 256 + l → t ∷ h ∷ l ∷ v ≡ framed t v
framed_whole t h l v small e =
    let high : length v / 256 ≡ h = omega arith in
    let low : length v % 256 ≡ l = omega arith in
    cc

-- fewer bytes than a tag and a length: zeros complete them
pub torn_early : (b : List ℕ) → ((i : ℕ) → get_or b i 0 < 256) → length b < 3 → Torn b
torn_early [] byte h = record { tag = 0; held = []; more = 0 ∷ 0 ∷ 0 ∷ []; missing = omega arith; short = omega arith; whole = refl }
torn_early (t ∷ []) byte h = record { tag = t; held = []; more = 0 ∷ 0 ∷ []; missing = omega arith; short = omega arith; whole = refl }
torn_early (t ∷ u ∷ []) byte h =
    let gap : List ℕ = replicate (u * 256) 0 in
    let long : length gap ≡ u * 256 = length-replicate (u * 256) 0 in
    let small : u < 256 = byte 1 in
    let zero : 0 < 256 = omega arith in
    let exact : length gap ≡ u * 256 + 0 = omega arith in
    record {
      tag = t;
      held = gap;
      more = 0 ∷ gap;
      missing = omega arith;
      short = omega arith;
      whole = framed_whole t u 0 gap zero exact;
    }
torn_early (t ∷ u ∷ v ∷ b) byte h = absurd (omega arith)

-- fewer bytes of the value than the length says
pub torn_late : (b : List ℕ) → ((i : ℕ) → get_or b i 0 < 256) → 3 ≤ length b → length (take (length b - 3) (drop 3 b)) < get_or b 1 0 * 256 + get_or b 2 0 → Torn b
torn_late [] byte three h = absurd (omega arith)
torn_late (t ∷ []) byte three h = absurd (omega arith)
torn_late (t ∷ u ∷ []) byte three h = absurd (omega arith)
torn_late (t ∷ u ∷ l ∷ v) byte three h =
    let high : u < 256 = byte 1 in
    let low : l < 256 = byte 2 in
    let left = ap length (take_rest (t ∷ u ∷ l ∷ v) 3) in
    let gap = replicate (u * 256 + l - length v) 0 in
    let long : length gap ≡ u * 256 + l - length v = length-replicate (u * 256 + l - length v) 0 in
    let both = length-append v gap in
    let exact : length (v ++ gap) ≡ u * 256 + l = omega arith in
    record {
      tag = t;
      held = v ++ gap;
      more = gap;
      missing = omega arith;
      short = omega arith;
      whole = framed_whole t u l (v ++ gap) low exact;
    }
