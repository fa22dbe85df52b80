-- A part of the steps, cut off at their end. Assumes nothing.
use Rattle.std.proofs.Common.{◌≡◌, ℕ, ◌+◌, ◌-◌, min, List, ◌++◌, length, take, drop, sym, ap, ◌∙◌, ⊎_elim, arith}
use borrow.Rule.Slice.PartMut.{put_mid}
use Rattle.std.proofs.lemmas.Bool.Decides.{leb_tells}
use Rattle.std.proofs.lemmas.List.{take_all, drop_all, drop-drop, length-drop}
use Rattle.network.specs.declared.step.Step.{Step}
use Rattle.plan.specs.Calls.{part, with_part}

take_clip : {X : Type 0} (n k : ℕ) (xs : List X) → k ≡ min n (length xs) → take k xs ≡ take n xs
take_clip n k xs is = ⊎_elim
    (λ l. let e : k ≡ n = omega (arith, l.1) in ap (λ i. take i xs) e)
    (λ l. take_all k xs (omega (arith, l.1)) ∙ sym (take_all n xs (omega (arith, l.1))))
    (leb_tells n (length xs))

drop_clip : {X : Type 0} (n k : ℕ) (xs : List X) → k ≡ min n (length xs) → drop k xs ≡ drop n xs
drop_clip n k xs is = ⊎_elim
    (λ l. let e : k ≡ n = omega (arith, l.1) in ap (λ i. drop i xs) e)
    (λ l. drop_all k xs (omega (arith, l.1)) ∙ sym (drop_all n xs (omega (arith, l.1))))
    (leb_tells n (length xs))

module _ (from long : ℕ) (steps : List Step) (begin size : ℕ) (begins : begin ≡ min from (length steps)) (sized : size ≡ min long (length steps - begin)) where
  wide : begin + size - begin ≡ min long (length (drop begin steps))
  wide = simp length-drop (omega arith)

  behind : drop begin steps ≡ drop from steps
  behind = drop_clip from begin steps begins

  pub same_part : take (begin + size - begin) (drop begin steps) ≡ part from long steps
  same_part = take_clip long (begin + size - begin) (drop begin steps) wide ∙ ap (take long) behind

  pub same_around : (new : List Step) → put_mid begin (begin + size - begin) steps new ≡ with_part from long steps new
  same_around new =
      let after : drop (begin + size - begin) (drop begin steps) ≡ drop (from + long) steps =
      drop_clip long (begin + size - begin) (drop begin steps) wide ∙ ap (drop long) behind ∙ drop-drop long from steps in
      λ i. take_clip from begin steps begins i ++ (new ++ after i)
