use Rattle.std.proofs.Common.{◌≡◌, ℕ, ◌+◌, ◌<◌, List, [], ◌∷◌, ◌++◌, length, get_or, take, is_ok, sym, ap, ◌∙◌}
use Rattle.std.proofs.lemmas.List.{flat_map_more, take_all, take_more}
use Rattle.std.proofs.Output.{has_written_append, has_written_of_eq}
use Rattle.std.specs.List.{flat_map}
use Rattle.printout.proofs.each.write_each.Goals as goal

one_more : {X : Type 0} (piece : X → List ℕ) (xs : List X) (i : ℕ) (x : X) → x ≡ get_or xs i x → i < length xs → flat_map piece (take i xs) ++ piece x ≡ flat_map piece (take (i + 1) xs)
one_more piece xs i x is here = flat_map_more piece [] (take i xs) x ∙ ap (flat_map piece) (ap (λ y. take i xs ++ y ∷ []) is ∙ sym (take_more xs i x here))

pub loop-item-preserved : goal.loop-item-preserved
loop-item-preserved g c = λ text means plain.
    let before = c.loop-item.invariant text means plain in
    let writes = rw (means c.item-item.result) at c.write.ensures.writes in
    has_written_of_eq g.W.Write.write_str_gives _ _ _ _ (one_more (λ x. c.args.before.now ++ (text x ++ c.args.after.now)) c.args.items.now c.loop-item.item-index c.item-item.result c.item-item.is c.loop-item-test.true)
    (has_written_append g.W.Write.write_str_gives _ _ _ _ _ before (writes before.plain (ap is_ok c.in_ok-write.was)))

pub returns : goal.returns
returns g c = λ text means plain _.
    has_written_of_eq g.W.Write.write_str_gives _ _ _ _ (ap (flat_map (λ x. c.args.before.now ++ (text x ++ c.args.after.now))) (take_all c.loop-item.item-index c.args.items.now c.loop-item-test.false))
    (c.loop-item.invariant text means plain)
