use Rattle.std.proofs.Common.{◌≡◌, suc, ◌+◌, ◌<◌, length, [], ◌∷◌, ◌++◌, map, take, set, sym, ap, ◌∙◌, arith}
use Rattle.std.proofs.lemmas.List.{length-set, map_more}
use Rattle.std.proofs.Math.Seq.{take-suc-set}
use Rattle.grids.specs.Grids.{plus_extra}
use Rattle.grids.proofs.raising.raise.Goals as goal

pub loop-k-preserved : goal.loop-k-preserved
loop-k-preserved c =
    let k = c.loop-k.k in
    let more = plus_extra c.args.extra.now in
    let next : k + 1 ≡ suc k = omega arith in
    let here : k < length c.loop-k.sizes = omega (arith, c.loop-k.invariant.0, c.loop-k-test.true, c.requires.long) in (
      length-set c.loop-k.sizes k c.raised.result ∙ c.loop-k.invariant.0,
      ap (λ n. take n (set c.loop-k.sizes k c.raised.result)) next ∙ take-suc-set c.loop-k.sizes k c.raised.result here
          ∙ ap (λ zs. zs ++ c.raised.result ∷ []) c.loop-k.invariant.1
          ∙ ap (λ z. map more (take k c.args.listed.now) ++ z ∷ []) c.raised.ensures
          ∙ sym (map_more more c.args.listed.now k _ (omega (arith, here, c.loop-k.invariant.0))),
    )
