use Rattle.std.proofs.Common.{◌≡◌, length, refl, arith, subst}
use Rattle.takeoff.proofs.Spelling.{Spelt, spelt_all}
use Rattle.takeoff.proofs.values.segment_from.Goals as goal

pub returns : goal.returns
returns c =
    let all : c.loop-j.j ≡ length c.as_chunks.result.0.now = omega arith in
    let whole = subst (Spelt c.as_chunks.result.0.now c.loop-j.sizes) all c.loop-j.invariant in
    record {
      from = refl;
      to = refl;
      few = omega (arith, c.requires.1, c.requires.2, c.as_chunks.ensures.front_len);
      spells = spelt_all c.args.bytes.now c.as_chunks.result.0.now c.loop-j.sizes c.requires.0 c.as_chunks.ensures.front whole c.requires.2;
      short = whole.short;
    }
