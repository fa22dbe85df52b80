use Rattle.std.proofs.Common.{◌+◌, sym, ap, ◌∙◌, subst}
use Rattle.network.specs.declared.segment.Choices.{Choices}
use Rattle.network.specs.Networks.{segment_arc}
use Rattle.network.proofs.SizeLists.{next_choice, nothing_left}
use Rattle.runs.specs.Steps.{Lettered}
use Rattle.runs.proofs.FirstLetters.{begin, turn, stuck, done}
use Rattle.runs.proofs.letters.joined_letters.Goals as goal

pub loop-choice-init : goal.loop-choice-init
loop-choice-init g c = (
  0,
  sym c.choices-choice-items.ensures ∙ ap (λ (left : Choices). left.sizes.now) (sym c.into_iter-choice-iterator.ensures.into_iter_gives),
  begin (g.met.K.Kind.lawful c.args.kind.now) (segment_arc c.args.segment.now) c.zero-sum.ensures (g.met.K.Kind.fitting c.args.kind.now).zero_fits,
)

pub loop-choice-preserved : goal.loop-choice-preserved
loop-choice-preserved g c =
    let kind = c.args.kind.now in
    let i = c.loop-choice.invariant.0 in
    let left = c.loop-choice.invariant.1 in
    let sofar = c.loop-choice.invariant.2 in
    let here = next_choice _ i (left ∙ c.in-Some.ensures.steps) in (
      i + 1,
      here.2,
      turn (g.met.K.Kind.lawful kind) (segment_arc c.args.segment.now) i c.in_ok-sum.ensures ((g.met.K.Kind.fitting kind).held_fits _) sofar
          (c.letter.ensures ∙ ap (g.K.Kind.ring kind).letter (sym here.1)) here.0,
    )

pub returns : goal.returns
returns g c =
    let i = c.loop-choice.invariant.0 in
    let left = c.loop-choice.invariant.1 in
    let sofar = c.loop-choice.invariant.2 in
    done (g.met.K.Kind.lawful c.args.kind.now) (segment_arc c.args.segment.now) i (nothing_left _ i (left ∙ c.in-None.ensures.steps.0)) sofar

pub returns-in_err-sum : goal.returns-in_err-sum
returns-in_err-sum g c =
    let kind = c.args.kind.now in
    let i = c.loop-choice.invariant.0 in
    let left = c.loop-choice.invariant.1 in
    let sofar = c.loop-choice.invariant.2 in
    let here = next_choice _ i (left ∙ c.in-Some.ensures.steps) in
    subst (Lettered (g.K.Kind.ring kind) (g.K.Kind.means kind) (segment_arc c.args.segment.now)) (sym c.from_residual.ensures)
    (stuck (g.met.K.Kind.lawful kind) (segment_arc c.args.segment.now) i c.in_err-sum.ensures sofar (c.letter.ensures ∙ ap (g.K.Kind.ring kind).letter (sym here.1)) here.0)
