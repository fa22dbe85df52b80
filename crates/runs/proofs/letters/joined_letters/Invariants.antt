use Rattle.std.proofs.Common.{◌≡◌, ℕ, drop}
use Rattle.network.specs.Choices.{choices}
use Rattle.runs.proofs.FirstLetters.{Sofar}
use Rattle.runs.proofs.letters.joined_letters.Given as goal

abbrev pub invariant-loop-choice : goal.invariant-loop-choice
invariant-loop-choice g l =
    (i : ℕ) × (drop i (choices l.segment.listed) ≡ l.choice-iterator.sizes.now)
    × Sofar (g.K.Kind.ring l.kind) (choices l.segment.listed) i (g.K.Kind.means l.kind l.sum)
