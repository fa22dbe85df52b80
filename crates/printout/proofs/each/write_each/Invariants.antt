use Rattle.std.proofs.Common.{◌≡◌, ℕ, List, ◌++◌, take, Some}
use Rattle.std.specs.Fmt.{IsPlainFormatter, HasWritten}
use Rattle.std.specs.List.{flat_map}
use Rattle.printout.proofs.each.write_each.Given as goal

abbrev pub invariant-loop-item : goal.invariant-loop-item
invariant-loop-item g l =
    (text : _ → List ℕ) → ((x : _) → g.T.Display.output x ≡ Some (text x)) → IsPlainFormatter l.initial.f →
    HasWritten g.W.Write.write_str_gives l.initial.f (flat_map (λ x. l.before ++ (text x ++ l.after)) (take l.item-index l.items)) l.f
