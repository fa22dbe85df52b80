use Rattle.std.proofs.Common.{◌≡◌, List, ◌++◌, is_ok, codes, decimal, refl, ap, ◌∙◌, append-nil}
use Rattle.std.proofs.Output.{has_written_append, has_written_of_eq}
use Rattle.std.specs.List.{flat_map}
use Rattle.network.specs.declared.step.Step.{Step}
use Rattle.network.specs.Texts.{step_text as written}
use Rattle.printout.specs.Texts.{steps_text}
use Rattle.printout.proofs.route_line.RouteLineDisplay.fmt.Goals as goal

-- nothing stands behind a step
nothing_behind : (steps : List Step) → flat_map (λ x. codes " " ++ (written x ++ codes "")) steps ≡ steps_text steps
nothing_behind steps = λ i. flat_map (λ x. codes " " ++ append-nil (written x) i) steps

pub returns-clause-writes : goal.returns-clause-writes
returns-clause-writes g c = λ plain ok.
    let head = c.write.ensures.writes plain (ap is_ok c.in_ok-write.was) in
    let steps = c.write_each.ensures written (λ x. refl) head.plain ok in
    has_written_of_eq g.W.Write.write_str_gives _ _ _ _
    (ap (λ text. (codes "route " ++ decimal c.args.self.now.number) ++ text) (nothing_behind c.route.result.now ∙ ap steps_text c.route.ensures))
    (has_written_append g.W.Write.write_str_gives _ _ _ _ _ head steps)
