use Rattle.std.proofs.Common.{◌≡◌, ◌==◌, ℕ, Bool, true, false, cond, ◌||◌, List, refl, ◌∙◌}
use Rattle.std.specs.List.{list_any}
use Rattle.std.proofs.lemmas.List.Recursion.{same_from_clauses}
use Rattle.closings.specs.Closings.{among, closed_nodes}
use Rattle.closings.proofs.closing.Closing.closes.Goals as goal

either : (a b : Bool) → cond a true b ≡ (a || b)
either true b = refl
either false b = refl

pub returns : goal.returns
returns g c =
    let v = c.args.v in
    c.contains.ensures.value
    ∙ same_from_clauses (list_any (λ y. y == v)) (λ (xs : List ℕ). among xs v) (λ x r. (x == v) || r) refl (λ _ _. refl) (λ x xs. either (x == v) (among xs v)) (closed_nodes c.args.self.now)
