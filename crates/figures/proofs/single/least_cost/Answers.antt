use Rattle.std.proofs.Common.{◌≡◌, ℕ, ◌<◌, ◌≤◌, List, map, length, get_or, Bor, Some, None, Option, MatchOption, sym, ap, ◌∙◌, arith, subst}
use Rattle.std.proofs.lemmas.List.{get_or-map}
use Rattle.std.specs.Option.{option_copied, option_flatten}
use Rattle.kinds.specs.declared.amount.Amount.{Amount}
use Rattle.kinds.specs.Leasts.{amount}
use Rattle.figures.specs.Leasts.{LeastCost}
use Rattle.figures.proofs.single.least_cost.Goals as goal

-- what a cell that is there says, read as an amount or none
read_amount : (cells : List (Option Amount)) (v : ℕ) (cell : Option (Bor (Option Amount))) → v < length cells
    → MatchOption cell (length cells ≤ v) (λ x. (v < length cells) × ((d : Option Amount) → x.now ≡ get_or cells v d))
    → get_or (map amount cells) v None ≡ amount (option_flatten (option_copied cell))
read_amount cells v None here h = absurd (omega (arith, h))
read_amount cells v (Some x) here h = get_or-map amount cells v None None here ∙ ap amount (sym (h.1 None))

pub returns : goal.returns
returns g c =
    let network = g.S.Source.network c.args.source.now in
    let found = c.in_ok-least_costs.ensures.holds_each_least_cost in
    let inside = c.nodes.ensures in
    let cells = c.least_costs.new.sheet.cells.now in
    let there : c.args.target < length cells = omega (arith, inside, found.2, c.in_ok-least_costs.ensures.keeps_its_cells.1) in
    let same = read_amount cells c.args.target c.read.result there c.read.ensures ∙ ap (λ o. amount (option_flatten o)) (sym c.copied.ensures) ∙ ap amount (sym c.flatten.ensures) in
    (found.0, found.1, omega (arith, inside), subst (LeastCost network c.args.start c.args.target c.args.weight) same (found.3 c.args.target (omega (arith, inside))))
