use Rattle.std.proofs.Common.{◌≡◌, ◌<◌, ◌≤◌, length, get_or, Bor, Ok, Option, MatchOption, sym, ap, ◌∙◌, subst, arith}
use Rattle.std.proofs.lemmas.List.{get_or-map, length-take}
use Rattle.kinds.specs.declared.tally.Tally.{Tally}
use Rattle.figures.specs.Counts.{RouteCount}
use Rattle.rehearsals.proofs.OneNumber.{number_told}
use Rattle.rehearsals.proofs.asking.number_of_routes.Goals as goal

pub returns : goal.returns
returns g c x holds same here =
    let N = g.S.Source.network c.args.source.now in
    let found = c.in_ok-count_routes.ensures.holds_the_number_of_routes in
    let cells = c.count_routes.new.sheet.cells.now in
    let kept = c.in_ok-count_routes.ensures.keeps_its_cells in
    let lent = ap length c.over-sheet.ensures.holds ∙ length-take c.nodes.result _ in
    let tally = c.in_ok-tally.tally.now in
    let read = subst (λ (o : Option (Bor Tally)). MatchOption o (length cells ≤ c.args.v) (λ t. (c.args.v < length cells) × ((d : Tally) → t.now ≡ get_or cells c.args.v d)))
    c.in_ok-tally.ensures.ok_part c.read.ensures in
    let is = get_or-map (λ (t : Tally). t.count) cells c.args.v tally 0 read.0 ∙ ap (λ (t : Tally). t.count) (sym (read.1 tally)) in
    let counted = subst (RouteCount N 0 c.args.v) is (found.2 c.args.v (omega (arith, c.nodes.ensures, read.0, kept.1, lent))) in
    ap Ok (number_told x holds N same c.args.v here tally.count counted)
