use Rattle.std.proofs.Common.{◌≡◌, ◌++◌, length, map, take, drop, sym, ap, ◌∙◌, subst, arith}
use Rattle.std.proofs.lemmas.List.{length-map, length-take}
use Rattle.std.proofs.Math.Seq.{take-append_seam}
use Rattle.network.specs.Choices.{Ranged}
use Rattle.grids.specs.Grids.{grid_sizes, plus_extra}
use Rattle.grids.specs.GridRules.{plus_ranged}
use Rattle.grids.proofs.grid.Grid.joined.Goals as goal

pub invariant_of-result-2 : goal.invariant_of-result-2
invariant_of-result-2 c =
    let g = c.args.self.now in
    let new = c.raise.new.sizes in
    let long : length new ≡ g.count = ap length c.raise.ensures ∙ length-map (grid_sizes g) (plus_extra c.args.extra) ∙ omega (arith, length-take g.count g.sizes, g.sizeroom, g.few) in
    let front : take g.count (new ++ drop g.count g.sizes) ≡ map (plus_extra c.args.extra) (grid_sizes g) = subst (λ n. take n (new ++ drop g.count g.sizes) ≡ new) long (take-append_seam new (drop g.count g.sizes)) ∙ c.raise.ensures in
    record {
      some = g.some;
      few = g.few;
      ranged = subst Ranged (sym front) (plus_ranged c.args.extra (grid_sizes g) c.requires g.ranged);
    }
