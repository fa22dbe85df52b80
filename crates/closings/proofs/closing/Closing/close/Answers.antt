use Rattle.std.proofs.Common.{◌≡◌, ℕ, ◌+◌, List, [], ◌∷◌, ◌++◌, take, set, sym, ap, ◌∙◌, arith}
use Rattle.std.proofs.lemmas.List.{take_more_set}
use Rattle.closings.specs.Closings.{closed_nodes, without}
use Rattle.closings.proofs.ClosedRoutes.{without_both}
use Rattle.closings.proofs.closing.Closing.close.Goals as goal

pub returns-clause-network : goal.returns-clause-network
returns-clause-network g c =
    let s = c.args.self.now in
    let N = g.S.Source.network s.below in
    let more : take (s.count + 1) (set s.closed s.count c.args.v) ≡ closed_nodes s ++ c.args.v ∷ [] = take_more_set s.closed s.count c.args.v (omega (arith, s.room)) in
    ap (λ (vs : List ℕ). without vs N) more ∙ sym (without_both (c.args.v ∷ []) (closed_nodes s) N)
