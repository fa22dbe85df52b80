use Rattle.std.proofs.Common.{◌≡◌, ◌≤ℤ◌, ◌<ℤ◌, ap, sym, ◌∙◌, subst, w64, to_z, of_z}
use Rattle.geometry.specs.Plane.{dot, nth}
use Rattle.geometry.proofs.Mapped.{nth_map}
use Rattle.polygons.specs.declared.cheapest.Cheapest.{Cheapest}
use Rattle.polygons.specs.Cheapest.{pair}
use Rattle.polygons.specs.Corners.{corner_list}
use Rattle.polygons.specs.Points.{place}
use Rattle.polygons.proofs.Asking.{first_found, less_found, no_less}
use Rattle.polygons.proofs.Ways.{held}
use Rattle.polygons.proofs.polygon.Polygon.cheapest.Goals as goal
use Rattle.polygons.proofs.polygon.Polygon.cheapest.Goals.{in-Some, in_default-2, in_default}

pub loop-corner-preserved : goal.loop-corner-preserved
loop-corner-preserved c =
    let ps = corner_list c.args.self.now in
    let w = pair c.args.weight.now in
    let now = c.loop-corner in
    let z = c.weighted_cost-least in
    let costs = c.corners-cost-items.result.now in
    let at : place c.cost-item.result ≡ nth ps now.corner =
    ap place c.cost-item.is ∙ sym (nth_map place costs now.corner c.cost-item.result c.loop-corner-test.true) ∙ ap (λ qs. nth qs now.corner) c.corners-cost-items.ensures in
    let e : to_z w64 (of_z w64 z.result) ≡ dot w (nth ps now.corner) = held z.result z.type_inv ∙ z.ensures ∙ ap (dot w) at in
    elim c.match-best.branch [
      | in-Some t ↦ let b = t.best-is in simp b (no_less ps w now.corner _ e now.best now.invariant t.in-Some.found t.in-Some.is (subst (λ (x : Cheapest). x.least ≤ℤ to_z w64 (of_z w64 z.result)) t.in-Some.found-is (t.below.ensures.no t.if-not-below.true)))
      | in_default-2 t ↦ let b = t.best-is in simp b (less_found ps w now.corner _ e now.best now.invariant t.in-Some.found t.in-Some.is (subst (λ (x : Cheapest). to_z w64 (of_z w64 z.result) <ℤ x.least) t.in-Some.found-is (t.below.ensures.yes t.if-not-below.false)))
      | in_default t ↦ let b = t.best-is in simp b (first_found ps w now.corner _ e now.best now.invariant t.in_default.is)
    ]
