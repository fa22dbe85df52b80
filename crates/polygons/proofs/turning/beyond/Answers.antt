use Rattle.std.proofs.Common.{◌≡◌, ◌+ℤ◌, ◌-ℤ◌, ◌*ℤ◌, ◌∙◌, w64, to_z, of_z, rules}
use Rattle.geometry.proofs.Fitting.{beyond_is}
use Rattle.polygons.specs.Points.{place, past}
use Rattle.polygons.proofs.turning.beyond.Goals as goal

pub returns : goal.returns
unfolding past
returns c =
    let p = c.args.p in
    let b = c.args.b in
    let s = c.args.s in
    let e : to_z w64 (of_z w64 c.along.result) ≡ (b.price -ℤ p.price) *ℤ (s.price -ℤ b.price) +ℤ (b.pressure -ℤ p.pressure) *ℤ (s.pressure -ℤ b.pressure) = search rules in
    e ∙ beyond_is (place p) (place b) (place s)
