use Rattle.std.proofs.Common.{◌≡◌, ℕ, sym, arith}
use Rattle.std.proofs.lemmas.List.{set_past}
use Rattle.runs.proofs.sheet.store.Goals as goal

pub returns : goal.returns
returns g c =
    record {
      writes = sym (set_past c.args.cells.now c.args.v c.args.x c.if-v-cells.false);
      tells = (λ h. let z : ◌≡◌ {A = ℕ} 0 1 = cc in absurd (omega arith), λ h. absurd (omega (arith, c.if-v-cells.false)));
    }
