-- A fault at a byte is known by its number and its byte. Assumes nothing.
use Rattle.std.proofs.Common.{◌≡◌, ℕ, cond, eqb, sym, ap, ◌∙◌, arith}
use Rattle.network.specs.declared.fault.Fault.{Fault}
use Rattle.network.specs.declared.fault.Fault.TheVariants as fault
use Rattle.network.specs.declared.fault.Place.TheVariants.{At}
use Rattle.network.specs.Faults.{number, place}

-- the fault with this number at byte p
abbrev fault_at : ℕ → ℕ → Fault
fault_at k p =
    cond (eqb k 1) (fault.CutShort p) (cond (eqb k 2) (fault.UnknownTag p) (cond (eqb k 3) (fault.WrongLength p) (cond (eqb k 4) (fault.OutOfOrder p)
    (cond (eqb k 5) (fault.BadNode p) (cond (eqb k 6) (fault.ChoiceCount p) (cond (eqb k 7) (fault.OutOfRange p) (cond (eqb k 8) (fault.WeightRange p)
    (cond (eqb k 9) fault.GridShape (cond (eqb k 10) (fault.NoRoom p) (cond (eqb k 11) (fault.TooMany p) (cond (eqb k 12) (fault.EqualChoices p)
    (cond (eqb k 20) fault.NoStart (cond (eqb k 21) fault.AllSettled (cond (eqb k 22) fault.NotSettled (cond (eqb k 23) fault.NoCorner
    (cond (eqb k 25) fault.ClosedAlready fault.ClosedFull))))))))))))))))

is_fault_at : (f : Fault) (p : ℕ) → place f ≡ At p → f ≡ fault_at (number f) p
is_fault_at (fault.CutShort a) p e = cc
is_fault_at (fault.UnknownTag a) p e = cc
is_fault_at (fault.WrongLength a) p e = cc
is_fault_at (fault.OutOfOrder a) p e = cc
is_fault_at (fault.BadNode a) p e = cc
is_fault_at (fault.ChoiceCount a) p e = cc
is_fault_at (fault.OutOfRange a) p e = cc
is_fault_at (fault.WeightRange a) p e = cc
is_fault_at fault.GridShape p e = cc
is_fault_at (fault.NoRoom a) p e = cc
is_fault_at (fault.TooMany a) p e = cc
is_fault_at (fault.EqualChoices a) p e = cc
is_fault_at fault.NoStart p e = cc
is_fault_at fault.AllSettled p e = cc
is_fault_at fault.NotSettled p e = cc
is_fault_at fault.NoCorner p e = cc
is_fault_at (fault.Misfit v s t) p e = absurd (let z : ◌≡◌ {A = ℕ} 0 1 = cc in omega arith)
is_fault_at fault.ClosedAlready p e = cc
is_fault_at fault.ClosedFull p e = cc

pub same_fault : (f g : Fault) (p : ℕ) → place f ≡ At p → place g ≡ At p → number f ≡ number g → f ≡ g
same_fault f g p e h k = is_fault_at f p e ∙ ap (λ (n : ℕ). fault_at n p) k ∙ sym (is_fault_at g p h)
