use Rattle.std.proofs.Common.{◌≡◌, ℤ, pos, ◌≤ℤ◌, ◌<ℤ◌, sym, ◌∙◌, inl, inr, arith}
use Rattle.std.proofs.lemmas.Int.{by_lt_z}
use Rattle.std.proofs.lemmas.Bool.{false≢true}
use Rattle.geometry.specs.Plane.{Pt, dot, away, orient}
use Rattle.geometry.proofs.Integers.{lin}
use Rattle.polygons.specs.Points.{place, past}
use Rattle.polygons.proofs.Comparing.{same_place, other_place, unequal_place, not_unequal_place}
use Rattle.polygons.proofs.marching.takes.Goals as goal
use Rattle.polygons.proofs.marching.takes.Goals.{Else-right_of, then-eq, else-eq}

above : (z : ℤ) → ¬ (z <ℤ pos 0) → ¬ (z ≡ pos 0) → pos 0 <ℤ z
above z m n = by_lt_z (pos 0) z (λ l. l) (λ l. by_lt_z z (pos 0) (λ k. absurd (m k)) (λ k. absurd (n (omega (arith, lin)))))

farther_on : (p b s : Pt) → pos 0 <ℤ past p b s → dot (away p b) b <ℤ dot (away p b) s
unfolding past
farther_on p b s h = omega (arith, lin)

no_farther : (p b s : Pt) → ¬ (pos 0 <ℤ past p b s) → dot (away p b) s ≤ℤ dot (away p b) b
unfolding past
no_farther p b s n = by_lt_z (pos 0) (past p b s) (λ h. absurd (n h)) (λ h. omega (arith, lin))

pub returns-then-right_of-clause-yes : goal.returns-then-right_of-clause-yes
returns-then-right_of-clause-yes c = λ e. record {
  other = unequal_place c.args.s c.args.p c.ne.result c.ne.ensures c.if-ne.true;
  why = elim c.if-eq.branch [
    | then-eq w ↦ inl (same_place c.args.b c.args.p c.eq.result c.eq.ensures w.if-eq.true)
    | else-eq w ↦ inr (inl (w.right_of.ensures.0 (sym w.value-is ∙ e)))
  ];
}

pub returns-then-in_line-clause-yes : goal.returns-then-in_line-clause-yes
returns-then-in_line-clause-yes c = λ e. record {
  other = unequal_place c.args.s c.args.p c.ne.result c.ne.ensures c.if-ne.true;
  why = inr (inr (c.in_line.ensures.0 c.if-in_line.true, farther_on _ _ _ (c.farther.ensures.0 e)));
}

-- b is another point than p, and s is not to the right of the way from p to b
onward : (c : Else-right_of) → (¬ (place c.args.b ≡ place c.args.p)) × (¬ (orient (place c.args.p) (place c.args.b) (place c.args.s) <ℤ pos 0))
onward c = elim c.if-eq.branch [
  | then-eq w ↦ absurd (false≢true (sym c.if-right_of.false ∙ w.value-is ∙ w.if-eq.true))
  | else-eq w ↦ (
    other_place c.args.b c.args.p c.eq.result c.eq.ensures w.if-eq.false,
    λ h. false≢true (sym c.if-right_of.false ∙ w.value-is ∙ w.right_of.ensures.1 h),
  )
]

pub returns-then-in_line-clause-no : goal.returns-then-in_line-clause-no
returns-then-in_line-clause-no c = λ e. record {
  why = inr ((onward c.before.before.before).0, inr (c.in_line.ensures.0 c.if-in_line.true, no_farther _ _ _ (λ h. false≢true (sym e ∙ c.farther.ensures.1 h))));
}

pub returns-else-in_line-clause-no : goal.returns-else-in_line-clause-no
returns-else-in_line-clause-no c = λ e. record {
  why = inr ((onward c.before.before).0, inl (above _ (onward c.before.before).1 (λ h. false≢true (sym e ∙ c.in_line.ensures.1 h))));
}

pub returns-else-ne-clause-no : goal.returns-else-ne-clause-no
returns-else-ne-clause-no c = λ e. record { why = inl (not_unequal_place c.args.s c.args.p c.ne.result c.ne.ensures c.if-ne.false) }
