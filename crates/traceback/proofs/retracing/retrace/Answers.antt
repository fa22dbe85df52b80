use borrow.Author.Tests.{tests}
use Rattle.std.proofs.Common.{◌≡◌, ◌≢◌, Bool, true, false, Option, Some, None, sym, refl, subst, rules}
use Rattle.std.specs.Bool.{then_some}
use Rattle.network.specs.Costs.{origin, point}
use Rattle.traceback.specs.declared.retracing.Trail.{Trail}
use Rattle.traceback.specs.Searching.{Retraced}
use Rattle.traceback.proofs.Descents.{descended_more, stuck, nothing_left, no_way_on, no_way_home, all_back}
use Rattle.traceback.proofs.LastSteps.{leads_lower}
use Rattle.traceback.proofs.retracing.retrace.Goals as goal

-- a trail is answered where nothing is left, and none elsewhere
home : (Fact : Option Trail → Type 0) (b : Bool) (t : Trail) → (b ≡ true → Fact (Some t)) → (b ≡ false → Fact None) → Fact (then_some b t)
home Fact true t there elsewhere = there refl
home Fact false t there elsewhere = elsewhere refl

pub loop-node-smaller : goal.loop-node-smaller
loop-node-smaller g c =
    let back = c.in_ok-back.back in
    leads_lower (g.S.Source.ruled c.args.source.now) back.step back.tail c.loop-node.node c.in_ok-back.ensures.serves.leads

pub loop-node-preserved : goal.loop-node-preserved
loop-node-preserved g c =
    let back = c.in_ok-back.back in
    descended_more (g.S.Source.ruled c.args.source.now) c.args.start c.args.lists.now c.args.v (point c.args.corner) c.loop-node.count c.loop-node.steps c.loop-node.node (point c.loop-node.left)
    back.step back.tail (point back.corner) c.requires c.loop-node-test.true c.in_ok-back.ensures c.loop-node.invariant

pub returns-in_err-back : goal.returns-in_err-back
returns-in_err-back g c =
    subst (Retraced (g.S.Source.network c.args.source.now) c.args.start c.args.lists.now c.args.v (point c.args.corner)) (sym c.from_residual.ensures) (
      no_way_on (g.S.Source.ruled c.args.source.now) c.args.start c.args.lists.now c.args.v (point c.args.corner) c.loop-node.count c.loop-node.steps c.loop-node.node (point c.loop-node.left)
          c.loop-node-test.true c.in_err-back.ensures c.loop-node.invariant,
      stuck (g.S.Source.ruled c.args.source.now) c.args.start c.args.lists.now c.args.v (point c.args.corner) c.loop-node.count c.loop-node.steps c.loop-node.node (point c.loop-node.left)
          c.loop-node-test.true c.in_err-back.ensures c.loop-node.invariant,
    )

pub returns : goal.returns
returns g c =
    subst (Retraced (g.S.Source.network c.args.source.now) c.args.start c.args.lists.now c.args.v (point c.args.corner)) (sym c.then_some.ensures) (home (Retraced (g.S.Source.network c.args.source.now) c.args.start c.args.lists.now c.args.v (point c.args.corner)) c.eq.result _
    (λ same.
    let none_left : point c.loop-node.left ≡ origin = search (rules, tests) in
    all_back (g.S.Source.ruled c.args.source.now) c.args.start c.args.lists.now c.args.v (point c.args.corner) c.loop-node.count c.loop-node.steps c.loop-node.node (point c.loop-node.left)
    c.loop-node-test.false none_left c.loop-node.invariant)
    (λ other.
    let some_left : point c.loop-node.left ≢ origin = search (rules, tests) in (
      no_way_home (g.S.Source.ruled c.args.source.now) c.args.start c.args.lists.now c.args.v (point c.args.corner) c.loop-node.count c.loop-node.steps c.loop-node.node (point c.loop-node.left)
          c.loop-node-test.false some_left c.loop-node.invariant,
      λ right h. some_left
          (nothing_left (g.S.Source.ruled c.args.source.now) c.args.start c.args.lists.now c.args.v (point c.args.corner) c.loop-node.count c.loop-node.steps c.loop-node.node (point c.loop-node.left)
          c.loop-node-test.false c.loop-node.invariant right h),
    )))
