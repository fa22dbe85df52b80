use Rattle.std.proofs.Common.{◌≡◌, ◌<◌, length, get_or, arith, rules}
use Rattle.network.specs.Costs.{point}
use Rattle.network.specs.Networks.{segment_arc}
use Rattle.polygons.specs.Corners.{corner_list}
use Rattle.traceback.proofs.Searches.{tail_low, list_read, served, none_served, passed, pass_unchosen}
use Rattle.traceback.proofs.stepping.step_back.Goals as goal
use Rattle.traceback.proofs.stepping.step_back.Goals.{in-Some+in_default-lowest_choice, in_default}

pub offset_bounds-lists-tail : goal.offset_bounds-lists-tail
offset_bounds-lists-tail g c =
    let low : c.in-Some.segment.listed.tail < 128 = tail_low (g.S.Source.ruled c.args.source.now) c.loop-e.e (segment_arc c.in-Some.segment) c.in-Some.ensures.stands in
    search rules

pub listed : goal.listed
listed g c =
    let low = tail_low (g.S.Source.ruled c.args.source.now) c.loop-e.e (segment_arc c.in-Some.segment) c.in-Some.ensures.stands in
    let room : length c.args.lists.now ≡ 128 = search rules in
    omega (arith, low)

pub bounds-lists-tail : goal.bounds-lists-tail
bounds-lists-tail g c =
    tail_low (g.S.Source.ruled c.args.source.now) c.loop-e.e (segment_arc c.in-Some.segment) c.in-Some.ensures.stands

pub returns-in-Some-lowest_choice : goal.returns-in-Some-lowest_choice
returns-in-Some-lowest_choice g c =
    let arc = segment_arc c.in-Some.segment in
    let found = c.in-Some-lowest_choice.found in
    let list = get_or c.args.lists.now arc.tail c.index-lists-tail.result in
    let low = tail_low (g.S.Source.ruled c.args.source.now) c.loop-e.e arc c.in-Some.ensures.stands in
    let room : length c.args.lists.now ≡ 128 = search rules in
    let read = list_read c.args.lists.now arc.tail c.index-lists-tail.result (omega (arith, low)) in
    served (g.S.Source.network c.args.source.now) c.args.lists.now c.args.v (point c.args.left.now) c.loop-e.e arc (corner_list list) found.choice (point found.corner)
    c.in-Some.ensures.stands c.in-Some.ensures.into read c.in-Some-lowest_choice.ensures c.loop-e.invariant

pub loop-e-preserved : goal.loop-e-preserved
loop-e-preserved g c =
    let N = g.S.Source.network c.args.source.now in
    let lists = c.args.lists.now in
    let left = point c.args.left.now in
    elim c.match-entering.branch [
      | in-Some+in_default-lowest_choice w ↦
          let arc = segment_arc w.in-Some.segment in
          let list = get_or lists arc.tail w.index-lists-tail.result in
          let low = tail_low (g.S.Source.ruled c.args.source.now) c.loop-e.e arc w.in-Some.ensures.stands in
          let room : length c.args.lists.now ≡ 128 = search rules in
          let read = list_read lists arc.tail w.index-lists-tail.result (omega (arith, low)) in
          pass_unchosen N lists c.args.v left c.loop-e.e arc (corner_list list) w.in-Some.ensures.stands read w.in_default-lowest_choice.ensures c.loop-e.invariant
      | in_default w ↦ passed N lists c.args.v left c.loop-e.e w.in_default.ensures c.loop-e.invariant
    ]

pub returns : goal.returns
returns g c =
    none_served (g.S.Source.network c.args.source.now) c.args.lists.now c.args.v (point c.args.left.now) c.loop-e.e
    (omega (arith, c.segments-e-end.ensures)) c.loop-e.invariant
