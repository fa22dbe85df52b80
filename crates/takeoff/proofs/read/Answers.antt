use Rattle.std.proofs.Common.{length, sym, subst}
use Rattle.network.specs.declared.weight.Weight.{Weight}
use Rattle.network.specs.Networks.{arc}
use Rattle.takeoff.specs.Takeoff.{Contents, arcs_of, weights_of}
use Rattle.takeoff.specs.Answers.{FrontCounted}
use Rattle.takeoff.proofs.Unique.{contents_once, answer_once, accepts_exactly, leaves}
use Rattle.takeoff.proofs.read.Goals as goal

pub returns : goal.returns
returns c =
    let r = length c.args.segments.now in
    let q = length c.args.weights.now in
    let bytes = c.args.bytes.now in
    let o = c.run.result in
    let f = c.run.ensures in
    record {
      reads_a_lawful_beginning = (f.contents, f.answered);
      no_other_answer_is_right = λ d e p a b. (sym (contents_once r q bytes d e o p a b), sym (answer_once r q bytes d e o p a b));
      accepts_exactly_takeoffs_that_find_room = accepts_exactly r q bytes f.contents o f.answered;
      writes_the_segments = leaves r q arcs_of arc c.args.segments.now c.run.new.segments bytes f.contents o f.answered f.segments_held;
      counts_the_choices_of_each = λ d a. subst (λ (e : Contents). FrontCounted e c.run.new.segments) (contents_once r q bytes f.contents d o o f.answered a) f.segments_counted;
      writes_the_weights = leaves r q weights_of (λ (w : Weight). w) c.args.weights.now c.run.new.weights bytes f.contents o f.answered f.weights_held;
      keeps_both_lengths = (f.segments_long, f.weights_long);
    }
