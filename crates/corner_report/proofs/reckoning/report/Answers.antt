use Rattle.takeoff.proofs.Kept.{can}
use Rattle.corner_report.proofs.Whole.{tells}
use Rattle.corner_report.proofs.reckoning.report.Goals as goal

pub reckon-requires : goal.reckon-requires
reckon-requires c =
    let promised = c.in_ok-header.ensures in
    let contents = promised.reads_a_lawful_beginning.0 in
    let answered = promised.reads_a_lawful_beginning.1 in
    let prepared = can contents c.in_ok-header.header answered.ends.2 _ c.read.new.segments _ c.read.new.weights
    (promised.writes_the_segments contents answered) (promised.counts_the_choices_of_each contents answered) (promised.writes_the_weights contents answered)
    answered.ends.0 answered.lawful in
    record {
      drawn = record { counted = prepared.counted; short = prepared.short; lawful = λ e l. prepared.lawful e l _ };
      aimed = (prepared.start_inside, prepared.target_inside);
      weighed = (prepared.few, prepared.weighed);
    }

pub returns : goal.returns
returns c =
    let promised = c.in_ok-header.ensures in
    let contents = promised.reads_a_lawful_beginning.0 in
    let answered = promised.reads_a_lawful_beginning.1 in
    record {
      reports_the_takeoff =
          tells contents c.in_ok-header.header answered.ends.2 _ c.read.new.segments _ c.read.new.weights
          (promised.writes_the_segments contents answered) (promised.counts_the_choices_of_each contents answered) (promised.writes_the_weights contents answered)
          c.args.bytes.now answered.ends.0 answered.lawful answered.ends.1 c.reckon.result c.reckon.ensures;
    }
