use Rattle.au_recording.proofs.Written.{few, written}
use Rattle.au_recording.proofs.laws.records_can_be_written.Goals as goal

pub returns-clause-written : goal.returns-clause-written
returns-clause-written c = written c.demanded_names_stand_in_order.ensures.few c.demanded_names_stand_in_order.ensures.from c.demanded_names_stand_in_order.ensures.ordered

pub returns-clause-few : goal.returns-clause-few
returns-clause-few c = few
