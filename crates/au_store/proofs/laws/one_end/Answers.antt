use Rattle.au_store.proofs.Leading.{one_end_of, one_entry, one_frame}
use Rattle.au_store.proofs.laws.one_end.Goals as goal

pub returns-clause-entry : goal.returns-clause-entry
returns-clause-entry c = one_entry c.one_result.ensures.logged c.one_result.ensures.step

pub returns-clause-list : goal.returns-clause-list
returns-clause-list c = one_end_of c.one_result.ensures.logged c.one_result.ensures.step

pub returns-clause-frame : goal.returns-clause-frame
returns-clause-frame c = one_frame c.one_result.ensures.logged
