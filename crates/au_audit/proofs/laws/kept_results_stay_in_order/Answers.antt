use Rattle.au_audit.proofs.KeptOrder.{instance_ordered, left_ordered, session_ordered}
use Rattle.au_audit.proofs.laws.kept_results_stay_in_order.Goals as goal

pub returns-clause-session : goal.returns-clause-session
returns-clause-session c = session_ordered

pub returns-clause-instance : goal.returns-clause-instance
returns-clause-instance c = instance_ordered

pub returns-clause-forgotten : goal.returns-clause-forgotten
returns-clause-forgotten c = left_ordered
