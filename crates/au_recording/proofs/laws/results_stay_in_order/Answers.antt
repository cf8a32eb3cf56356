use Rattle.au_policy.specs.Asking.{truth_now}
use Rattle.au_recording.proofs.laws.results_stay_in_order.Goals as goal

pub returns-clause-left : goal.returns-clause-left
returns-clause-left c catalog grants kept session facts place fired forgets policies order = record {
  session = c.kept_results_stay_in_order.ensures.session (truth_now session) session.session grants catalog.policies catalog.enabled kept facts forgets policies order.session;
  instance = c.kept_results_stay_in_order.ensures.instance (truth_now session) session.session grants catalog.policies catalog.enabled kept facts forgets policies order.instance;
}

pub returns-clause-forgotten : goal.returns-clause-forgotten
returns-clause-forgotten c = c.kept_results_stay_in_order.ensures.forgotten
