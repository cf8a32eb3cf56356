use Rattle.std.proofs.Common.{Bool, subst}
use Rattle.au_logon.specs.Admitting.{IsLocal}
use Rattle.au_step.specs.Step.{is_crowded}
use Rattle.au_engine.proofs.Beginning.{opens}
use Rattle.au_engine.proofs.Counts.{logon_counts}
use Rattle.au_engine.proofs.engine.Engine.local.Goals as goal

pub returns-clause-step : goal.returns-clause-step
returns-clause-step g c =
    let m = c.args.self.now.state in
    let is = subst (λ (crowded : Bool). IsLocal crowded c.in_ok-admission.admission) c.is_crowded.ensures c.in_ok-admission.ensures in
    opens (IsLocal (is_crowded m)) m c.args.client c.args.stamp.0 _ _ _ c.stands.result c.in_ok-admission.admission c.stands.ensures c.if-stands.false is c.in_ok-outcome.ensures.step

pub returns-clause-counted : goal.returns-clause-counted
returns-clause-counted g c =
    let m = c.args.self.now.state in
    let is = subst (λ (crowded : Bool). IsLocal crowded c.in_ok-admission.admission) c.is_crowded.ensures c.in_ok-admission.ensures in
    logon_counts (IsLocal (is_crowded m)) m c.args.client c.stands.result c.in_ok-admission.admission _ _ c.stands.ensures c.if-stands.false is c.opens.ensures.counted
