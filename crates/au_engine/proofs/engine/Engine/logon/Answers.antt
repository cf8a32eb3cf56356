use Rattle.au_logon.specs.Admitting.{Admits}
use Rattle.au_step.specs.Step.{is_crowded}
use Rattle.au_engine.proofs.Beginning.{opens}
use Rattle.au_engine.proofs.Counts.{logon_counts}
use Rattle.au_engine.proofs.engine.Engine.logon.Goals as goal

pub returns-clause-step : goal.returns-clause-step
returns-clause-step g c =
    let m = c.args.self.now.state in
    opens (Admits m.kept.users m.kept.grants (is_crowded m) c.args.user.now c.args.password.now) m c.args.client c.args.stamp.0 _ _ _ c.stands.result c.in_ok-admission.admission
    c.stands.ensures c.if-stands.false c.in_ok-admission.ensures c.in_ok-outcome.ensures.step

pub returns-in_err-outcome-clause-counted : goal.returns-in_err-outcome-clause-counted
returns-in_err-outcome-clause-counted g c =
    let m = c.args.self.now.state in
    logon_counts (Admits m.kept.users m.kept.grants (is_crowded m) c.args.user.now c.args.password.now) m c.args.client c.stands.result c.in_ok-admission.admission _ _
    c.stands.ensures c.if-stands.false c.in_ok-admission.ensures c.opens.ensures.counted

pub returns-clause-counted : goal.returns-clause-counted
returns-clause-counted g c =
    let m = c.args.self.now.state in
    logon_counts (Admits m.kept.users m.kept.grants (is_crowded m) c.args.user.now c.args.password.now) m c.args.client c.stands.result c.in_ok-admission.admission _ _
    c.stands.ensures c.if-stands.false c.in_ok-admission.ensures c.opens.ensures.counted
