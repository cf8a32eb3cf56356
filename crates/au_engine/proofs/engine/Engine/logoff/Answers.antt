use Rattle.std.proofs.Common.{ap}
use Rattle.std.specs.Option.{option_copied}
use Rattle.au_base.specs.Codes.{NOT_LOGGED_ON}
use Rattle.au_step.specs.declared.session.Session.{Session}
use Rattle.au_step.specs.Step.{CodeStep, EndStep, session_of}
use Rattle.au_engine.specs.Prepared.{logged_by, made_of}
use Rattle.au_engine.proofs.Matched.{none_given, seat_given}
use Rattle.au_engine.proofs.engine.Engine.logoff.Goals as goal

pub ended-requires : goal.ended-requires
ended-requires g c = record { own = (c.own_session.ensures.own c.in-Some.session.now (ap option_copied c.in-Some.is)).lawful }

pub returns-in-None-clause-step : goal.returns-in-None-clause-step
returns-in-None-clause-step g c =
    none_given (session_of c.args.self.now.state.sessions c.args.client) _ _ _ c.own_session.ensures.found (ap option_copied c.in-None.is) c.unchanged.ensures.step

pub returns-in_ok-outcome-in-Some-clause-step : goal.returns-in_ok-outcome-in-Some-clause-step
returns-in_ok-outcome-in-Some-clause-step g c =
    let a = c.args in
    let m = a.self.now.state in
    let o = c.in_ok-outcome-in-Some.outcome in
    seat_given (session_of m.sessions a.client) _ c.in-Some.session.now (CodeStep m NOT_LOGGED_ON o.reply (logged_by o) (made_of o m))
    (λ (s : Session). EndStep m s a.client a.stamp.0 o.reply (logged_by o) (made_of o m))
    c.own_session.ensures.found (ap option_copied c.in-Some.is) c.in_ok-outcome-in-Some.ensures.step
