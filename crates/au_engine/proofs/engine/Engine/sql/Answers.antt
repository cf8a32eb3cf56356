use Rattle.std.proofs.Common.{ap}
use Rattle.std.specs.Option.{option_copied}
use Rattle.au_base.specs.Codes.{NOT_LOGGED_ON}
use Rattle.au_step.specs.declared.session.Session.{Session}
use Rattle.au_step.specs.Planning.{IsPlanOfRead, IsUnplanned}
use Rattle.au_step.specs.Step.{CodeStep, SessionStep, session_of}
use Rattle.au_engine.specs.Prepared.{logged_by, made_of}
use Rattle.au_engine.proofs.Matched.{none_given, seat_given, seat_taken}
use Rattle.std.specs.Prelude.{MatchOption}
use Rattle.au_engine.specs.Counting.{AreTextFacts}
use Rattle.au_engine.proofs.Counts.{counts_by}
use Rattle.au_engine.proofs.engine.Engine.sql.Goals as goal

pub text-requires-clause-own : goal.text-requires-clause-own
text-requires-clause-own g c = c.own_session.ensures.own c.in-Some.session.now (ap option_copied c.in-Some.is)

pub text-requires-clause-planned : goal.text-requires-clause-planned
text-requires-clause-planned g c =
    let a = c.args in
    let m = a.self.now.state in
    seat_taken (session_of m.sessions a.client) _ c.in-Some.session.now (IsUnplanned a.plan) (λ (s : Session). IsPlanOfRead m s a.stamp.0 a.read.now a.plan)
    c.own_session.ensures.found (ap option_copied c.in-Some.is) c.requires.planned

pub returns-in-None-clause-step : goal.returns-in-None-clause-step
returns-in-None-clause-step g c =
    let a = c.args in
    let m = a.self.now.state in
    none_given (session_of m.sessions a.client) _ _ _ c.own_session.ensures.found (ap option_copied c.in-None.is) c.unchanged.ensures.step

pub returns-in_ok-outcome-in-Some-clause-step : goal.returns-in_ok-outcome-in-Some-clause-step
returns-in_ok-outcome-in-Some-clause-step g c =
    let a = c.args in
    let m = a.self.now.state in
    let o = c.in_ok-outcome-in-Some.outcome in
    seat_given (session_of m.sessions a.client) _ c.in-Some.session.now (CodeStep m NOT_LOGGED_ON o.reply (logged_by o) (made_of o m))
    (λ (s : Session). SessionStep m s a.text.now a.stamp.0 o.reply (logged_by o) (made_of o m))
    c.own_session.ensures.found (ap option_copied c.in-Some.is) c.in_ok-outcome-in-Some.ensures.step

pub returns-in_ok-outcome-in-Some-clause-counted : goal.returns-in_ok-outcome-in-Some-clause-counted
returns-in_ok-outcome-in-Some-clause-counted g c =
    let a = c.args in
    let m = a.self.now.state in
    counts_by m (AreTextFacts m c.in-Some.session.now a.text.now a.stamp.0) (λ facts. MatchOption (session_of m.sessions a.client) ⊥ (λ seat. AreTextFacts m seat.session a.text.now a.stamp.0 facts)) _ _
    (λ facts are. seat_given (session_of m.sessions a.client) _ c.in-Some.session.now ⊥ (λ (s : Session). AreTextFacts m s a.text.now a.stamp.0 facts) c.own_session.ensures.found (ap option_copied c.in-Some.is) are)
    c.text.ensures.counted

pub returns-in_err-outcome-in-Some-clause-counted : goal.returns-in_err-outcome-in-Some-clause-counted
returns-in_err-outcome-in-Some-clause-counted g c =
    let a = c.args in
    let m = a.self.now.state in
    counts_by m (AreTextFacts m c.in-Some.session.now a.text.now a.stamp.0) (λ facts. MatchOption (session_of m.sessions a.client) ⊥ (λ seat. AreTextFacts m seat.session a.text.now a.stamp.0 facts)) _ _
    (λ facts are. seat_given (session_of m.sessions a.client) _ c.in-Some.session.now ⊥ (λ (s : Session). AreTextFacts m s a.text.now a.stamp.0 facts) c.own_session.ensures.found (ap option_copied c.in-Some.is) are)
    c.text.ensures.counted
