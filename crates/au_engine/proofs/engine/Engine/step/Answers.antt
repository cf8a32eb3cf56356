use Rattle.std.proofs.Common.{subst, sym}
use Rattle.std.specs.Prelude.{IfOk}
use Rattle.au_base.specs.declared.ask.Ask.{Ask}
use Rattle.au_step.specs.Step.{LoggedStep}
use Rattle.au_engine.specs.Prepared.{logged_by, made_of}
use Rattle.au_engine.specs.Counting.{CountsFor}
use Rattle.au_engine.proofs.engine.Engine.step.Goals as goal

pub returns-in-Logon-clause-step : goal.returns-in-Logon-clause-step
returns-in-Logon-clause-step g c =
    let m = c.args.self.now.state in
    subst (λ (ask : Ask). IfOk c.logon.result (λ outcome. LoggedStep m c.args.client ask c.args.stamp.0 outcome.reply (logged_by outcome) (made_of outcome m))) (sym c.in-Logon.is) c.logon.ensures.step

pub returns-in-Logon-clause-steps : goal.returns-in-Logon-clause-steps
returns-in-Logon-clause-steps g c =
    let m = c.args.self.now.state in
    subst (λ (ask : Ask). CountsFor m c.args.client ask c.args.stamp.0 c.args.steps.now c.logon.new.steps) (sym c.in-Logon.is) c.logon.ensures.counted
