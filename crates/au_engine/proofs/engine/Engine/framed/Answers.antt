use Rattle.std.proofs.Common.{sym, ap, subst}
use Rattle.au_step.specs.Framing.{Writes, event_of}
use Rattle.au_engine.specs.declared.outcome.Outcome.{Outcome}
use Rattle.au_engine.specs.Prepared.{logged_by, made_of}
use Rattle.au_engine.proofs.Events.{frame_of, step_writes}
use Rattle.au_engine.proofs.engine.Engine.framed.Goals as goal

pub with_frame-requires : goal.with_frame-requires
with_frame-requires c =
    let a = c.args in
    let m = a.self.now.state in
    c.frames_lead_on.ensures.writable m (made_of a.outcome m) a.client a.ask.now a.stamp.0 (event_of a.stamp.0 (logged_by a.outcome)) (frame_of m a.client a.ask.now a.stamp.0 a.outcome c.requires.step)
    c.asks_are_text.ensures c.lawful.ensures c.requires.stamp c.requires.seated c.requires.client

pub returns-clause-writes : goal.returns-clause-writes
returns-clause-writes c =
    let a = c.args in
    let m = a.self.now.state in
    let can = c.frames_lead_on.ensures.writable m (made_of a.outcome m) a.client a.ask.now a.stamp.0 (event_of a.stamp.0 (logged_by a.outcome)) (frame_of m a.client a.ask.now a.stamp.0 a.outcome c.requires.step)
    c.asks_are_text.ensures c.lawful.ensures c.requires.stamp c.requires.seated c.requires.client in
    let bytes = ap (λ (p : Outcome). p.framed) c.in_ok-made.ensures in
    let writes = step_writes m a.client a.ask.now a.stamp.0 a.outcome _ c.requires.step can bytes in
    subst (λ (p : Outcome). Writes m a.client a.ask.now a.stamp.0 (made_of p m) c.in_ok-made.made.framed) (sym c.in_ok-made.ensures) writes
