use Rattle.std.proofs.Common.{◌∙◌, ap}
use Rattle.au_entries.specs.declared.kept.Kept.{Kept}
use Rattle.au_engine.proofs.Bodies.{takes_once}
use Rattle.au_engine.proofs.Untold.{on_ok}
use Rattle.au_engine.proofs.engine.Engine.take_body.Goals as goal

pub take_frame-requires : goal.take_frame-requires
take_frame-requires c =
    let once = takes_once c.one_reading.ensures c.args.self.now.state.kept c.requires.takes.0 c.args.body.now c.in-Some.frame (rw c.in-Some.is at c.in_ok-frame.ensures) c.requires.takes.1 in
    record { idle = c.requires.idle; spelled = once.spelled_is; first = once.first; goes = once.goes }

pub returns : goal.returns
returns c =
    let m = c.args.self.now.state in
    on_ok c.take_frame.result c.take_frame.ensures
    (λ is next takes. is ∙ ap (λ (k : Kept). record m { kept = k }) (takes_once c.one_reading.ensures m.kept next c.args.body.now c.in-Some.frame (rw c.in-Some.is at c.in_ok-frame.ensures) takes).makes)

pub unreachable-requires : goal.unreachable-requires
unreachable-requires c = (rw c.in-None.is at c.in_ok-frame.ensures) c.requires.takes.1.frame c.requires.takes.1.is
