use Rattle.std.proofs.Common.{◌++◌}
use Rattle.au_turn.specs.PassLaws.{by_once}
use Rattle.au_session.proofs.turns.ask_once.Goals as goal

pub returns-clause-went : goal.returns-clause-went
returns-clause-went g c =
    let step = c.answer_held.ensures.step in
    let before = c.take-store.ensures.seen in
    (before.0 ++ step.made, step.made, step.leaves, by_once c.args.pass.now c.take-store.new.pass c.answer_held.new.pass step.made before c.take-store.ensures.mine step.grew)
