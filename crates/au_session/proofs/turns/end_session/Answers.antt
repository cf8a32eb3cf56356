use Rattle.std.proofs.Common.{[], ◌∷◌, ◌++◌}
use Rattle.au_turn.specs.PassLaws.{by_on}
use Rattle.au_store.specs.declared.entry.Entry.TheVariants.{Abandoned}
use Rattle.au_session.specs.Entries.IsEnding.{abandoned}
use Rattle.au_session.proofs.turns.end_session.Goals as goal

pub returns-then-log_off-clause-went : goal.returns-then-log_off-clause-went
returns-then-log_off-clause-went g c =
    let off = c.log_off.ensures.off c.if-log_off.true in
    (off.came, off.ending, off.ends, off.went)

pub returns-then-log_off-clause-gone : goal.returns-then-log_off-clause-gone
returns-then-log_off-clause-gone g c = (c.log_off.ensures.off c.if-log_off.true).gone

pub returns-clause-went : goal.returns-clause-went
returns-clause-went g c =
    let on = c.log_off.ensures.on c.if-log_off.false in
    let went = c.abandon.ensures.went in (
      on.came ++ went.0,
      on.made ++ Abandoned c.args.client ∷ [],
      abandoned on.answer on.made on.leaves on.unreplied,
      by_on c.args.pass.now c.log_off.new.pass c.abandon.new.pass on.went went.1,
    )
