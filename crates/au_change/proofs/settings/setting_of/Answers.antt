use Rattle.au_change.proofs.SetLemmas.{setting_is, setting_refused}
use Rattle.au_change.proofs.settings.setting_of.Goals as goal

pub returns-in-Ok : goal.returns-in-Ok
returns-in-Ok c =
    setting_is c.args.range.now c.args.assignment.now c.args.column c.in-Ok.value c.from_ref-ranges.result.now c.from_ref-ranges.ensures.value c.requires.called (rw c.in-Ok.is at c.in_ok-value.ensures)

pub returns-in-Err : goal.returns-in-Err
returns-in-Err c =
    setting_refused c.args.range.now c.args.assignment.now c.args.column.now c.in-Err.code c.from_ref-ranges.result.now c.from_ref-ranges.ensures.value c.requires.called (rw c.in-Err.is at c.in_ok-value.ensures)
