use Rattle.std.proofs.Common.{◌≡◌, true}
use Rattle.au_journal.specs.Journals.{seat_of}
use Rattle.trials_journal.proofs.case.make_steps.Given as goal

abbrev pub invariant-loop-step : goal.invariant-loop-step
invariant-loop-step l = (seat_of l.journal).ended ≡ true
