use Rattle.std.proofs.Common.{drop}
use Rattle.std.specs.Prelude.{◌↔◌}
use Rattle.au_entries.specs.Lawful.{FitColumns}
use Rattle.au_replay.proofs.fitting.fits.Given as goal

abbrev pub invariant-loop-at : goal.invariant-loop-at
invariant-loop-at l = FitColumns (drop l.at l.columns) (drop l.at l.cells) ↔ FitColumns l.columns l.cells
