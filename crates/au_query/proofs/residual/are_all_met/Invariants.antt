use Rattle.std.proofs.Common.{◌≡◌, drop}
use Rattle.au_query.specs.descent.Residuals.{are_met_by}
use Rattle.au_query.proofs.residual.are_all_met.Given as goal

abbrev pub invariant-loop-comparison : goal.invariant-loop-comparison
invariant-loop-comparison l = are_met_by l.cells (drop l.comparison-index l.comparisons) ≡ are_met_by l.cells l.comparisons
