use Rattle.std.proofs.Common.{take}
use Rattle.au_query.specs.descent.Residuals.{AreLeft}
use Rattle.au_query.proofs.counting.residuals_of.Given as goal

abbrev pub invariant-loop-tree : goal.invariant-loop-tree
invariant-loop-tree l = AreLeft (take l.tree-index l.trees) l.residuals.items
