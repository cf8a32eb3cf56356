use Rattle.std.proofs.Common.{length}
use Rattle.au_query.proofs.size.+combinations.Given as goal

abbrev pub decreases-combinations : goal.decreases-combinations
decreases-combinations l = length l.sources.now
