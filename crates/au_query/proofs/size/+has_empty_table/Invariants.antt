use Rattle.std.proofs.Common.{length}
use Rattle.au_query.proofs.size.+has_empty_table.Given as goal

abbrev pub decreases-has_empty_table : goal.decreases-has_empty_table
decreases-has_empty_table l = length l.sources.now
