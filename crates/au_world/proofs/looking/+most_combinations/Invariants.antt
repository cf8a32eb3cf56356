use Rattle.std.proofs.Common.{length}
use Rattle.au_world.proofs.looking.+most_combinations.Given as goal

abbrev pub decreases-most_combinations : goal.decreases-most_combinations
decreases-most_combinations l = length l.tables.now
