use Rattle.std.proofs.Common.{length}
use Rattle.sql_parse_admin.proofs.words.+past_words.Given as goal

abbrev pub decreases-past_words : goal.decreases-past_words
decreases-past_words l = length l.name.now
