use Rattle.sql_lex.proofs.Gaps.{gap_sound, no_gap}
use Rattle.sql_lex.proofs.gap.past_gap.Goals as goal

pub returns-in-Some : goal.returns-in-Some
returns-in-Some c = gap_sound c.args.bytes.now _ c.in-Some.ensures

pub returns-in-None : goal.returns-in-None
returns-in-None c = no_gap c.args.bytes.now c.in-None.ensures
