use Rattle.au_replay.proofs.Readings.{fga_text}
use Rattle.au_replay.proofs.fine_grained.is_condition_over.Goals as goal

pub returns-in-Some : goal.returns-in-Some
returns-in-Some c = fga_text c.args.table.now c.args.condition.now _ _ c.is_fga_condition.result c.in-Some.is c.as_bytes.ensures.value c.is_fga_condition.ensures
