use Rattle.sql_parse.proofs.MomentLaws.{moment_found}
use Rattle.sql_parse.proofs.literals.moment_of.Goals as goal

pub returns : goal.returns
returns c = moment_found c.args.text.now c.read_moment.result (rw c.as_bytes.ensures.value at c.read_moment.ensures.cases)
