use Rattle.au_replay.specs.Sights.{shown}
use Rattle.au_replay.proofs.TouchedLaws.{few_found, few_none}
use Rattle.au_replay.proofs.touched.has_few_columns.Goals as goal

pub returns-in-Some : goal.returns-in-Some
returns-in-Some c = few_found (shown c.args.sight.now) c.args.name.now c.in-Some.table.now c.is_narrow.result c.in-Some.ensures.some c.in-Some.ensures.only c.is_narrow.ensures

pub returns-in-None : goal.returns-in-None
returns-in-None c = few_none (shown c.args.sight.now) c.args.name.now c.in-None.ensures.none
