use Rattle.au_replay.specs.Sights.{shown}
use Rattle.au_replay.proofs.KeptTables.{fga_none, fga_result}
use Rattle.au_replay.proofs.fine_grained.fga_goes_on.Goals as goal

pub returns-in-None : goal.returns-in-None
returns-in-None c = fga_none (shown c.args.sight.now) c.args.table.now c.args.condition.now c.in-None.ensures.none

pub returns-in-Some : goal.returns-in-Some
returns-in-Some c =
    fga_result (shown c.args.sight.now) c.args.table.now c.args.condition.now c.in-Some.found.now c.is_condition_over.result c.in-Some.ensures.some c.in-Some.ensures.only c.is_condition_over.ensures
