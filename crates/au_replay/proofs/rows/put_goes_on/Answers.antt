use Rattle.std.proofs.Common.{◌≤◌, arith}
use Rattle.au_replay.specs.Sights.{shown}
use Rattle.au_replay.proofs.KeptTables.{put_found, put_none}
use Rattle.au_replay.proofs.rows.put_goes_on.Goals as goal

pub returns-in-Some : goal.returns-in-Some
returns-in-Some c =
    let least : 1 ≤ c.args.row.0 = omega (arith, c.if-number-eq0.false) in
    put_found (shown c.args.sight.now) c.args.table.now c.args.row c.args.cells.now c.in-Some.found.now c.has_columns.result least c.in-Some.ensures.some c.in-Some.ensures.only c.has_columns.ensures

pub returns-in-None : goal.returns-in-None
returns-in-None c = put_none (shown c.args.sight.now) c.args.table.now c.args.row c.args.cells.now c.in-None.ensures.none
