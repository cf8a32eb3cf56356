use Rattle.std.proofs.Common.{arith}
use Rattle.std.proofs.lemmas.Bool.Decides.{nat_tests}
use Rattle.au_txn.specs.Desks.{open_of, replayer}
use Rattle.au_replay.proofs.RowCounts.{seen_few}
use Rattle.au_replay.proofs.touched.uses_few_numbers.Goals as goal

pub returns : goal.returns
returns c = λ few.
    (let desk = c.args.desk.now in
    let ordered = c.rows_are_what_they_answer.ensures.ordered desk.rows (open_of desk replayer) c.holds_together.ensures.rows in
    let least = seen_few c.rows_stand_by_tables.ensures.found c.laid_rows_answer.ensures.untouched desk.rows (open_of desk) c.args.table.now c.numbers-used.result.0 _ ordered c.numbers-used.ensures in
    grind (arith, nat_tests, least, few))
