use Rattle.std.proofs.Common.{◌∙◌, ap, length, arith}
use Rattle.std.proofs.lemmas.List.{length-map}
use Rattle.au_txn.specs.Desks.{contents_of, open_of}
use Rattle.au_txn.specs.Transactions.{view}
use Rattle.au_world.specs.Sights.{rows_by, sight_of}
use Rattle.au_world.proofs.Numbered.{no_more_rows}
use Rattle.au_world.proofs.looking.most_created.Goals as goal

pub returns : goal.returns
returns c =
    let desk = c.args.world.now.desk.now in
    let client = c.args.client in
    let table = c.args.table.now in
    let own = open_of desk client in
    let few = no_more_rows (λ a b. (c.same_is_equal.ensures.table a b).0) desk.rows (open_of desk) client table c.numbers.result.0 c.numbers.result.1
    (c.rows_are_what_they_answer.ensures.ordered desk.rows own c.holds_together.ensures.rows)
    (λ number unnamed. c.laid_rows_answer.ensures.untouched desk.rows own table number unnamed)
    (λ row has. ((c.rows_stand_by_tables.ensures.viewed desk.rows own table row c.holds_together.ensures.rows).0 has).1)
    c.numbers.ensures in
    let long = ap (λ kind. length (rows_by (sight_of c.args.world.now client) table kind)) c.requires.created ∙ length-map (view desk.rows own table) contents_of in
    omega (arith, few, long)
