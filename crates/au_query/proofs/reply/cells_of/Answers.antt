use Rattle.au_query.proofs.reply.cells_of.Goals as goal

pub returns : goal.returns
returns c = rw (← c.row-row.ensures) c.in_ok-cells.ensures
