use Rattle.au_query.proofs.planning.outputs.Goals as goal

pub returns-in_ok-listed-in-Listed : goal.returns-in_ok-listed-in-Listed
returns-in_ok-listed-in-Listed c = rw (c.in-Listed.is, ← c.as_slice.ensures) c.in_ok-listed-in-Listed.ensures
