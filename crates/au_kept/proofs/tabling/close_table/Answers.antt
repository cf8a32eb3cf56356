use Rattle.au_kept.proofs.tabling.close_table.Goals as goal

pub returns-clause-keyed : goal.returns-clause-keyed
returns-clause-keyed c = λ keyed. c.desks_stay_keyed.ensures.dropped c.args.desk.now c.drop_table.new.self c.args.name.now keyed c.requires.may.1 c.drop_table.ensures.tables c.drop_table.ensures.rows c.drop_table.ensures.changes
