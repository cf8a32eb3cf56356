use Rattle.au_kept.proofs.tabling.open_table.Goals as goal

pub returns-clause-keyed : goal.returns-clause-keyed
returns-clause-keyed c = λ keyed.
    c.desks_stay_keyed.ensures.opened c.args.desk.now c.open_table.new.self (record { name = c.args.name; key = c.into_vec.result.items }) keyed (λ row has. (c.holds_together.ensures.open row has).0) c.holds_together.ensures.there c.requires.may
    c.open_table.ensures.tables c.open_table.ensures.rows c.open_table.ensures.changes
