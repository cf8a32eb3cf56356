use Rattle.trials_store.proofs.asking.push_statement.Given as goal

abbrev pub ghosts-step : goal.ghosts-step
ghosts-step a = record { name = a.blank.name; parts = a.blank.parts }
