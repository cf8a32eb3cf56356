use Rattle.au_kept.proofs.Worlds.{change_sound, records_sound, row_sound, table_open}
use Rattle.au_kept.proofs.commits.worlds_are_sound.Goals as goal

pub returns-clause-tables : goal.returns-clause-tables
returns-clause-tables c = table_open

pub returns-clause-committed : goal.returns-clause-committed
returns-clause-committed c = row_sound

pub returns-clause-changed : goal.returns-clause-changed
returns-clause-changed c = change_sound

pub returns-clause-keys : goal.returns-clause-keys
returns-clause-keys c = λ contents client table h. h.keyed.seen client table

pub returns-clause-records : goal.returns-clause-records
returns-clause-records c = λ contents h. records_sound contents.kept.trail h.kept_is.spelled.records
