use Rattle.std.proofs.Common.{◌≡◌, List, length, subst}
use Rattle.std.specs.Prelude.{IfOk}
use Rattle.au_entries.specs.Changing.{KeptRow}
use Rattle.au_image.proofs.rows.count_rows.Goals as goal

pub returns : goal.returns
returns c = subst (λ (xs : List KeptRow). IfOk c.count_by_tables.result (λ count. count ≡ length xs)) c.seen_stand_by_tables.ensures c.count_by_tables.ensures
