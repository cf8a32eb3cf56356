use Rattle.std.proofs.Common.{◌≡◌, ◌∙◌, List, ap, map, subst}
use Rattle.std.specs.Prelude.{IfOk}
use Rattle.au_entries.specs.Changing.{KeptRow}
use Rattle.au_txn.specs.declared.change.RowChange.{RowChange}
use Rattle.au_txn.specs.Rows.{triple_of}
use Rattle.au_txn.specs.Transactions.{laid_over}
use Rattle.au_image.proofs.rows.copy_rows.Goals as goal

pub returns : goal.returns
returns c =
    subst (λ (xs : List KeptRow). IfOk c.copy_by_tables.result (λ rows. rows ≡ xs))
    (c.seen_stand_by_tables.ensures ∙ ap (λ (changes : List RowChange). map triple_of (laid_over c.args.desk.now.rows changes)) c.requires.quiet)
    c.copy_by_tables.ensures
