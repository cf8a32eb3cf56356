use Rattle.std.proofs.Common.{◌≡◌, ◌∙◌, ◌++◌, List, ap, map, subst}
use Rattle.std.specs.Prelude.{OnOk}
use Rattle.au_entries.specs.Changing.{KeptRow}
use Rattle.au_rows.specs.Held.{lent}
use Rattle.au_txn.specs.Desks.{open_of, replayer}
use Rattle.au_image.proofs.RowPieces.{seen_rows}
use Rattle.au_image.proofs.rows.copy_table.Goals as goal

pub returns : goal.returns
returns c =
    subst (λ (xs : List KeptRow). OnOk c.push_view.result (c.push_view.new.rows ≡ c.args.rows.now ++ xs))
    (seen_rows c.args.table.now.name c.args.desk.now.rows (open_of c.args.desk.now replayer) _ (ap (map lent) c.as_slice.ensures.value ∙ c.in_ok-view.ensures))
    c.push_view.ensures
