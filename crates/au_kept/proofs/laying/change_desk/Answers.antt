use Rattle.std.proofs.Common.{◌≡◌, ◌∙◌, map, ap}
use Rattle.au_entries.specs.declared.change.Change.TheVariants.{TableGone}
use Rattle.au_entries.specs.Changing.{rows_after}
use Rattle.au_image.specs.Image.{kept_rows}
use Rattle.au_kept.proofs.Built.{on_ok}
use Rattle.au_txn.specs.Rows.{triple_of}
use Rattle.au_kept.proofs.laying.change_desk.Goals as goal

pub returns-in-TableGone-clause-rows : goal.returns-in-TableGone-clause-rows
returns-in-TableGone-clause-rows c = rw c.in-TableGone.is
    (on_ok c.drop_table.result _ (kept_rows c.drop_table.new.desk ≡ rows_after (TableGone c.in-TableGone.name) (kept_rows c.args.desk.now))
    (λ same. ap (map triple_of) same ∙ c.rows_are_triples.ensures.left c.in-TableGone.name c.args.desk.now.rows) c.drop_table.ensures.rows)
