use Rattle.std.proofs.Common.{◌∙◌, List, [], ap, map, subst, sym, arith}
use Rattle.std.specs.Prelude.{OnOk}
use Rattle.std.specs.List.{AllByRecursion}
use Rattle.au_entries.specs.declared.change.Change.{Change}
use Rattle.rec_codec.specs.Changes.{IsChangeSpellable}
use Rattle.rec_codec.specs.Images.{Wrote}
use Rattle.au_rows.specs.Held.{lent}
use Rattle.au_txn.specs.Desks.{open_of}
use Rattle.au_image.proofs.RowPieces.{lent_count, lent_puts}
use Rattle.au_image.proofs.rows.write_table_rows.Goals as goal

pub write_view-requires-clause-left : goal.write_view-requires-clause-left
write_view-requires-clause-left c =
    let count = lent_count c.args.table.now c.args.desk.now.rows (open_of c.args.desk.now c.args.client) _ (ap (map lent) c.as_slice.ensures.value ∙ c.in_ok-view.ensures) in
    let left = c.requires.left in
    omega (arith, count, left)

pub write_view-requires-clause-spellable : goal.write_view-requires-clause-spellable
write_view-requires-clause-spellable c =
    subst (AllByRecursion IsChangeSpellable) (sym (lent_puts c.args.table.now c.args.desk.now.rows (open_of c.args.desk.now c.args.client) _ (ap (map lent) c.as_slice.ensures.value ∙ c.in_ok-view.ensures))) c.requires.spellable

pub returns : goal.returns
returns c =
    subst (λ (cs : List Change). OnOk c.write_view.result (Wrote c.args.writer.now c.write_view.new.writer cs []))
    (lent_puts c.args.table.now c.args.desk.now.rows (open_of c.args.desk.now c.args.client) _ (ap (map lent) c.as_slice.ensures.value ∙ c.in_ok-view.ensures))
    c.write_view.ensures
