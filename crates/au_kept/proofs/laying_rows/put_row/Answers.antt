use Rattle.std.proofs.Common.{◌≡◌, ◌∙◌, List, [], map, refl, ap, subst, sym}
use Rattle.std.specs.Prelude.{IsTrue, Some}
use Rattle.au_base.specs.declared.cell.Cell.{Cell}
use Rattle.au_image.specs.Image.{kept_of}
use Rattle.au_kept.specs.descent.Laying.{kept_seen}
use Rattle.au_kept.proofs.Copies.{copied}
use Rattle.au_kept.proofs.OpenKeys.{found}
use Rattle.au_kept.proofs.Settled.{Triples, content_follows}
use Rattle.au_kept.proofs.Tabled.{open_there}
use Rattle.au_replay.specs.Reading.{conditions}
use Rattle.au_rows.specs.declared.table.Table.{Table as OpenTable}
use Rattle.au_txn.specs.Desks.{is_open, open_of, replayer}
use Rattle.au_txn.specs.Rows.{Row, triple_of, with_content}
use Rattle.au_txn.specs.Transactions.{laid_over}
use Rattle.au_kept.proofs.laying_rows.put_row.Goals as goal

pub set_row-requires-clause-there : goal.set_row-requires-clause-there
set_row-requires-clause-there c =
    let (numbered, (t, is, few)) = c.requires.goes c.if-not-goes.false in
    subst (λ (ts : List OpenTable). IsTrue (is_open c.args.table.now ts)) (sym c.requires.opened) (open_there c.args.table.now c.args.catalog.now.tables ∙ found c.args.catalog.now.tables t c.args.table.now is.0 is.1)

pub returns-clause-seen : goal.returns-clause-seen
returns-clause-seen c = λ goes.
    let triples : Triples = record { forth = c.rows_are_triples.ensures.forth; gone = c.rows_are_triples.ensures.gone; left = c.rows_are_triples.ensures.left; put = c.rows_are_triples.ensures.put } in
    let seen = laid_over c.args.desk.now.rows (open_of c.args.desk.now replayer) in
    let same : c.into_vec.result.items ≡ c.args.cells.now = c.into_vec.ensures ∙ copied c.args.cells.now c.in_ok-cells.cells c.in_ok-cells.ensures.cases in
    ap (λ (rows : List Row). kept_of c.args.catalog.now c.args.grants.now (map triple_of rows) [] (record { 0 = 0 }) c.args.instance)
    (c.set_row.ensures.seen ∙ ap (λ (cells : List Cell). with_content c.args.table.now c.args.row (Some cells) seen) same)
    ∙ sym (content_follows triples conditions.tree c.args.table.now c.args.row (Some c.args.cells.now) (kept_seen c.args.catalog.now c.args.grants.now c.args.desk.now c.args.instance) seen refl)
