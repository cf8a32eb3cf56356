use Rattle.std.proofs.Common.{◌≡◌, ◌∙◌, true, false, refl, sym}
use Rattle.au_txn.specs.Desks.{open_of, replayer}
use Rattle.au_txn.specs.Rows.{row_at}
use Rattle.au_txn.specs.Transactions.{laid_over}
use Rattle.au_replay.specs.Sights.{rows_seen, shown}
use Rattle.au_replay.specs.descent.Touched.{IsPutWhole, IsSeenWhole}
use Rattle.au_replay.proofs.TouchedLaws.{if_ok_both, seen_from, seen_to}
use Rattle.au_replay.proofs.touched.is_whole_in.Goals as goal

pub returns-then-not-branch : goal.returns-then-not-branch
returns-then-not-branch c = (
  λ is. absurd (let e : false ≡ true = is in cc),
  λ whole. absurd (
      let yes = c.in_ok-has_few_rows.ensures.1 (whole.count c.args.table.now (c.requires.there, refl)) in
      let e : true ≡ false = sym yes ∙ c.if-not-branch.true in cc),
)

pub returns : goal.returns
returns c =
    let kept = shown c.args.sight.now in
    let desk = c.args.sight.now.desk.now in
    let rows = laid_over desk.rows (open_of desk replayer) in
    let ordered = c.rows_are_what_they_answer.ensures.ordered desk.rows (open_of desk replayer) c.holds_together.ensures.rows in
    if_ok_both (IsSeenWhole (rows_seen desk) c.args.table.now c.args.row (row_at c.args.table.now.name c.args.row rows)) (IsPutWhole kept c.args.table.now.name c.args.row) c.is_seen_whole.result
    (seen_from c.rows_stand_by_tables.ensures.found kept rows refl ordered c.args.table.now c.args.row c.requires.only (c.in_ok-has_few_rows.ensures.0 c.if-not-branch.false))
    (seen_to c.rows_stand_by_tables.ensures.there kept rows refl c.args.table.now c.args.row c.requires.there)
    c.is_seen_whole.ensures
