use Rattle.std.proofs.Common.{◌≡◌, ◌∙◌, ap, arith, length, sym}
use Rattle.std.proofs.lemmas.Bool.Decides.{nat_tests}
use Rattle.au_rows.specs.Held.{lent}
use Rattle.au_txn.specs.Desks.{open_of, replayer}
use Rattle.au_replay.specs.Sights.{rows_seen}
use Rattle.au_replay.specs.Touched.{rows_in}
use Rattle.au_replay.proofs.RowCounts.{view_counts}
use Rattle.au_replay.proofs.touched.has_few_rows.Goals as goal

pub returns : goal.returns
returns c =
    let desk = c.args.desk.now in
    let same : length (rows_in c.args.table.now (rows_seen desk)) ≡ length c.as_slice.result.now =
    view_counts lent desk.rows (open_of desk replayer) c.args.table.now c.in_ok-view.view.rows.items c.in_ok-view.ensures ∙ ap length (sym c.as_slice.ensures.value) in
    (λ is. grind (arith, nat_tests, same, is), λ few. grind (arith, nat_tests, same, few))
