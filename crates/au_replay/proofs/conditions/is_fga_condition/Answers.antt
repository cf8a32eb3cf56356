use Rattle.std.proofs.Common.{Some, sym}
use Rattle.au_replay.proofs.Copies.{copied}
use Rattle.au_replay.proofs.Readings.{told_over, told_unread}
use Rattle.au_replay.proofs.conditions.is_fga_condition.Goals as goal

pub returns-in-Some : goal.returns-in-Some
returns-in-Some c =
    let read = rw c.in-Some.is at c.in_ok-tree.ensures.tree in
    told_over c.args.table.now _ _ c.args.text.now c.in-Some.tree c.is_truth.result c.in_ok-name.ensures.cases (copied c.args.table.now.columns c.in_ok-columns.columns c.in_ok-columns.ensures.cases) (sym read) c.is_truth.ensures

pub returns-in-None : goal.returns-in-None
returns-in-None c =
    let read = rw c.in-None.is at c.in_ok-tree.ensures.tree in
    told_unread (Some c.args.table.now) c.args.text.now (sym read)
