use Rattle.std.proofs.Common.{None, sym}
use Rattle.au_replay.proofs.Readings.{told, told_unread}
use Rattle.au_replay.proofs.conditions.is_policy_condition.Goals as goal

pub returns-in-Some : goal.returns-in-Some
returns-in-Some c =
    let read = rw c.in-Some.is at c.in_ok-tree.ensures.tree in
    told None c.args.text.now c.in-Some.tree c.is_truth.result (sym read) c.is_truth.ensures

pub returns-in-None : goal.returns-in-None
returns-in-None c =
    let read = rw c.in-None.is at c.in_ok-tree.ensures.tree in
    told_unread None c.args.text.now (sym read)
