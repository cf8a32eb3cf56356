use Rattle.std.proofs.Common.{None, sym}
use Rattle.au_replay.proofs.Readings.{found, unread}
use Rattle.au_replay.proofs.conditions.policy_condition.Goals as goal

pub returns-in-Some : goal.returns-in-Some
returns-in-Some c =
    let read = rw c.in-Some.is at c.in_ok-tree.ensures.tree in
    found None c.args.text.now c.in-Some.tree c.if_truth.result (sym read) c.if_truth.ensures

pub returns-in-None : goal.returns-in-None
returns-in-None c =
    let read = rw c.in-None.is at c.in_ok-tree.ensures.tree in
    unread None c.args.text.now (sym read)
