use Rattle.au_replay.proofs.Readings.{reads, reads_none, resolves}
use Rattle.au_replay.proofs.laws.conditions_resolve.Goals as goal

pub returns : goal.returns
returns c =
    let law = c.tree_is_condition.ensures in
    record {
      read = λ text tree. reads text tree (law.some text tree) (law.some text);
      unread = λ text. reads_none text (law.none text);
      truth = λ over tree answer is. resolves over tree answer is;
    }
