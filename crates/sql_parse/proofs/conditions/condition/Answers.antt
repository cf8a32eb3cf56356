use Rattle.sql_parse.proofs.ConditionLaws.{condition_of_text}
use Rattle.sql_parse.proofs.TreeLaws.{found_tree}
use Rattle.sql_parse.proofs.conditions.condition.Goals as goal

pub returns-in-Ok-clause-reads : goal.returns-in-Ok-clause-reads
returns-in-Ok-clause-reads c =
    let cut = rw c.in-Ok.is at c.in_ok-tokens.ensures in
    let found = rw c.deref.ensures.value at c.condition_of.ensures in
    condition_of_text c.args.text.now c.in-Ok.tokens.items c.condition_of.result (c.one_way.ensures.tokens c.args.text.now) cut found

pub returns-in-Ok-clause-tree : goal.returns-in-Ok-clause-tree
returns-in-Ok-clause-tree c =
    let cut = rw c.in-Ok.is at c.in_ok-tokens.ensures in
    let found = rw c.deref.ensures.value at c.condition_of.ensures in
    let reads = condition_of_text c.args.text.now c.in-Ok.tokens.items c.condition_of.result (c.one_way.ensures.tokens c.args.text.now) cut found in
    found_tree c.args.text.now c.condition_of.result (c.tree_is_condition.ensures.some c.args.text.now) (c.tree_is_condition.ensures.none c.args.text.now) reads
