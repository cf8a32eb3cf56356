use Rattle.au_base.specs.BuiltIn.{sys}
use Rattle.au_define.proofs.Going.{goes}
use Rattle.au_define.proofs.Spelled.{spelled}
use Rattle.au_define.proofs.Staying.{connected_safe, stays, sys_safe}
use Rattle.au_define.proofs.Told.{told}
use Rattle.au_define.proofs.Unchanged.{unchanged}
use Rattle.au_define.proofs.Unique.{one}
use Rattle.au_define.proofs.laws.definitions_hold.Goals as goal

pub returns-clause-one : goal.returns-clause-one
returns-clause-one c = one

pub returns-clause-refused : goal.returns-clause-refused
returns-clause-refused c = unchanged

pub returns-clause-goes : goal.returns-clause-goes
returns-clause-goes c = goes c.same_is_equal.ensures.table c.same_is_equal.ensures.action

pub returns-clause-whole : goal.returns-clause-whole
returns-clause-whole c conditions tree kept user client busy statement decision =
    stays c.same_is_equal.ensures.table c.same_is_equal.ensures.action c.changes_add_one_grant_at_most.ensures.grants c.changes_add_one_grant_at_most.ensures.others c.decisions_keep_limits.ensures.few
    sys tree kept user client busy (sys_safe kept user client busy) conditions statement decision

pub returns-clause-stay : goal.returns-clause-stay
returns-clause-stay c conditions tree kept user client busy statement decision who lawful whole there connected decides =
    (stays c.same_is_equal.ensures.table c.same_is_equal.ensures.action c.changes_add_one_grant_at_most.ensures.grants c.changes_add_one_grant_at_most.ensures.others c.decisions_keep_limits.ensures.few
    who tree kept user client busy (connected_safe kept user client busy who connected) conditions statement decision lawful whole there decides).0

pub returns-clause-written : goal.returns-clause-written
returns-clause-written c = spelled

pub returns-clause-told : goal.returns-clause-told
returns-clause-told c = told
