use Rattle.au_step.proofs.Stepping.{sound_leaves, sound_settles}
use Rattle.au_step.proofs.step_laws.steps_hold.Goals as goal

pub returns-clause-goes : goal.returns-clause-goes
returns-clause-goes c = λ m n client ask stamp reply logged from ends stamped text other step. (c.each_step_is_sound.ensures m n client ask stamp reply logged from ends stamped text other step).can.goes

pub returns-clause-whole : goal.returns-clause-whole
returns-clause-whole c = λ m n client ask stamp reply logged from ends stamped text other step. (c.each_step_is_sound.ensures m n client ask stamp reply logged from ends stamped text other step).can.whole

pub returns-clause-ends : goal.returns-clause-ends
returns-clause-ends c = λ m n client ask stamp reply logged from ends stamped text other step. (c.each_step_is_sound.ensures m n client ask stamp reply logged from ends stamped text other step).ends

pub returns-clause-written : goal.returns-clause-written
returns-clause-written c = λ m n client ask stamp reply logged from ends stamped text other step. (c.each_step_is_sound.ensures m n client ask stamp reply logged from ends stamped text other step).can.written

pub returns-clause-told : goal.returns-clause-told
returns-clause-told c = λ m n client ask stamp reply logged from ends stamped text other step. (c.each_step_is_sound.ensures m n client ask stamp reply logged from ends stamped text other step).can.told

pub returns-clause-rowless : goal.returns-clause-rowless
returns-clause-rowless c = λ m n client ask stamp reply logged from ends stamped text other step. (c.each_step_is_sound.ensures m n client ask stamp reply logged from ends stamped text other step).rowless

pub returns-clause-few : goal.returns-clause-few
returns-clause-few c = λ m n client ask stamp reply logged from ends stamped text other step.
    let sound = c.each_step_is_sound.ensures m n client ask stamp reply logged from ends stamped text other step in (sound.can.few_changes, sound.can.few_records)

pub returns-clause-moment : goal.returns-clause-moment
returns-clause-moment c = λ m n client ask stamp reply logged from ends stamped text other step. (c.each_step_is_sound.ensures m n client ask stamp reply logged from ends stamped text other step).lawful.kept.lawful.last

pub returns-clause-lawful : goal.returns-clause-lawful
returns-clause-lawful c = λ m n client ask stamp reply logged from ends stamped text other step. (c.each_step_is_sound.ensures m n client ask stamp reply logged from ends stamped text other step).lawful

pub returns-clause-settles : goal.returns-clause-settles
returns-clause-settles c = λ m n client ask stamp reply logged from ends stamped text other step. sound_settles m stamp logged n (c.each_step_is_sound.ensures m n client ask stamp reply logged from ends stamped text other step)

pub returns-clause-is_logged : goal.returns-clause-is_logged
returns-clause-is_logged c = λ m n client ask stamp reply logged from ends stamped text other step. (c.each_step_is_sound.ensures m n client ask stamp reply logged from ends stamped text other step).is_logged

pub returns-clause-leaves : goal.returns-clause-leaves
returns-clause-leaves c = λ m n client ask stamp reply logged from ends stamped text other step. sound_leaves m stamp logged n (c.each_step_is_sound.ensures m n client ask stamp reply logged from ends stamped text other step)
