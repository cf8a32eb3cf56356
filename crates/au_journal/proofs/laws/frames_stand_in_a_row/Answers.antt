use Rattle.au_journal.proofs.Ends.{spelled_once}
use Rattle.au_journal.proofs.Standing.{front-nil, front-push, length-spelled}
use Rattle.au_journal.proofs.laws.frames_stand_in_a_row.Goals as goal

pub returns-clause-none : goal.returns-clause-none
returns-clause-none c = front-nil

pub returns-clause-pushed : goal.returns-clause-pushed
returns-clause-pushed c = front-push

pub returns-clause-length : goal.returns-clause-length
returns-clause-length c = length-spelled

pub returns-clause-one : goal.returns-clause-one
returns-clause-one c = spelled_once
