use Rattle.au_store.proofs.Exclusive.{causes_once, opened_sound}
use Rattle.au_store.proofs.laws.one_cause.Goals as goal

pub returns-clause-one : goal.returns-clause-one
returns-clause-one c = causes_once c.frames_stand_in_a_row.ensures.one c.one_standing.ensures.selected

pub returns-clause-opened : goal.returns-clause-opened
returns-clause-opened c = λ all why reading m bounded. opened_sound c.frames_stand_in_a_row.ensures.one c.one_standing.ensures.selected all why reading m (λ kept other. c.one_recovery.ensures.one all kept other bounded) bounded
