use Rattle.au_store.proofs.Exclusive.{damaged_formatted, reads_formatted, reads_sound}
use Rattle.au_store.proofs.laws.never_damaged.Goals as goal

pub returns-clause-whole : goal.returns-clause-whole
returns-clause-whole c = λ all kept area at bounded reads damage. reads_sound c.frames_stand_in_a_row.ensures.one c.one_standing.ensures.selected all bounded kept reads area at damage

pub returns-clause-blank : goal.returns-clause-blank
returns-clause-blank c = λ all area at unformed damage. damaged_formatted all area at damage unformed

pub returns-clause-formatted : goal.returns-clause-formatted
returns-clause-formatted c = reads_formatted
