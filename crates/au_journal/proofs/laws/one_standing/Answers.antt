use Rattle.au_journal.proofs.Ends.{closed_not_bare, selects_once, stands_once}
use Rattle.au_journal.proofs.laws.one_standing.Goals as goal

pub returns-clause-bodies : goal.returns-clause-bodies
returns-clause-bodies c = stands_once

pub returns-clause-gated : goal.returns-clause-gated
returns-clause-gated c = closed_not_bare

pub returns-clause-selected : goal.returns-clause-selected
returns-clause-selected c = selects_once
