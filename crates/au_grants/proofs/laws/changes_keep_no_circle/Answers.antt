use Rattle.au_grants.proofs.Circles.{applied_closes, applied_keeps}
use Rattle.au_grants.proofs.laws.changes_keep_no_circle.Goals as goal

pub returns-clause-kept : goal.returns-clause-kept
returns-clause-kept c grants change closes clear = applied_keeps change grants closes clear

pub returns-clause-closed : goal.returns-clause-closed
returns-clause-closed c grants change closes clear = applied_closes change grants closes clear
