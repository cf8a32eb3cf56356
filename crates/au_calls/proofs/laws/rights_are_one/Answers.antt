use Rattle.au_calls.proofs.Unique.{same_rights}
use Rattle.au_calls.proofs.laws.rights_are_one.Goals as goal

pub returns : goal.returns
returns c = same_rights
