use Rattle.au_condition.proofs.Codes as codes
use Rattle.au_condition.proofs.Standing.{reads}
use Rattle.au_condition.proofs.laws.conditions_are_read.Goals as goal

pub returns : goal.returns
returns c = record { reads = reads; told = codes.told }
