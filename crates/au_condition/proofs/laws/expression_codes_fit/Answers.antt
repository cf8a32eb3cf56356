use Rattle.au_condition.proofs.Codes as codes
use Rattle.au_condition.proofs.laws.expression_codes_fit.Goals as goal

pub returns : goal.returns
returns c = record { names = codes.names; conditions = codes.conditions; values = codes.values }
