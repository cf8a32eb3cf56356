use Rattle.au_base.proofs.FirstRule.{first}
use Rattle.au_base.proofs.laws.first_rule_gives_the_code.Goals as goal

pub returns : goal.returns
returns c = first
