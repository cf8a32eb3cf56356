use Rattle.au_calls.proofs.Naming.{no_text_at}
use Rattle.au_calls.proofs.literals.name_of.Goals as goal

pub returns-in-None : goal.returns-in-None
returns-in-None c = no_text_at c.args.bytes.now c.in_ok-text.field-0 c.in-None.is c.in_ok-text.ensures
