use Rattle.au_step.proofs.Texts.{placed}
use Rattle.au_step.proofs.text_laws.statements_stand_in_their_texts.Goals as goal

pub returns : goal.returns
returns c = λ text statement utf8 reads. placed text statement (c.passwords_are_placed.ensures text statement utf8 reads)
