use Rattle.au_base.specs.Actions.{code_of}
use Rattle.rec_parts.specs.descent.Parts.{action_with}
use Rattle.rec_parts.proofs.CodeLaws.{action_forth, action_back, is_found, is_absent}
use Rattle.rec_parts.proofs.codes.action_with.Goals as goal

pub returns-in-Some : goal.returns-in-Some
returns-in-Some c = is_found code_of action_with action_forth c.args.code c.in-Some.action c.in-Some.ensures

pub returns-in-None : goal.returns-in-None
returns-in-None c = is_absent code_of action_with action_back c.args.code c.in-None.ensures
