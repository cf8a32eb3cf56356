use Rattle.au_base.specs.Privileges.{code_of}
use Rattle.rec_parts.specs.descent.Parts.{privilege_with}
use Rattle.rec_parts.proofs.CodeLaws.{privilege_forth, privilege_back, is_found, is_absent}
use Rattle.rec_parts.proofs.codes.privilege_with.Goals as goal

pub returns-in-Some : goal.returns-in-Some
returns-in-Some c = is_found code_of privilege_with privilege_forth c.args.code c.in-Some.privilege c.in-Some.ensures

pub returns-in-None : goal.returns-in-None
returns-in-None c = is_absent code_of privilege_with privilege_back c.args.code c.in-None.ensures
