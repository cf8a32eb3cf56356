use Rattle.au_logon.proofs.Read.{read_nobody}
use Rattle.au_logon.proofs.naming.user_of.Goals as goal

pub returns-in_ok-from_str-in-None : goal.returns-in_ok-from_str-in-None
returns-in_ok-from_str-in-None c = read_nobody c.args.text.now c.in_ok-from_str-in-None.field-0 c.in_ok-name.field-0 c.as_bytes-bytes.ensures.utf8 c.in-None.is c.in_ok-name.ensures c.in_ok-from_str-in-None.ensures
