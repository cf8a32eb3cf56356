use Rattle.sql_parse_admin.proofs.UserLaws.{written_some, written_none}
use Rattle.sql_parse_admin.proofs.users.written.Goals as goal

pub returns-in-Some-2 : goal.returns-in-Some-2
returns-in-Some-2 c =
    let cut = c.in-Some.ensures.lookup.0 in
    let made = rw c.in-Some-2.is at c.in_ok-text.ensures in
    written_some c.args.text.now c.in-Some.bytes.now c.in-Some-2.text c.args.from c.args.to cut.0 cut.1 cut.2 made.0 made.1

pub returns-in-None : goal.returns-in-None
returns-in-None c =
    let cut = c.in-Some.ensures.lookup.0 in
    let made = rw c.in-None.is at c.in_ok-text.ensures in
    written_none c.args.text.now c.in-Some.bytes.now c.args.from c.args.to cut.2 made
