use Rattle.std.proofs.Common.{rules}
use Rattle.std.proofs.lemmas.Str.{is_utf8-from_IsUtf8}
use Rattle.sql_lex.proofs.Decisions.{no_utf8}
use Rattle.sql_lex.proofs.lexeme.text_before.Goals as goal

pub returns-in-Some : goal.returns-in-Some
returns-in-Some c =
    let made = rw c.in-Some.is at c.in_ok-text.ensures in
    let is = is_utf8-from_IsUtf8 c.args.text.now made.0 in
    let same = made.1 in
    search rules

pub returns-in-None : goal.returns-in-None
returns-in-None c =
    let made = rw c.in-None.is at c.in_ok-text.ensures in
    let is = no_utf8 c.args.text.now made in
    search rules
