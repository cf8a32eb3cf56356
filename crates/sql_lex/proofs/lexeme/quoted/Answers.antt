use Rattle.std.proofs.Common.{rules}
use Rattle.sql_lex.specs.descent.Scan.{quoted}
use Rattle.sql_lex.proofs.Decisions.{name_test, no_name}
use Rattle.sql_lex.proofs.lexeme.quoted.Goals as goal

pub returns-in-Some : goal.returns-in-Some
unfolding quoted
returns-in-Some c =
    let made = rw c.in-Some.is at c.in_ok-name.ensures in
    let is = name_test c.split_quotable.result.0.now made.0 in
    let same = made.1 in
    search rules

pub returns-in-None : goal.returns-in-None
unfolding quoted
returns-in-None c =
    let made = rw c.in-None.is at c.in_ok-name.ensures in
    let is = no_name c.split_quotable.result.0.now made in
    search rules
