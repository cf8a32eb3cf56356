use Rattle.std.specs.Prelude.{◌≡◌, true}
use Rattle.sql_parse.specs.Conditions.{opens_few}
use Rattle.sql_parse.specs.Symbols.{kinds}
use Rattle.sql_parse_admin.specs.descent.Unread.{too_deep, no_statement}
use Rattle.sql_parse_admin.proofs.statements.statement_or_code.Goals as goal

pub returns-then-not-opens_few : goal.returns-then-not-opens_few
returns-then-not-opens_few c = too_deep (cc)

pub returns-in-None : goal.returns-in-None
returns-in-None c =
    let few : opens_few 0 (kinds c.args.tokens.now) ≡ true = cc in
    no_statement few ((rw c.in-None.is at c.in_ok-found.ensures) few)
