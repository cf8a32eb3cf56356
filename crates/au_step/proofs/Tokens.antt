-- A statement has a token at least, and a token a byte.
use Rattle.std.proofs.Common.{◌<◌, ◌≤◌, ℕ, List, [], ◌∷◌, ◌++◌, length, arith, length-append}
use Rattle.sql_lex.specs.declared.token.Kind.{Kind}
use Rattle.sql_lex.specs.declared.token.Mark.{Mark}
use Rattle.sql_lex.specs.declared.token.Mark.TheVariants as mark
use Rattle.sql_lex.specs.declared.token.Token.{Token}
use Rattle.sql_lex.specs.Tokens as g
use Rattle.sql_lex.specs.Tokens.{IsGap, LeadsTo, Spells, spelling}
use Rattle.sql_ast.specs.declared.expression.Expr.{Expr}
use Rattle.sql_ast.specs.declared.statement.Statement.{Statement}
use Rattle.sql_parse.specs.Rules.{after}
use Rattle.sql_parse.specs.Changes as changes
use Rattle.sql_parse.specs.Queries as queries
use Rattle.sql_parse.specs.Grants as grants
use Rattle.sql_parse.specs.RowStatements as rows
use Rattle.sql_parse.specs.TableStatements as tables
use Rattle.sql_parse.specs.UserStatements as users
use Rattle.sql_parse.specs.RightsStatements as rights
use Rattle.sql_parse.specs.PolicyStatements as policies
use Rattle.sql_parse.specs.AuditStatements as audits
use Rattle.sql_parse.specs.CallStatements as calls
use Rattle.sql_parse.specs.Statements as all
use Rattle.sql_parse.specs.Statements.{IsStatement}

of_rows : (Inner : List Kind → Expr → List Kind → Type 0) (i o : List Kind) (x : Statement) → rows.RowStatement Inner i x o → 0 < length i
of_rows Inner i o x (rows.selects (queries.select a b c d)) = omega arith
of_rows Inner i o x (rows.counts (queries.count a b)) = omega arith
of_rows Inner i o x (rows.inserts (changes.insert a b c)) = omega arith
of_rows Inner i o x (rows.updates (changes.update a b c)) = omega arith
of_rows Inner i o x (rows.deletes (changes.delete a b c)) = omega arith
of_rows Inner i o x (rows.commits a) = omega arith
of_rows Inner i o x (rows.rolls_back a) = omega arith

of_table : (i o : List Kind) (x : Statement) → tables.TableStatement i x o → 0 < length i
of_table i o x (tables.creates a b c) = omega arith

of_user : (text : List ℕ) (ts o : List Token) (x : Statement) → users.UserStatement text ts x o → 0 < length ts
of_user text ts o x (users.creates a b c d e p) = omega arith
of_user text ts o x (users.alters a b c d e p) = omega arith

of_rights : (i o : List Kind) (x : Statement) → rights.RightsStatement i x o → 0 < length i
of_rights i o x (rights.drops_table (after a)) = omega arith
of_rights i o x (rights.drops_user (after a)) = omega arith
of_rights i o x (rights.creates_role (after a)) = omega arith
of_rights i o x (rights.drops_role (after a)) = omega arith
of_rights i o x (rights.grants (grants.grant a b c)) = omega arith
of_rights i o x (rights.grants (grants.revoke a b)) = omega arith
of_rights i o x (rights.grants (grants.grant_object a b c)) = omega arith
of_rights i o x (rights.grants (grants.revoke_object a b c)) = omega arith

of_policy : (i o : List Kind) (x : Statement) → policies.PolicyStatement i x o → 0 < length i
of_policy i o x (policies.creates a b c d e f) = omega arith

of_audit : (i o : List Kind) (x : Statement) → audits.AuditStatement i x o → 0 < length i
of_audit i o x (audits.audits a b c) = omega arith
of_audit i o x (audits.stops_auditing a b) = omega arith
of_audit i o x (audits.drops a) = omega arith

of_call : (i o : List Kind) (x : Statement) → calls.CallStatement i x o → 0 < length i
of_call i o x (calls.block a) = omega arith
of_call i o x (calls.calls a) = omega arith

-- no tokens are no statement
pub no_statement : (text : List ℕ) (x : Statement) → IsStatement text [] x → ⊥
no_statement text x (all.rows s) = let some = of_rows _ [] s.behind x s.derived in omega (arith, some)
no_statement text x (all.table s) = let some = of_table [] s.behind x s.derived in omega (arith, some)
no_statement text x (all.user s) = let some = of_user text [] s.behind x s.derived in omega (arith, some)
no_statement text x (all.rights s) = let some = of_rights [] s.behind x s.derived in omega (arith, some)
no_statement text x (all.policy s) = let some = of_policy [] s.behind x s.derived in omega (arith, some)
no_statement text x (all.audit s) = let some = of_audit [] s.behind x s.derived in omega (arith, some)
no_statement text x (all.call s) = let some = of_call [] s.behind x s.derived in omega (arith, some)

-- marks, tokens, blanks and comments have a byte at least
mark_some : (m : Mark) → 0 < length (spelling m)
mark_some mark.OpenParenthesis = omega arith
mark_some mark.CloseParenthesis = omega arith
mark_some mark.Comma = omega arith
mark_some mark.Period = omega arith
mark_some mark.Semicolon = omega arith
mark_some mark.Asterisk = omega arith
mark_some mark.Plus = omega arith
mark_some mark.Minus = omega arith
mark_some mark.Equal = omega arith
mark_some mark.Less = omega arith
mark_some mark.Greater = omega arith
mark_some mark.LessGreater = omega arith
mark_some mark.NotEqual = omega arith
mark_some mark.LessEqual = omega arith
mark_some mark.GreaterEqual = omega arith
mark_some mark.Arrow = omega arith

token_some : (text behind : List ℕ) (k : Kind) → Spells text behind k → 0 < length text
token_some [] behind k (g.word first run short) = absurd cc
token_some (b ∷ text) behind k (g.word first run short) = omega arith
token_some text behind k (g.quoted_name all is) = omega arith
token_some [] behind k (g.number first run stops small) = absurd cc
token_some (b ∷ text) behind k (g.number first run stops small) = omega arith
token_some text behind k (g.text_literal stops u) = omega arith
token_some text behind k (g.longest_mark {m = m} h) = mark_some m

gap_some : (text behind : List ℕ) → IsGap text behind → 0 < length text
gap_some text behind (g.blank e) = omega arith
gap_some text behind (g.line_comment run u) = omega arith
gap_some text behind (g.block_comment none u) = omega arith

first_some : (text behind : List ℕ) → 0 < length text → 1 ≤ length (text ++ behind)
first_some text behind some = omega (arith, length-append text behind)

-- a text with a token has a byte at least
pub tokens_some : (at : ℕ) (bytes : List ℕ) (t : Token) (ts : List Token) (place : ℕ) (rest : List ℕ) → LeadsTo at bytes (t ∷ ts) place rest → 1 ≤ length bytes
tokens_some at bytes t ts place rest (g.past_gap {text = x} {behind = b} gap leads) = first_some x b (gap_some x b gap)
tokens_some at bytes t ts place rest (g.past_token {text = x} {behind = b} none spells from to leads) = first_some x b (token_some x b t.kind spells)
