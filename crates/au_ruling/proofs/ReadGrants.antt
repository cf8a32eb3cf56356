-- GRANT and REVOKE that a text is read as name no more rights and no more grantees than the text has bytes.
use Rattle.std.proofs.Common.{◌≡◌, ◌≤◌, ◌+◌, ℕ, List, [], ◌∷◌, length, arith}
use Rattle.std.proofs.lemmas.List.{length-append}
use Rattle.au_base.specs.Limits.{STATEMENT_BYTES}
use Rattle.au_base.specs.declared.grant.GrantStatement.{GrantStatement}
use Rattle.au_base.specs.declared.privilege.Privilege.{Privilege}
use Rattle.au_base.specs.declared.privilege.Privilege.TheVariants as privileges
use Rattle.au_base.specs.declared.table.TableReference.{TableReference}
use Rattle.au_ruling.proofs.Lists.{mapped_long}
use Rattle.au_ruling.specs.Sound.{AreFewGrants, IsFew}
use Rattle.sql_ast.specs.declared.statement.Statement.{Statement}
use Rattle.sql_ast.specs.declared.expression.Expr.{Expr}
use Rattle.sql_lex.specs.declared.token.Kind.{Kind}
use Rattle.sql_lex.specs.declared.token.Token.{Token}
use Rattle.sql_lex.specs.Tokens.{AreTokens, StandInOrder}
use Rattle.sql_parse.specs.AuditStatements as audits
use Rattle.sql_parse.specs.CallStatements as calls
use Rattle.sql_parse.specs.Changes as changes
use Rattle.sql_parse.specs.Grants as grants
use Rattle.sql_parse.specs.PolicyStatements as policies
use Rattle.sql_parse.specs.Privileges as rights
use Rattle.sql_parse.specs.Privileges.{tokens_of, words_of}
use Rattle.sql_parse.specs.Queries as queries
use Rattle.sql_parse.specs.RightsStatements as statements
use Rattle.sql_parse.specs.RowStatements as rows
use Rattle.sql_parse.specs.Rules as rules
use Rattle.sql_parse.specs.Rules.{After, Many, Parted, after}
use Rattle.sql_parse.specs.Statements as all
use Rattle.sql_parse.specs.Statements.{IsStatement, Reads}
use Rattle.sql_parse.specs.Symbols.{kinds}
use Rattle.sql_parse.specs.Tables as names
use Rattle.sql_parse.specs.TableStatements as tables
use Rattle.sql_parse.specs.UserStatements as users

-- ---- what a rule takes of the tokens

-- the rule takes a token at least
abbrev TakesSome : {A : Type 0} → (List Kind → A → List Kind → Type 0) → Type 0
TakesSome {A} Item = (i o : List Kind) (x : A) → Item i x o → 1 + length o ≤ length i

name_takes : TakesSome names.Name
name_takes i o x (names.name called) = omega arith

qualified_takes : (i o : List Kind) (x : _) → names.Qualified i x o → length o ≤ length i
qualified_takes i o x (names.bare called) = let here = name_takes _ _ _ called in omega (arith, here)
qualified_takes i o x (names.qualified owner called) = let a = name_takes _ _ _ owner in let b = name_takes _ _ _ called in omega (arith, a, b)

table_takes : (i o : List Kind) (x : TableReference) → names.Table i x o → length o ≤ length i
table_takes i o x (names.table called) = qualified_takes _ _ _ called

words_long : (p : Privilege) → 1 ≤ length (tokens_of (words_of p))
words_long privileges.AlterUser = omega arith
words_long privileges.AuditSystem = omega arith
words_long privileges.CreateAnyTable = omega arith
words_long privileges.CreateRole = omega arith
words_long privileges.CreateSession = omega arith
words_long privileges.CreateTable = omega arith
words_long privileges.CreateUser = omega arith
words_long privileges.DeleteAnyTable = omega arith
words_long privileges.DropAnyRole = omega arith
words_long privileges.DropAnyTable = omega arith
words_long privileges.DropUser = omega arith
words_long privileges.GrantAnyObjectPrivilege = omega arith
words_long privileges.GrantAnyPrivilege = omega arith
words_long privileges.GrantAnyRole = omega arith
words_long privileges.InsertAnyTable = omega arith
words_long privileges.SelectAnyTable = omega arith
words_long privileges.UpdateAnyTable = omega arith

privilege_takes : TakesSome rights.IsPrivilege
privilege_takes i o x rights.privilege = let whole = length-append (tokens_of (words_of x)) o in let some = words_long x in omega (arith, whole, some)

right_takes : TakesSome rights.IsRight
right_takes i o x (rights.system written) = privilege_takes _ _ _ written
right_takes i o x (rights.role written) = name_takes _ _ _ written

maybe_takes : (k : Kind) (i o : List Kind) → rules.Maybe k i o → length o ≤ length i
maybe_takes k i o rules.without = omega arith
maybe_takes k i o rules.written = omega arith

object_right_takes : TakesSome rights.IsObjectRight
object_right_takes i o x rights.select = omega arith
object_right_takes i o x rights.insert = omega arith
object_right_takes i o x rights.update = omega arith
object_right_takes i o x rights.delete = omega arith
object_right_takes i o x (rights.all word) = let here = maybe_takes _ _ _ word in omega (arith, here)

many_take : {A : Type 0} (k : Kind) (Item : List Kind → A → List Kind → Type 0) → TakesSome Item → (i o : List Kind) (xs : List A) → Many (After k Item) i xs o → length o + length xs ≤ length i
many_take k Item takes i o xs rules.none = omega arith
many_take k Item takes i o xs (rules.more (after first) rest) = let a = takes _ _ _ first in let b = many_take k Item takes _ _ _ rest in omega (arith, a, b)

-- as many tokens as there are parts
parted_take : {A : Type 0} (k : Kind) (Item : List Kind → A → List Kind → Type 0) → TakesSome Item → (i o : List Kind) (xs : List A) → Parted k Item i xs o → length o + length xs ≤ length i
parted_take k Item takes i o xs (rules.parted first rest) = let a = takes _ _ _ first in let b = many_take k Item takes _ _ _ rest in omega (arith, a, b)

-- ---- GRANT and REVOKE

abbrev IsShort : List Kind → Type 0
IsShort i = length i ≤ STATEMENT_BYTES

grant_few : (i o : List Kind) (x : GrantStatement) → grants.IsGrant i x o → IsShort i → AreFewGrants x
grant_few i o x (grants.grant listed named option) short =
    let a = parted_take _ _ right_takes _ _ _ listed in let b = parted_take _ _ name_takes _ _ _ named in (omega (arith, a, short), omega (arith, a, b, short))
grant_few i o x (grants.revoke listed named) short =
    let a = parted_take _ _ right_takes _ _ _ listed in let b = parted_take _ _ name_takes _ _ _ named in (omega (arith, a, short), omega (arith, a, b, short))
grant_few i o x (grants.grant_object listed on named) short =
    let a = parted_take _ _ object_right_takes _ _ _ listed in let t = table_takes _ _ _ on in let b = parted_take _ _ name_takes _ _ _ named in
    (omega (arith, a, short), omega (arith, a, t, b, short))
grant_few i o x (grants.revoke_object listed on named) short =
    let a = parted_take _ _ object_right_takes _ _ _ listed in let t = table_takes _ _ _ on in let b = parted_take _ _ name_takes _ _ _ named in
    (omega (arith, a, short), omega (arith, a, t, b, short))

-- ---- all statements

of_rows : (Inner : List Kind → Expr → List Kind → Type 0) (i o : List Kind) (x : Statement) → rows.RowStatement Inner i x o → IsFew x
of_rows Inner i o x (rows.selects (queries.select a b c d)) = tt
of_rows Inner i o x (rows.counts (queries.count a b)) = tt
of_rows Inner i o x (rows.inserts (changes.insert a b c)) = tt
of_rows Inner i o x (rows.updates (changes.update a b c)) = tt
of_rows Inner i o x (rows.deletes (changes.delete a b c)) = tt
of_rows Inner i o x (rows.commits a) = tt
of_rows Inner i o x (rows.rolls_back a) = tt

of_table : (i o : List Kind) (x : Statement) → tables.TableStatement i x o → IsFew x
of_table i o x (tables.creates called elements column) = tt

of_user : (text : List ℕ) (ts o : List Token) (x : Statement) → users.UserStatement text ts x o → IsFew x
of_user text ts o x (users.creates a b c d e p) = tt
of_user text ts o x (users.alters a b c d e p) = tt

of_rights : (i o : List Kind) (x : Statement) → statements.RightsStatement i x o → IsShort i → IsFew x
of_rights i o x (statements.drops_table (after a)) short = tt
of_rights i o x (statements.drops_user (after a)) short = tt
of_rights i o x (statements.creates_role (after a)) short = tt
of_rights i o x (statements.drops_role (after a)) short = tt
of_rights i o x (statements.grants granted) short = grant_few _ _ _ granted short

of_policy : (i o : List Kind) (x : Statement) → policies.PolicyStatement i x o → IsFew x
of_policy i o x (policies.creates a b c d e f) = tt

of_audit : (i o : List Kind) (x : Statement) → audits.AuditStatement i x o → IsFew x
of_audit i o x (audits.audits a b c) = tt
of_audit i o x (audits.stops_auditing a b) = tt
of_audit i o x (audits.drops a) = tt

of_call : (i o : List Kind) (x : Statement) → calls.CallStatement i x o → IsFew x
of_call i o x (calls.block a) = tt
of_call i o x (calls.calls a) = tt

of_statement : (text : List ℕ) (ts : List Token) (x : Statement) → IsStatement text ts x → IsShort (kinds ts) → IsFew x
of_statement text ts x (all.rows s) short = of_rows _ _ s.behind x s.derived
of_statement text ts x (all.table s) short = of_table _ s.behind x s.derived
of_statement text ts x (all.user s) short = of_user text ts s.behind x s.derived
of_statement text ts x (all.rights s) short = of_rights _ s.behind x s.derived short
of_statement text ts x (all.policy s) short = of_policy _ s.behind x s.derived
of_statement text ts x (all.audit s) short = of_audit _ s.behind x s.derived
of_statement text ts x (all.call s) short = of_call _ s.behind x s.derived

-- as many tokens as bytes at most
tokens_few : (start : ℕ) (ts : List Token) (end : ℕ) → StandInOrder start ts end → start + length ts ≤ end
tokens_few start [] end stand = omega (arith, stand)
tokens_few start (token ∷ ts) end stand =
    let a = stand.0 in let b = stand.1 in let rest = tokens_few token.to ts end stand.2 in omega (arith, a, b, rest)

kinds_long : (ts : List Token) → length (kinds ts) ≡ length ts
kinds_long ts = mapped_long (λ (token : Token). token.kind) ts

pub read_few : ((text : List ℕ) (ts : List Token) → AreTokens text ts → StandInOrder 0 ts (length text)) → (text : List ℕ) (x : Statement) → Reads text x → IsFew x
read_few places text x reads =
    let some = tokens_few 0 reads.tokens (length text) (places text reads.tokens reads.cut) in let same = kinds_long reads.tokens in let short = reads.short in
    of_statement text reads.tokens x reads.statement (omega (arith, some, same, short))
