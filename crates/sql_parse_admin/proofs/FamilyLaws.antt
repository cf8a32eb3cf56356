-- A statement is of the family that its first two words tell.
use Rattle.std.proofs.Common.{◌≡◌, ◌<◌, ◌≤◌, ℕ, true, false, List, length, refl, sym, subst, arith}
use Rattle.std.specs.Prelude.{Option, Some, None, MatchOption, Result, Ok, Err, MatchResult}
use Rattle.au_base.specs.declared.code.Code.{Code}
use Rattle.au_base.specs.declared.limits.TheConstants.{STATEMENT_BYTES}
use Rattle.sql_lex.specs.declared.token.Kind.{Kind}
use Rattle.sql_lex.specs.declared.token.Token.{Token}
use Rattle.sql_lex.specs.Tokens.{AreTokens}
use Rattle.sql_ast.specs.declared.expression.Expr.{Expr}
use Rattle.sql_ast.specs.declared.statement.Statement.{Statement}
use Rattle.sql_parse.specs.Symbols.{kinds}
use Rattle.sql_parse.specs.Conditions.{opens_few}
use Rattle.sql_parse.specs.Rules.{after}
use Rattle.sql_parse.specs.Changes as changes
use Rattle.sql_parse.specs.Queries as queries
use Rattle.sql_parse.specs.Grants as grants
use Rattle.sql_parse.specs.RowStatements as rows
use Rattle.sql_parse.specs.TableStatements as tables
use Rattle.sql_parse.specs.UserStatements as users
use Rattle.sql_parse.specs.RightsStatements as rights
use Rattle.sql_parse.specs.PolicyStatements as policies
use Rattle.sql_parse.specs.AuditStatements as audits
use Rattle.sql_parse.specs.CallStatements as calls
use Rattle.sql_parse.specs.Statements as all
use Rattle.sql_parse.specs.Statements.{IsStatement, IsUnread, Reads}
use Rattle.sql_parse_admin.specs.declared.statements.Family.{Family}
use Rattle.sql_parse_admin.specs.declared.statements.Family.TheVariants as family
use Rattle.sql_parse_admin.specs.descent.Families.{IsOf, altered, created, family_of}
use Rattle.sql_parse_admin.specs.descent.Unread as unread
use Rattle.sql_parse_admin.specs.descent.Unread.{HasCode}

-- ---- each family's first words

of_rows : (Inner : List Kind → Expr → List Kind → Type 0) (i o : List Kind) (x : Statement) → rows.RowStatement Inner i x o → family_of i ≡ family.Rows
unfolding family_of
of_rows Inner i o x (rows.selects (queries.select a b c d)) = refl
of_rows Inner i o x (rows.counts (queries.count a b)) = refl
of_rows Inner i o x (rows.inserts (changes.insert a b c)) = refl
of_rows Inner i o x (rows.updates (changes.update a b c)) = refl
of_rows Inner i o x (rows.deletes (changes.delete a b c)) = refl
of_rows Inner i o x (rows.commits a) = refl
of_rows Inner i o x (rows.rolls_back a) = refl

of_table : (i o : List Kind) (x : Statement) → tables.TableStatement i x o → family_of i ≡ family.Table
unfolding family_of created
of_table i o x (tables.creates a b c) = refl

of_user : (text : List ℕ) (ts o : List Token) (x : Statement) → users.UserStatement text ts x o → family_of (kinds ts) ≡ family.User
unfolding family_of created altered
of_user text ts o x (users.creates a b c d e p) = rw (a, b) refl
of_user text ts o x (users.alters a b c d e p) = rw (a, b) refl

of_rights : (i o : List Kind) (x : Statement) → rights.RightsStatement i x o → family_of i ≡ family.Rights
unfolding family_of created
of_rights i o x (rights.drops_table (after (after a))) = refl
of_rights i o x (rights.drops_user (after (after a))) = refl
of_rights i o x (rights.creates_role (after (after a))) = refl
of_rights i o x (rights.drops_role (after (after a))) = refl
of_rights i o x (rights.grants (grants.grant a b c)) = refl
of_rights i o x (rights.grants (grants.revoke a b)) = refl
of_rights i o x (rights.grants (grants.grant_object a b c)) = refl
of_rights i o x (rights.grants (grants.revoke_object a b c)) = refl

of_policy : (i o : List Kind) (x : Statement) → policies.PolicyStatement i x o → family_of i ≡ family.Policy
unfolding family_of created
of_policy i o x (policies.creates a b c d e f) = refl

of_audit : (i o : List Kind) (x : Statement) → audits.AuditStatement i x o → family_of i ≡ family.Audit
unfolding family_of
of_audit i o x (audits.audits a b c) = refl
of_audit i o x (audits.stops_auditing a b) = refl
of_audit i o x (audits.drops a) = refl

of_call : (i o : List Kind) (x : Statement) → calls.CallStatement i x o → family_of i ≡ family.Call
unfolding family_of
of_call i o x (calls.block a) = refl
of_call i o x (calls.calls a) = refl

-- ---- a statement by its family

pub of_family : (text : List ℕ) (ts : List Token) (x : Statement) → IsStatement text ts x → IsOf (family_of (kinds ts)) text ts x
of_family text ts x (all.rows s) = subst (λ (f : Family). IsOf f text ts x) (sym (of_rows _ (kinds ts) s.behind x s.derived)) s
of_family text ts x (all.table s) = subst (λ (f : Family). IsOf f text ts x) (sym (of_table (kinds ts) s.behind x s.derived)) s
of_family text ts x (all.user s) = subst (λ (f : Family). IsOf f text ts x) (sym (of_user text ts s.behind x s.derived)) s
of_family text ts x (all.rights s) = subst (λ (f : Family). IsOf f text ts x) (sym (of_rights (kinds ts) s.behind x s.derived)) s
of_family text ts x (all.policy s) = subst (λ (f : Family). IsOf f text ts x) (sym (of_policy (kinds ts) s.behind x s.derived)) s
of_family text ts x (all.audit s) = subst (λ (f : Family). IsOf f text ts x) (sym (of_audit (kinds ts) s.behind x s.derived)) s
of_family text ts x (all.call s) = subst (λ (f : Family). IsOf f text ts x) (sym (of_call (kinds ts) s.behind x s.derived)) s

pub is_statement : (f : Family) (text : List ℕ) (ts : List Token) (x : Statement) → IsOf f text ts x → IsStatement text ts x
is_statement family.Rows text ts x s = all.rows s
is_statement family.Table text ts x s = all.table s
is_statement family.User text ts x s = all.user s
is_statement family.Rights text ts x s = all.rights s
is_statement family.Policy text ts x s = all.policy s
is_statement family.Audit text ts x s = all.audit s
is_statement family.Call text ts x s = all.call s

-- what is found of the family is found of all
pub found_of_all : (text : List ℕ) (ts : List Token) (found : Option Statement) → MatchOption found ((x : Statement) → IsOf (family_of (kinds ts)) text ts x → ⊥) (IsOf (family_of (kinds ts)) text ts)
    → MatchOption found ((x : Statement) → IsStatement text ts x → ⊥) (IsStatement text ts)
found_of_all text ts None none = λ x s. none x (of_family text ts x s)
found_of_all text ts (Some x) s = is_statement (family_of (kinds ts)) text ts x s

few : (text : List ℕ) (ts : List Token) (x : Statement) → IsStatement text ts x → opens_few 0 (kinds ts) ≡ true
few text ts x (all.rows s) = s.few
few text ts x (all.table s) = s.few
few text ts x (all.user s) = s.few
few text ts x (all.rights s) = s.few
few text ts x (all.policy s) = s.few
few text ts x (all.audit s) = s.few
few text ts x (all.call s) = s.few

-- ---- texts

abbrev pub OneCut : List ℕ → Type 0
OneCut text = (ts us : List Token) → AreTokens text ts → AreTokens text us → ts ≡ us

abbrev pub OneStatement : Type 0
OneStatement = (text : List ℕ) (ts : List Token) (x y : Statement) → IsStatement text ts x → IsStatement text ts y → x ≡ y

-- what the one list of tokens is, the text is
pub of_text : (text : List ℕ) (ts : List Token) (found : Result Statement Code) → length text ≤ STATEMENT_BYTES → AreTokens text ts
    → MatchResult found (IsStatement text ts) (HasCode text ts) → MatchResult found (Reads text) (IsUnread text)
of_text text ts (Ok x) short cut s = record { short = short; tokens = ts; cut = cut; statement = s }
of_text text ts (Err c) short cut (unread.too_deep deep) = all.too_deep short cut deep
of_text text ts (Err c) short cut (unread.no_statement few none) = all.no_statement short cut few none

pub one_text : OneStatement → (text : List ℕ) → OneCut text → (x y : Statement) → Reads text x → Reads text y → x ≡ y
one_text one text cut x y r s =
    one text s.tokens x y (subst (λ (ts : List Token). IsStatement text ts x) (cut r.tokens s.tokens r.cut s.cut) r.statement) s.statement

pub read_apart : (text : List ℕ) → OneCut text → (x : Statement) (c : Code) → Reads text x → IsUnread text c → ⊥
read_apart text cut x c r (all.too_long long) = let short = r.short in omega arith
read_apart text cut x c r (all.no_tokens short none) = none r.tokens r.cut
read_apart text cut x c r (all.too_deep {ts = ts} short at deep) =
    let same = cut r.tokens ts r.cut at in
    let f : opens_few 0 (kinds ts) ≡ true = subst (λ (us : List Token). opens_few 0 (kinds us) ≡ true) same (few text r.tokens x r.statement) in cc
read_apart text cut x c r (all.no_statement {ts = ts} short at f none) =
    none x (subst (λ (us : List Token). IsStatement text us x) (cut r.tokens ts r.cut at) r.statement)

clash : (text : List ℕ) → STATEMENT_BYTES < length text → length text ≤ STATEMENT_BYTES → ⊥
clash text long short = omega arith

depths : (text : List ℕ) (ts us : List Token) → OneCut text → AreTokens text ts → AreTokens text us → opens_few 0 (kinds ts) ≡ false → opens_few 0 (kinds us) ≡ true → ⊥
depths text ts us cut at too deep f =
    let same = cut ts us at too in
    let g : opens_few 0 (kinds us) ≡ false = subst (λ (vs : List Token). opens_few 0 (kinds vs) ≡ false) same deep in cc

pub one_code : (text : List ℕ) → OneCut text → (a b : Code) → IsUnread text a → IsUnread text b → a ≡ b
one_code text cut a b (all.too_long long) (all.too_long also) = refl
one_code text cut a b (all.too_long long) (all.no_tokens short none) = absurd (clash text long short)
one_code text cut a b (all.too_long long) (all.too_deep short at deep) = absurd (clash text long short)
one_code text cut a b (all.too_long long) (all.no_statement short at f none) = absurd (clash text long short)
one_code text cut a b (all.no_tokens short none) (all.too_long long) = absurd (clash text long short)
one_code text cut a b (all.no_tokens short none) (all.no_tokens also nor) = refl
one_code text cut a b (all.no_tokens short none) (all.too_deep {ts = ts} also at deep) = absurd (none ts at)
one_code text cut a b (all.no_tokens short none) (all.no_statement also at f nor) = refl
one_code text cut a b (all.too_deep short at deep) (all.too_long long) = absurd (clash text long short)
one_code text cut a b (all.too_deep {ts = ts} short at deep) (all.no_tokens also none) = absurd (none ts at)
one_code text cut a b (all.too_deep short at deep) (all.too_deep also too deeper) = refl
one_code text cut a b (all.too_deep {ts = ts} short at deep) (all.no_statement {ts = us} also too f none) = absurd (depths text ts us cut at too deep f)
one_code text cut a b (all.no_statement short at f none) (all.too_long long) = absurd (clash text long short)
one_code text cut a b (all.no_statement short at f none) (all.no_tokens also nor) = refl
one_code text cut a b (all.no_statement {ts = us} short at f none) (all.too_deep {ts = ts} also too deep) = absurd (depths text ts us cut too at deep f)
one_code text cut a b (all.no_statement short at f none) (all.no_statement also too g nor) = refl
