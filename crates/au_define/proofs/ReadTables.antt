-- Statements that are read are well-formed.
use Rattle.std.proofs.Common.{◌≤◌, ℕ, List, length, refl, arith}
use Rattle.std.specs.List.{AllByRecursion}
use Rattle.au_base.specs.declared.table.ColumnKind.{ColumnKind}
use Rattle.au_define.specs.Deciding.{IsSized, IsWellFormed}
use Rattle.au_entries.specs.Replaying.{IsSizeOf}
use Rattle.sql_ast.specs.declared.expression.Expr.{Expr}
use Rattle.sql_ast.specs.declared.statement.Statement.{Statement}
use Rattle.sql_ast.specs.declared.table.Element.{Element}
use Rattle.sql_lex.specs.declared.token.Kind.{Kind}
use Rattle.sql_lex.specs.declared.token.Token.{Token}
use Rattle.sql_parse.specs.AuditStatements as audits
use Rattle.sql_parse.specs.CallStatements as calls
use Rattle.sql_parse.specs.Changes as changes
use Rattle.sql_parse.specs.Grants as grants
use Rattle.sql_parse.specs.PolicyStatements as policies
use Rattle.sql_parse.specs.Queries as queries
use Rattle.sql_parse.specs.RightsStatements as rights
use Rattle.sql_parse.specs.RowStatements as rows
use Rattle.sql_parse.specs.Rules as rules
use Rattle.sql_parse.specs.Rules.{Parted, after}
use Rattle.sql_parse.specs.Statements as all
use Rattle.sql_parse.specs.Statements.{IsStatement, Reads}
use Rattle.sql_parse.specs.Tables.{Name}
use Rattle.sql_parse.specs.TableStatements as tables
use Rattle.sql_parse.specs.UserStatements as users

of_type : (i o : List Kind) (t : ColumnKind × ℕ) → tables.IsType i t o → IsSizeOf t.0 t.1
of_type i o t tables.number = (omega arith, omega arith)
of_type i o t (tables.digits least most) = (least, most)
of_type i o t (tables.text least most byte) = (least, most)
of_type i o t tables.moment = refl
of_type i o t tables.microseconds = refl

some_parted : {A : Type 0} (k : Kind) (Item : List Kind → A → List Kind → Type 0) (i o : List Kind) (xs : List A) → Parted k Item i xs o → 1 ≤ length xs
some_parted k Item i o xs (rules.parted first rest) = omega arith

of_element : (i o : List Kind) (one : Element) → tables.IsElement i one o → IsSized one
of_element i o one (tables.column called kind null primary) = of_type _ _ _ kind
of_element i o one (tables.key listed) = some_parted _ Name _ _ _ listed

of_many : (k : Kind) (i o : List Kind) (elements : List Element) → rules.Many (rules.After k tables.IsElement) i elements o → AllByRecursion IsSized elements
of_many k i o elements rules.none = tt
of_many k i o elements (rules.more (after first) rest) = (of_element _ _ _ first, of_many k _ _ _ rest)

of_elements : (k : Kind) (i o : List Kind) (elements : List Element) → Parted k tables.IsElement i elements o → AllByRecursion IsSized elements
of_elements k i o elements (rules.parted first rest) = (of_element _ _ _ first, of_many k _ _ _ rest)

of_rows : (Inner : List Kind → Expr → List Kind → Type 0) (i o : List Kind) (x : Statement) → rows.RowStatement Inner i x o → IsWellFormed x
of_rows Inner i o x (rows.selects (queries.select a b c d)) = tt
of_rows Inner i o x (rows.counts (queries.count a b)) = tt
of_rows Inner i o x (rows.inserts (changes.insert a b c)) = tt
of_rows Inner i o x (rows.updates (changes.update a b c)) = tt
of_rows Inner i o x (rows.deletes (changes.delete a b c)) = tt
of_rows Inner i o x (rows.commits a) = tt
of_rows Inner i o x (rows.rolls_back a) = tt

of_table : (i o : List Kind) (x : Statement) → tables.TableStatement i x o → IsWellFormed x
of_table i o x (tables.creates called elements column) = (some_parted _ tables.IsElement _ _ _ elements, of_elements _ _ _ _ elements)

of_user : (text : List ℕ) (ts o : List Token) (x : Statement) → users.UserStatement text ts x o → IsWellFormed x
of_user text ts o x (users.creates a b c d e p) = tt
of_user text ts o x (users.alters a b c d e p) = tt

of_rights : (i o : List Kind) (x : Statement) → rights.RightsStatement i x o → IsWellFormed x
of_rights i o x (rights.drops_table (after a)) = tt
of_rights i o x (rights.drops_user (after a)) = tt
of_rights i o x (rights.creates_role (after a)) = tt
of_rights i o x (rights.drops_role (after a)) = tt
of_rights i o x (rights.grants (grants.grant a b c)) = tt
of_rights i o x (rights.grants (grants.revoke a b)) = tt
of_rights i o x (rights.grants (grants.grant_object a b c)) = tt
of_rights i o x (rights.grants (grants.revoke_object a b c)) = tt

of_policy : (i o : List Kind) (x : Statement) → policies.PolicyStatement i x o → IsWellFormed x
of_policy i o x (policies.creates a b c d e f) = tt

of_audit : (i o : List Kind) (x : Statement) → audits.AuditStatement i x o → IsWellFormed x
of_audit i o x (audits.audits a b c) = tt
of_audit i o x (audits.stops_auditing a b) = tt
of_audit i o x (audits.drops a) = tt

of_call : (i o : List Kind) (x : Statement) → calls.CallStatement i x o → IsWellFormed x
of_call i o x (calls.block a) = tt
of_call i o x (calls.calls a) = tt

of_statement : (text : List ℕ) (ts : List Token) (x : Statement) → IsStatement text ts x → IsWellFormed x
of_statement text ts x (all.rows s) = of_rows _ _ s.behind x s.derived
of_statement text ts x (all.table s) = of_table _ s.behind x s.derived
of_statement text ts x (all.user s) = of_user text ts s.behind x s.derived
of_statement text ts x (all.rights s) = of_rights _ s.behind x s.derived
of_statement text ts x (all.policy s) = of_policy _ s.behind x s.derived
of_statement text ts x (all.audit s) = of_audit _ s.behind x s.derived
of_statement text ts x (all.call s) = of_call _ s.behind x s.derived

pub well_formed : (text : List ℕ) (x : Statement) → Reads text x → IsWellFormed x
well_formed text x reads = of_statement text reads.tokens x reads.statement
