-- Reading names, tables and their aliases by descent: what each function of the code answers.
use Rattle.std.specs.Prelude.{ℕ, if◌then◌else◌, List, Option, Some, None}
use Rattle.au_base.specs.declared.table.TableReference.{TableReference}
use Rattle.sql_lex.specs.declared.token.Kind.{Kind}
use Rattle.sql_ast.specs.declared.query.AliasedTable.{AliasedTable}
use Rattle.sql_parse.specs.Symbols.{sees, closing, comma, dot}
use Rattle.sql_parse.specs.descent.Reading.{Reader, ◌>>=◌, under, behind, expect, parted, name}
use Rattle.sql_parse.specs.Tables.{table_of}

-- past the token, if it comes next
abbrev pub past : Kind → List Kind → List Kind
past k i = if sees k i then behind i else i

-- what follows the token, if that comes next
abbrev pub clause : {A : Type 0} → Kind → Reader A → Reader (Option A)
clause k item i = if sees k i then under (λ x. Some x) (item (behind i)) else Some (None, i)

-- what is read, and then the closing parenthesis
abbrev pub closed : {A : Type 0} → Reader A → Reader A
closed item i = item i >>= λ x. expect closing x.1 >>= λ o. Some (x.0, o)

-- what was read, or nothing where nothing was
abbrev pub or_absent : {A : Type 0} → List Kind → Option (A × List Kind) → Option (Option A × List Kind)
or_absent i None = Some (None, i)
or_absent i (Some x) = Some (Some x.0, x.1)

-- a name, if one comes next
abbrev pub alias : Reader (Option (List ℕ))
alias i = or_absent i (name i)

unfoldable pub names : Reader (List (List ℕ))
names = parted comma name

unfoldable pub qualified : Reader (Option (List ℕ) × List ℕ)
qualified i = name i >>= λ n. if sees dot n.1 then under (λ m. (Some n.0, m)) (name (behind n.1)) else Some ((None, n.0), n.1)

unfoldable pub table : Reader TableReference
table i = under table_of (qualified i)

unfoldable pub aliased : Reader AliasedTable
aliased i = table i >>= λ t. under (λ a. record { table = t.0; alias = a }) (alias t.1)
