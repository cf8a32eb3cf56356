-- Reading CREATE TABLE by descent: what each function of the code answers.
use Rattle.std.specs.Prelude.{ℕ, ℤ, pos, negsuc, Bool, true, false, nat_le, ◌&&◌, if◌then◌else◌, List, [], ◌∷◌, Option, Some, None, codes}
use Rattle.std.specs.List.{list_any}
use Rattle.au_base.specs.Limits.{MOMENT_DIGITS, NUMBER_DIGITS, TEXT_COLUMN_BYTES}
use Rattle.au_base.specs.declared.table.ColumnKind.{ColumnKind}
use Rattle.au_base.specs.declared.table.ColumnKind.TheVariants as column_kind
use Rattle.au_base.specs.declared.table.TableReference.{TableReference}
use Rattle.sql_lex.specs.declared.token.Kind.{Kind}
use Rattle.sql_lex.specs.declared.token.Kind.TheVariants.{Word, Number}
use Rattle.sql_ast.specs.declared.statement.Statement.{Statement}
use Rattle.sql_ast.specs.declared.statement.Statement.TheVariants as statement
use Rattle.sql_ast.specs.declared.table.Element.{Element}
use Rattle.sql_ast.specs.declared.table.Element.TheVariants as element
use Rattle.sql_parse.specs.Symbols.{sees, opening, closing, comma}
use Rattle.sql_parse.specs.descent.Reading.{Reader, ◌>>=◌, under, behind, expect, parted, name}
use Rattle.sql_parse.specs.descent.ReadTables.{closed, names, past, table}
use Rattle.sql_parse.specs.TableStatements.{is_column}

-- the number, if it is one of these
abbrev pub within : ℕ → ℕ → ℤ → Option ℕ
within least most (pos n) = if nat_le least n && nat_le n most then Some n else None
within least most (negsuc n) = None

abbrev pub size_of : ℕ → ℕ → Kind → Option ℕ
size_of least most (Number z) = within least most z
size_of least most _ = None

-- one of these numbers
unfoldable pub size : ℕ → ℕ → Reader ℕ
size least most [] = None
size least most (k ∷ o) = size_of least most k >>= λ n. Some (n, o)

-- one of these numbers in parentheses, or nothing
unfoldable pub size_or_most : ℕ → ℕ → Reader ℕ
size_or_most least most i = if sees opening i then closed (size least most) (behind i) else Some (most, i)

-- behind VARCHAR2
unfoldable pub bytes : Reader ℕ
bytes i = expect opening i >>= λ j. size 1 TEXT_COLUMN_BYTES j >>= λ n. expect closing (past (Word (codes "BYTE")) n.1) >>= λ o. Some (n.0, o)

abbrev pub of_kind : ColumnKind → ℕ → ColumnKind × ℕ
of_kind k n = (k, n)

unfoldable pub column_type : Reader (ColumnKind × ℕ)
column_type i =
    if sees (Word (codes "NUMBER")) i then under (of_kind column_kind.Number) (size_or_most 1 NUMBER_DIGITS (behind i))
    else (if sees (Word (codes "VARCHAR2")) i then under (of_kind column_kind.Text) (bytes (behind i))
    else (if sees (Word (codes "TIMESTAMP")) i then under (of_kind column_kind.Moment) (size_or_most MOMENT_DIGITS MOMENT_DIGITS (behind i)) else None))

-- both words or nothing, and whether they stand there
unfoldable pub both : List ℕ → List ℕ → Reader Bool
both first second i = if sees (Word first) i then (expect (Word second) (behind i) >>= λ o. Some (true, o)) else Some (false, i)

abbrev pub not_null : Reader Bool
not_null = both (codes "NOT") (codes "NULL")

abbrev pub primary_key : Reader Bool
primary_key = both (codes "PRIMARY") (codes "KEY")

abbrev pub column_of : List ℕ → ColumnKind × ℕ → Bool → Bool → Element
column_of n t b k = element.Column (record { name = n; kind = t.0; size = t.1; not_null = b }) k

unfoldable pub column : Reader Element
column i = name i >>= λ n. column_type n.1 >>= λ t. not_null t.1 >>= λ b. under (column_of n.0 t.0 b.0) (primary_key b.1)

-- behind PRIMARY
unfoldable pub key : Reader Element
key i = expect (Word (codes "KEY")) i >>= λ j. expect opening j >>= λ k. under element.PrimaryKey (closed names k)

unfoldable pub element_at : Reader Element
element_at i = if sees (Word (codes "PRIMARY")) i then key (behind i) else column i

unfoldable pub elements : Reader (List Element)
elements = parted comma element_at

-- the statement, if one of the elements is a column
abbrev pub made : TableReference → List Element × List Kind → Option (Statement × List Kind)
made t es = if list_any is_column es.0 then Some (statement.CreateTable (record { table = t; elements = es.0 }), es.1) else None

unfoldable pub table_statement : Reader Statement
table_statement i =
    expect (Word (codes "CREATE")) i >>= λ j. expect (Word (codes "TABLE")) j >>= λ k. table k >>= λ t. expect opening t.1 >>= λ m. closed elements m >>= λ es. made t.0 es
