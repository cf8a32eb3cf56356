-- What a statement CREATE TABLE is (SQL Language Reference, "CREATE TABLE"; the choice of rules is this project's profile).
use Rattle.std.specs.Prelude.{◌≡◌, ℕ, ◌≤◌, pos, Bool, true, false, List, ◌∷◌, codes}
use Rattle.std.specs.List.{list_any}
use Rattle.au_base.specs.declared.table.ColumnKind.{ColumnKind}
use Rattle.au_base.specs.declared.table.ColumnKind.TheVariants as column_kind
use Rattle.au_base.specs.declared.table.TableReference.{TableReference}
use Rattle.au_base.specs.Limits.{MOMENT_DIGITS, NUMBER_DIGITS, TEXT_COLUMN_BYTES}
use Rattle.sql_lex.specs.declared.token.Kind.{Kind}
use Rattle.sql_lex.specs.declared.token.Kind.TheVariants.{Word, Number}
use Rattle.sql_ast.specs.declared.statement.Statement.{Statement}
use Rattle.sql_ast.specs.declared.statement.Statement.TheVariants as statement
use Rattle.sql_ast.specs.declared.table.Element.{Element}
use Rattle.sql_ast.specs.declared.table.Element.TheVariants as element
use Rattle.sql_parse.specs.Symbols.{opening, closing, comma}
use Rattle.sql_parse.specs.Rules.{Maybe, Parted}
use Rattle.sql_parse.specs.Tables.{Name, Table}
use Rattle.sql_parse.specs.Grants.{Names}
use Rattle.sql_parse.specs.Whole.{WholeOf}

-- type = NUMBER [( p )] | VARCHAR2 ( n [BYTE] ) | TIMESTAMP [( 6 )], as a kind and a size: p is 1 to 18, and 18 where it
-- isn't written; n is 1 to 4000
pub data IsType : List Kind → ColumnKind × ℕ → List Kind → Type 0 where
  number : {o : List Kind} → IsType (Word (codes "NUMBER") ∷ o) (column_kind.Number, NUMBER_DIGITS) o
  digits : {p : ℕ} {o : List Kind} → 1 ≤ p → p ≤ NUMBER_DIGITS → IsType (Word (codes "NUMBER") ∷ opening ∷ Number (pos p) ∷ closing ∷ o) (column_kind.Number, p) o
  text : {n : ℕ} {i o : List Kind} → 1 ≤ n → n ≤ TEXT_COLUMN_BYTES → Maybe (Word (codes "BYTE")) i (closing ∷ o) → IsType (Word (codes "VARCHAR2") ∷ opening ∷ Number (pos n) ∷ i) (column_kind.Text, n) o
  moment : {o : List Kind} → IsType (Word (codes "TIMESTAMP") ∷ o) (column_kind.Moment, MOMENT_DIGITS) o
  microseconds : {o : List Kind} → IsType (Word (codes "TIMESTAMP") ∷ opening ∷ Number (pos MOMENT_DIGITS) ∷ closing ∷ o) (column_kind.Moment, MOMENT_DIGITS) o

-- [NOT NULL], and whether it stands there
pub data NotNull : List Kind → Bool → List Kind → Type 0 where
  nullable : {o : List Kind} → NotNull o false o
  not_null : {o : List Kind} → NotNull (Word (codes "NOT") ∷ Word (codes "NULL") ∷ o) true o

-- [PRIMARY KEY], and whether it stands there
pub data PrimaryKey : List Kind → Bool → List Kind → Type 0 where
  no_key : {o : List Kind} → PrimaryKey o false o
  key : {o : List Kind} → PrimaryKey (Word (codes "PRIMARY") ∷ Word (codes "KEY") ∷ o) true o

-- element = name type [NOT NULL] [PRIMARY KEY] | PRIMARY KEY ( name {, name} )
pub data IsElement : List Kind → Element → List Kind → Type 0 where
  column : {i j m n o : List Kind} {c : List ℕ} {t : ColumnKind × ℕ} {b k : Bool} → Name i c j → IsType j t m → NotNull m b n → PrimaryKey n k o
      → IsElement i (element.Column (record { name = c; kind = t.0; size = t.1; not_null = b }) k) o
  key : {i o : List Kind} {ns : List (List ℕ)} → Names i ns (closing ∷ o) → IsElement (Word (codes "PRIMARY") ∷ Word (codes "KEY") ∷ opening ∷ i) (element.PrimaryKey ns) o

-- whether the element is a column, and no list of key columns
abbrev pub is_column : Element → Bool
is_column (element.Column c k) = true
is_column (element.PrimaryKey ns) = false

-- CreateTable = CREATE TABLE table ( element {, element} ), at least one of them a column
pub data TableStatement : List Kind → Statement → List Kind → Type 0 where
  creates : {i j o : List Kind} {t : TableReference} {es : List Element} → Table i t (opening ∷ j) → Parted comma IsElement j es (closing ∷ o) → list_any is_column es ≡ true
      → TableStatement (Word (codes "CREATE") ∷ Word (codes "TABLE") ∷ i) (statement.CreateTable (record { table = t; elements = es })) o

-- the tokens are this statement, with `;` behind it or without
abbrev pub IsTableStatement : List Kind → Statement → Type 0
IsTableStatement = WholeOf TableStatement
