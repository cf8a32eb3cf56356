-- The grammar of names, tables and their aliases (SQL Language Reference, "Database Object Names and Qualifiers" and
-- "SELECT"; the choice of rules is this project's profile).
use Rattle.std.specs.Prelude.{ℕ, List, ◌∷◌, Option, Some, None}
use Rattle.au_base.specs.declared.table.TableReference.{TableReference}
use Rattle.sql_lex.specs.declared.token.Kind.{Kind}
use Rattle.sql_ast.specs.declared.query.AliasedTable.{AliasedTable}
use Rattle.sql_parse.specs.Symbols.{dot}
use Rattle.sql_parse.specs.Rules.{Optional}
use Rattle.sql_parse.specs.Expressions.{IsName}

-- a quoted name, or a word that isn't reserved
pub data Name : List Kind → List ℕ → List Kind → Type 0 where
  name : {k : Kind} {n : List ℕ} {o : List Kind} → IsName k n → Name (k ∷ o) n o

-- [name .] name
pub data Qualified : List Kind → Option (List ℕ) × List ℕ → List Kind → Type 0 where
  bare : {i o : List Kind} {n : List ℕ} → Name i n o → Qualified i (None, n) o
  qualified : {i m o : List Kind} {t n : List ℕ} → Name i t (dot ∷ m) → Name m n o → Qualified i (Some t, n) o

-- the qualifier is the owner
abbrev pub table_of : Option (List ℕ) × List ℕ → TableReference
table_of q = record { owner = q.0; name = q.1 }

-- table = [name .] name
pub data Table : List Kind → TableReference → List Kind → Type 0 where
  table : {i o : List Kind} {q : Option (List ℕ) × List ℕ} → Qualified i q o → Table i (table_of q) o

-- tref = table [name]
pub data Aliased : List Kind → AliasedTable → List Kind → Type 0 where
  aliased : {i m o : List Kind} {t : TableReference} {a : Option (List ℕ)} → Table i t m → Optional Name m a o → Aliased i (record { table = t; alias = a }) o
