-- The grammar of queries, rule by rule (SQL Language Reference, "SELECT"; the choice of rules is this project's profile).
use Rattle.std.specs.Prelude.{ℕ, Bool, true, false, List, ◌∷◌, Option, Some, None, codes}
use Rattle.sql_lex.specs.declared.token.Kind.{Kind}
use Rattle.sql_lex.specs.declared.token.Kind.TheVariants.{Word}
use Rattle.sql_ast.specs.declared.expression.Expr.{Expr}
use Rattle.sql_ast.specs.declared.query.AliasedTable.{AliasedTable}
use Rattle.sql_ast.specs.declared.query.Count.{Count}
use Rattle.sql_ast.specs.declared.query.FromClause.{FromClause}
use Rattle.sql_ast.specs.declared.query.Item.{Item}
use Rattle.sql_ast.specs.declared.query.Items.{Items}
use Rattle.sql_ast.specs.declared.query.Items.TheVariants as items
use Rattle.sql_ast.specs.declared.query.Join.{Join}
use Rattle.sql_ast.specs.declared.query.Select.{Select}
use Rattle.sql_ast.specs.declared.query.SortKey.{SortKey}
use Rattle.sql_parse.specs.Symbols.{opening, closing, star, comma}
use Rattle.sql_parse.specs.Rules.{After, Many, Maybe, Optional, Parted}
use Rattle.sql_parse.specs.Expressions.{Sum, Cond}
use Rattle.sql_parse.specs.Tables.{Name, Qualified, Aliased}
use Rattle.sql_parse.specs.Changes.{Where}

-- [ASC | DESC], and whether it is DESC
pub data Direction : List Kind → Bool → List Kind → Type 0 where
  plain : {o : List Kind} → Direction o false o
  ascending : {o : List Kind} → Direction (Word (codes "ASC") ∷ o) false o
  descending : {o : List Kind} → Direction (Word (codes "DESC") ∷ o) true o

-- order = column [ASC | DESC]
pub data Order : List Kind → SortKey → List Kind → Type 0 where
  order : {i m o : List Kind} {q : Option (List ℕ) × List ℕ} {d : Bool} → Qualified i q m → Direction m d o → Order i (record { table = q.0; column = q.1; descending = d }) o

-- ORDER BY order {, order}
abbrev pub OrderBy : List Kind → List SortKey → List Kind → Type 0
OrderBy = After (Word (codes "ORDER")) (After (Word (codes "BY")) (Parted comma Order))

-- `Inner` is the rule of a condition within parentheses.
module _ (Inner : List Kind → Expr → List Kind → Type 0) where
  -- item = sum [[AS] name]
  pub data IsItem : List Kind → Item → List Kind → Type 0 where
    plain : {i o : List Kind} {x : Expr} → Sum Inner i x o → IsItem i (record { value = x; alias = None }) o
    called : {i m n o : List Kind} {x : Expr} {a : List ℕ} → Sum Inner i x m → Maybe (Word (codes "AS")) m n → Name n a o → IsItem i (record { value = x; alias = Some a }) o

  -- items = * | item {, item}
  pub data AreItems : List Kind → Items → List Kind → Type 0 where
    all : {o : List Kind} → AreItems (star ∷ o) items.All o
    listed : {i o : List Kind} {xs : List Item} → Parted comma IsItem i xs o → AreItems i (items.Listed xs) o

  -- a further table: , tref | [INNER] JOIN tref ON cond
  pub data Further : List Kind → Join → List Kind → Type 0 where
    another : {i o : List Kind} {t : AliasedTable} → Aliased i t o → Further (comma ∷ i) (record { table = t; on = None }) o
    joins : {i j m o : List Kind} {t : AliasedTable} {x : Expr} → Maybe (Word (codes "INNER")) i (Word (codes "JOIN") ∷ j) → Aliased j t (Word (codes "ON") ∷ m) → Cond Inner m x o
        → Further i (record { table = t; on = Some x }) o

  -- from = tref {, tref | [INNER] JOIN tref ON cond}
  pub data Tables : List Kind → FromClause → List Kind → Type 0 where
    tables : {i m o : List Kind} {t : AliasedTable} {ts : List Join} → Aliased i t m → Many Further m ts o → Tables i (record { first = t; joins = ts }) o

  -- Select = SELECT items FROM from [WHERE cond] [ORDER BY order {, order}]
  pub data IsSelect : List Kind → Select → List Kind → Type 0 where
    select : {i j m n o : List Kind} {xs : Items} {f : FromClause} {c : Option Expr} {s : Option (List SortKey)}
        → AreItems i xs (Word (codes "FROM") ∷ j) → Tables j f m → Where Inner m c n → Optional OrderBy n s o
        → IsSelect (Word (codes "SELECT") ∷ i) (record { items = xs; from = f; condition = c; order = s }) o

  -- Count = SELECT COUNT ( * ) FROM tref [WHERE cond]
  pub data IsCount : List Kind → Count → List Kind → Type 0 where
    count : {i m o : List Kind} {t : AliasedTable} {c : Option Expr}
        → Aliased i t m → Where Inner m c o
        → IsCount (Word (codes "SELECT") ∷ Word (codes "COUNT") ∷ opening ∷ star ∷ closing ∷ Word (codes "FROM") ∷ i) (record { table = t; condition = c }) o
