-- The grammar of the statements that change rows, rule by rule (SQL Language Reference, "INSERT", "UPDATE" and "DELETE";
-- the choice of rules is this project's profile).
use Rattle.std.specs.Prelude.{ℕ, List, ◌∷◌, Option, codes}
use Rattle.au_base.specs.declared.table.TableReference.{TableReference}
use Rattle.sql_lex.specs.declared.token.Kind.{Kind}
use Rattle.sql_lex.specs.declared.token.Kind.TheVariants.{Word}
use Rattle.sql_ast.specs.declared.expression.Expr.{Expr}
use Rattle.sql_ast.specs.declared.rows.Assignment.{Assignment}
use Rattle.sql_ast.specs.declared.rows.Delete.{Delete}
use Rattle.sql_ast.specs.declared.rows.Insert.{Insert}
use Rattle.sql_ast.specs.declared.rows.Update.{Update}
use Rattle.sql_parse.specs.Symbols.{opening, closing, comma, equal}
use Rattle.sql_parse.specs.Rules.{After, Before, Maybe, Optional, Parted}
use Rattle.sql_parse.specs.Expressions.{Sum, Cond}
use Rattle.sql_parse.specs.Tables.{Name, Table}

-- ( x {, x} )
abbrev pub Parenthesized : {A : Type 0} → (List Kind → A → List Kind → Type 0) → List Kind → List A → List Kind → Type 0
Parenthesized Item = After opening (Before closing (Parted comma Item))

-- `Inner` is the rule of a condition within parentheses.
module _ (Inner : List Kind → Expr → List Kind → Type 0) where
  -- [WHERE cond]
  abbrev pub Where : List Kind → Option Expr → List Kind → Type 0
  Where = Optional (After (Word (codes "WHERE")) (Cond Inner))

  -- Insert = INSERT INTO table [( name {, name} )] VALUES ( sum {, sum} )
  pub data IsInsert : List Kind → Insert → List Kind → Type 0 where
    insert : {i j m o : List Kind} {t : TableReference} {ns : Option (List (List ℕ))} {xs : List Expr}
        → Table i t j → Optional (Parenthesized Name) j ns (Word (codes "VALUES") ∷ m) → Parenthesized (Sum Inner) m xs o
        → IsInsert (Word (codes "INSERT") ∷ Word (codes "INTO") ∷ i) (record { table = t; columns = ns; values = xs }) o

  -- name = sum
  pub data Assigns : List Kind → Assignment → List Kind → Type 0 where
    assigns : {i j o : List Kind} {n : List ℕ} {x : Expr} → Name i n (equal ∷ j) → Sum Inner j x o → Assigns i (record { column = n; value = x }) o

  -- Update = UPDATE table SET name = sum {, name = sum} [WHERE cond]
  pub data IsUpdate : List Kind → Update → List Kind → Type 0 where
    update : {i j m o : List Kind} {t : TableReference} {xs : List Assignment} {c : Option Expr}
        → Table i t (Word (codes "SET") ∷ j) → Parted comma Assigns j xs m → Where m c o
        → IsUpdate (Word (codes "UPDATE") ∷ i) (record { table = t; assignments = xs; condition = c }) o

  -- Delete = DELETE [FROM] table [WHERE cond]
  pub data IsDelete : List Kind → Delete → List Kind → Type 0 where
    delete : {i j m o : List Kind} {t : TableReference} {c : Option Expr}
        → Maybe (Word (codes "FROM")) i j → Table j t m → Where m c o → IsDelete (Word (codes "DELETE") ∷ i) (record { table = t; condition = c }) o
