-- Rows of a table that can't take part in what a statement does, so that it does the same without them.
use Rattle.std.specs.Prelude.{◌≡◌, ◌⊎◌, ℕ, Bool, IsTrue, List, [], ◌∷◌, map, filter, Some}
use Rattle.std.specs.List.{AllByRecursion, AllZip, Contains, enumerate_from, slice_get}
use Rattle.au_base.specs.declared.numbers.RowNo.{RowNo}
use Rattle.au_base.specs.declared.table.TableName.{TableName}
use Rattle.au_expr.specs.declared.placed.Placed.{Placed}
use Rattle.au_expr.specs.Sessions.{Session}
use Rattle.au_query.specs.Combos.{IsSoundLine, Line, overflows, passes}
use Rattle.au_query.specs.Counts.{passing_rows}
use Rattle.au_world.specs.Selecting.{Seen}

-- The table stands at this place of FROM alone. Of its rows only those with some numbers are left, and the row of a
-- combination over which each condition is Yes is one of these.
pub record IsCut (session : Session) (conditions : List Placed) (names : List TableName) (place : ℕ) (whole part : Seen) : Type 0 where
  pub keeps : RowNo → Bool
  pub table : part.0 ≡ whole.0
  pub rows : part.1 ≡ filter (λ (line : Line). keeps line.0) whole.1
  pub passing : (combo : List Line) (line : Line) → IsTrue (passes session conditions combo) → slice_get combo place ≡ Some line → Contains whole.1 line → IsTrue (keeps line.0)
  pub alone : (other : ℕ) → slice_get names other ≡ Some whole.0 → other ≡ place

-- a table of FROM as it is seen, or without rows that can't take part
abbrev pub IsPart : Session → List Placed → List TableName → ℕ × Seen → Seen → Type 0
IsPart session conditions names p part = (part ≡ p.1) ⊎ IsCut session conditions names p.0 p.1 part

abbrev pub names_of : List Seen → List TableName
names_of seen = map (λ (table : Seen). table.0) seen

-- each table of FROM is so
abbrev pub AreParts : Session → List Placed → List Seen → List Seen → Type 0
AreParts session conditions seen parts = AllZip (IsPart session conditions (names_of seen)) (enumerate_from 0 seen) parts

-- Rows of a table that suffice for conditions over it alone: these are Yes over the same rows of them as of the whole table,
-- and overflow over one of them where they do over one of the whole table. Each has cells that a row may have, and is one
-- of the whole table.
pub record Suffices (session : Session) (conditions : List Placed) (whole rows : List Line) : Type 0 where
  pub passing : passing_rows session conditions rows ≡ passing_rows session conditions whole
  pub overflowing : overflows session conditions (rows ∷ []) ≡ overflows session conditions (whole ∷ [])
  pub sound : AllByRecursion IsSoundLine rows
  pub seen : (line : Line) → Contains rows line → Contains whole line
