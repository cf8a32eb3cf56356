-- Tests of rows that are lent.
use Rattle.std.specs.Prelude.{◌≡◌, ◌≤◌, Bool, true, false, ◌&&◌, ℕ, List, [], ◌∷◌, length}
use Rattle.std.specs.Borrow.{Bor}
use Rattle.std.specs.List.{list_any}
use Rattle.std.specs.List.Sorted.{IsPartitionPoint}
use Rattle.au_base.specs.declared.cell.Cell.{Cell}
use Rattle.au_base.specs.declared.table.TableName.{TableName}
use Rattle.au_base.specs.Order.{fields_before}
use Rattle.au_base.specs.Sameness.{same_table}
use Rattle.au_audit.specs.Conditions.{is_yes}
use Rattle.au_entries.specs.declared.table.Table.{Table}
use Rattle.au_entries.specs.Changing.{table_fields}
use Rattle.au_expr.specs.declared.placed.Placed.{Placed}
use Rattle.au_expr.specs.Placing.{value_at}
use Rattle.au_expr.specs.Sessions.{Session}
use Rattle.au_expr.specs.Values.{truth_in}

-- the condition with places is Yes over the row
abbrev pub is_met_at : Session → Placed → List Cell → Bool
is_met_at session tree cells = is_yes (truth_in (value_at (cells ∷ []) session tree))

-- one of the rows that are lent passes
abbrev pub some_lent : (List Cell → Bool) → List (Bor (List Cell)) → Bool
some_lent test rows = list_any (λ (cells : Bor (List Cell)). test cells.now) rows

-- a row of the table passes
abbrev pub some_of : (List Cell → Bool) → TableName → TableName × List (Bor (List Cell)) → Bool
some_of test table entry = same_table entry.0 table && some_lent test entry.1

-- the place behind the tables that come before this one
abbrev pub IsTablePlace : TableName → List Table → ℕ → Type 0
IsTablePlace name tables place =
    IsPartitionPoint (λ table. fields_before (table_fields table.name) (table_fields name) ≡ true) (λ table. fields_before (table_fields table.name) (table_fields name) ≡ false) tables place
