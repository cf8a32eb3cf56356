-- What the code holds midway. No promise of the crate rests on these.
use Rattle.std.specs.Prelude.{◌≡◌, IsTrue, ℕ, Bool, ◌&&◌, if◌then◌else◌, List, [], ◌∷◌, map, Option}
use Rattle.std.specs.Borrow.{Bor}
use Rattle.std.specs.List.{filter_map, flat_map, list_any}
use Rattle.au_audit.specs.Firing.{RowFacts, names_type}
use Rattle.au_base.specs.declared.action.Action.{Action}
use Rattle.au_base.specs.declared.action.Action.TheVariants as actions
use Rattle.au_base.specs.declared.cell.Cell.{Cell}
use Rattle.au_base.specs.declared.numbers.ClientNo.{ClientNo}
use Rattle.au_base.specs.declared.numbers.RowNo.{RowNo}
use Rattle.au_base.specs.declared.table.TableName.{TableName}
use Rattle.au_base.specs.Sameness.{same_table}
use Rattle.au_entries.specs.declared.fine_grained.FgaPolicy.{FgaPolicy}
use Rattle.au_entries.specs.declared.table.Table.{Table}
use Rattle.au_plan.specs.Plans.{contents_in}
use Rattle.au_txn.specs.declared.change.RowChange.{RowChange}
use Rattle.au_txn.specs.Desks.{Contents, open_of}
use Rattle.au_txn.specs.Rows.{row_at}
use Rattle.au_txn.specs.Transactions.{laid_over}
use Rattle.au_world.specs.declared.built_in.TableKind.TheVariants.{Created}
use Rattle.au_world.specs.BuiltInTables.{kind_of}
use Rattle.au_world.specs.Sights.{has_table}

-- the policy is enabled for the action, and stands on the table
abbrev pub watches : Action → TableName → FgaPolicy → Bool
watches action table policy = policy.enabled && (names_type policy.types action && same_table policy.name.table table)

-- one of the policies does so
abbrev pub is_watched : List FgaPolicy → Action → TableName → Bool
is_watched policies action table = list_any (watches action table) policies

-- what the client sees of the table's row with this number
abbrev pub content_of : Contents → ClientNo → TableName → RowNo → Option (List Cell)
content_of desk client table number = row_at table number (laid_over desk.rows (open_of desk client))

-- the cells of those of the table's rows with these numbers that the client sees
abbrev pub contents_of_rows : Contents → ClientNo → TableName → List RowNo → List (List Cell)
contents_of_rows desk client table numbers = filter_map (content_of desk client table) numbers

-- rows are asked for where a policy is enabled for SELECT on their table
abbrev pub asked_rows : List FgaPolicy → Contents → ClientNo → TableName → List RowNo → List (List Cell)
asked_rows policies desk client table numbers = if is_watched policies actions.Select table then contents_of_rows desk client table numbers else []

-- the table, and its rows that are asked for
abbrev pub asked_entry : List FgaPolicy → Contents → ClientNo → TableName × List RowNo → TableName × List (List Cell)
asked_entry policies desk client entry = (entry.0, asked_rows policies desk client entry.0 entry.1)

-- the cells of rows as they are lent
abbrev pub cells_lent : List (Bor (List Cell)) → List (List Cell)
cells_lent rows = map (λ (cells : Bor (List Cell)). cells.now) rows

-- a query's facts by the rows that it touches and the columns that it names
abbrev pub query_facts : List (TableName × List (List Cell)) → List (TableName × List (List ℕ)) → RowFacts
query_facts touched named = record { action = actions.Select; touched = touched; named = named }

-- the facts of a statement that makes these changes of rows of a table, by the columns of it that it references
abbrev pub change_facts : Action → TableName × List (List ℕ) → List RowChange → RowFacts
change_facts action named changes = record {
  action = action;
  touched = (named.0, flat_map contents_in changes) ∷ [];
  named = named ∷ [];
}

-- a created table of the catalogue
pub record IsOfCatalog (tables : List Table) (table : TableName) : Type 0 where
  pub created : kind_of table ≡ Created
  pub there : IsTrue (has_table tables table)
