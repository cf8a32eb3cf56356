-- How finals are listed, one name after another. Who reads the contracts needs none of it.
use Rattle.std.specs.Prelude.{◌≡◌, ◌≢◌, ◌⊎◌, ◌&&◌, ◌++◌, ◌==◌, List, [], ◌∷◌, Bool, true, not, Option}
use Rattle.std.specs.List.{Contains, list_all}
use Rattle.au_base.specs.declared.cell.Cell.{Cell}
use Rattle.au_base.specs.declared.numbers.RowNo.{RowNo}
use Rattle.au_base.specs.declared.table.TableName.{TableName}
use Rattle.au_base.specs.Order.{fields_before, is_in_order}
use Rattle.au_base.specs.Sameness.{same_table}
use Rattle.au_txn.specs.declared.change.RowChange.{RowChange}
use Rattle.au_txn.specs.declared.finals.Final.{Final}
use Rattle.au_txn.specs.declared.row_name.RowName.{RowName}
use Rattle.au_txn.specs.Finals.{final_before}
use Rattle.au_txn.specs.Rows.{place_of}

-- the row that a change is of
abbrev pub name_of : RowChange → RowName
name_of change = record { table = change.table; row = change.row }

-- by owner, table and number
abbrev pub name_before : RowName → RowName → Bool
name_before a b = fields_before (place_of a.table a.row) (place_of b.table b.row)

-- none comes before an earlier one
abbrev pub names_rise : List RowName → Bool
names_rise [] = true
names_rise (name ∷ names) = list_all (λ later. not (name_before later name)) names && names_rise names

-- the row of a final
abbrev pub final_name : Final → RowName
final_name final = record { table = final.table; row = final.row }

-- the final of a row
abbrev pub final_of : (TableName → RowNo → Option (List Cell)) → RowName → Final
final_of now name = record { table = name.table; row = name.row; content = now name.table name.row }

-- of the rows that are done, the finals have those whose content now isn't the one before
pub record AreListed (now before : TableName → RowNo → Option (List Cell)) (done : List RowName) (finals : List Final) : Type 0 where
  pub ordered : is_in_order final_before finals ≡ true
  pub sound : (final : Final) → Contains finals final
      → Contains done (final_name final) × (final.content ≡ now final.table final.row) × (final.content ≢ before final.table final.row)
  pub complete : (name : RowName) → Contains done name → (now name.table name.row ≡ before name.table name.row) ⊎ Contains finals (final_of now name)

-- both are one row
abbrev pub is_one_name : RowName → RowName → Bool
is_one_name a b = same_table a.table b.table && (a.row.0 == b.row.0)

-- the row is listed behind the others, where its content now isn't the one before
abbrev pub IsAdded : (TableName → RowNo → Option (List Cell)) → (TableName → RowNo → Option (List Cell)) → RowName → List Final → List Final → Type 0
IsAdded now before name old new =
    ((now name.table name.row ≡ before name.table name.row) × (new ≡ old))
    ⊎ ((now name.table name.row ≢ before name.table name.row) × (new ≡ old ++ final_of now name ∷ []))
