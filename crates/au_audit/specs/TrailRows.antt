-- The records of the trail as rows of a table (Database Reference, "UNIFIED_AUDIT_TRAIL"; the columns, their order and their
-- kinds are this project's profile).
use Rattle.std.specs.Prelude.{ℕ, pos, false, List, [], ◌∷◌, ◌++◌, map, codes, Option, Some, None}
use Rattle.std.specs.List.{flat_map}
use Rattle.au_base.specs.declared.cell.Cell.{Cell}
use Rattle.au_base.specs.declared.cell.Cell.TheVariants.{Null, Num, Moment}
use Rattle.au_base.specs.declared.table.Column.{Column}
use Rattle.au_base.specs.declared.table.ColumnKind.{ColumnKind}
use Rattle.au_base.specs.declared.table.ColumnKind.TheVariants as kinds
use Rattle.au_base.specs.Actions as actions
use Rattle.au_base.specs.Cells.{text_cell}
use Rattle.au_base.specs.Privileges as privileges
use Rattle.au_entries.specs.declared.trail_record.Record.{Record}
use Rattle.au_entries.specs.declared.trail_record.RecordKind.{RecordKind}
use Rattle.au_entries.specs.declared.trail_record.RecordKind.TheVariants.{Standard, FineGrained}

-- the kind of a record as the trail prints it
abbrev pub kind_name : RecordKind → List ℕ
kind_name Standard = codes "Standard"
kind_name FineGrained = codes "FineGrainedAudit"

-- the text of a column that has one, and NULL
abbrev pub optional_cell : Option (List ℕ) → Cell
optional_cell None = Null
optional_cell (Some text) = text_cell text

-- the names behind the first, each behind a comma (44) and a space (32)
abbrev pub further : List (List ℕ) → List ℕ
further names = flat_map (λ name. 44 ∷ 32 ∷ name) names

-- the names, joined by a comma and a space; of no names the empty text
abbrev pub joined : List (List ℕ) → List ℕ
joined [] = []
joined (name ∷ names) = name ++ further names

-- The record as a row: AUDIT_TYPE, SESSIONID, ENTRY_ID, STATEMENT_ID, EVENT_TIMESTAMP, DBUSERNAME, ACTION_NAME,
-- OBJECT_SCHEMA, OBJECT_NAME, SQL_TEXT, SYSTEM_PRIVILEGE_USED, UNIFIED_AUDIT_POLICIES, FGA_POLICY_NAME and RETURN_CODE.
-- What the record hasn't is NULL.
abbrev pub as_row : Record → List Cell
as_row entry =
    text_cell (kind_name entry.kind)
    ∷ Num (pos entry.session.0)
    ∷ Num (pos entry.entry)
    ∷ Num (pos entry.statement)
    ∷ Moment entry.stamp.0
    ∷ text_cell entry.user
    ∷ text_cell (actions.name_of entry.action)
    ∷ optional_cell entry.schema
    ∷ optional_cell entry.object
    ∷ optional_cell entry.sql
    ∷ text_cell (joined (map privileges.name_of entry.used))
    ∷ text_cell (joined entry.policies)
    ∷ optional_cell entry.fga
    ∷ Num (pos entry.code.0)
    ∷ []

-- A column of the trail. Its size is the widest that a column of its kind has; texts of the trail may be longer.
abbrev pub text_column : List ℕ → Column
text_column name = record { name = name; kind = kinds.Text; size = 4000; not_null = false }

abbrev pub number_column : List ℕ → Column
number_column name = record { name = name; kind = kinds.Number; size = 18; not_null = false }

abbrev pub moment_column : List ℕ → Column
moment_column name = record { name = name; kind = kinds.Moment; size = 6; not_null = false }

-- the columns of the trail, in their order
abbrev pub trail_columns : List Column
trail_columns =
    text_column (codes "AUDIT_TYPE")
    ∷ number_column (codes "SESSIONID")
    ∷ number_column (codes "ENTRY_ID")
    ∷ number_column (codes "STATEMENT_ID")
    ∷ moment_column (codes "EVENT_TIMESTAMP")
    ∷ text_column (codes "DBUSERNAME")
    ∷ text_column (codes "ACTION_NAME")
    ∷ text_column (codes "OBJECT_SCHEMA")
    ∷ text_column (codes "OBJECT_NAME")
    ∷ text_column (codes "SQL_TEXT")
    ∷ text_column (codes "SYSTEM_PRIVILEGE_USED")
    ∷ text_column (codes "UNIFIED_AUDIT_POLICIES")
    ∷ text_column (codes "FGA_POLICY_NAME")
    ∷ number_column (codes "RETURN_CODE")
    ∷ []
