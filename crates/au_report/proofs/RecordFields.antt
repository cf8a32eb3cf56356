-- The fields of a record are the cells of its row.
use Rattle.std.proofs.Common.{◌≡◌, ℕ, List, [], ◌∷◌, Option, Some, None, refl}
use Rattle.au_base.specs.Cells.{text_cell}
use Rattle.au_entries.specs.declared.trail_record.Record.{Record}
use Rattle.au_audit.specs.TrailRows.{optional_cell}
use Rattle.au_report.specs.Exports.{cell_field, record_fields}
use Rattle.au_report.specs.descent.Fields.{fields_with, made_for, or_empty}

text_back : (text : List ℕ) → cell_field (text_cell text) ≡ text
text_back [] = refl
text_back (byte ∷ bytes) = refl

optional_back : (text : Option (List ℕ)) → cell_field (optional_cell text) ≡ or_empty text
optional_back None = refl
optional_back (Some text) = text_back text

pub fields_are_cells : (entry : Record) → record_fields entry ≡ fields_with entry (made_for entry)
fields_are_cells entry = simp (text_back, optional_back) refl
