-- What calls leave, but for the spare.
use Rattle.std.specs.Prelude.{ℕ, List, [], ◌∷◌, ◌++◌, Option, None, Some}
use Rattle.au_base.specs.declared.cell.Cell.{Cell}
use Rattle.au_base.specs.declared.numbers.RowNo.{RowNo}
use Rattle.au_base.specs.declared.numbers.ClientNo.{ClientNo}
use Rattle.au_rows.specs.Held.{Contents, with_row}

-- after a client gives a row this content, or takes the row away
abbrev pub after_change : ℕ → RowNo → ClientNo → Option (List Cell) → Contents → Contents
after_change table number by content contents = record contents {
  held = with_row table number by content contents.held;
  changes = contents.changes ++ (record { by = by; table = table; number = number; content = content }) ∷ [];
}

abbrev pub after_put : ℕ → RowNo → List Cell → ClientNo → Contents → Contents
after_put table number cells by contents = after_change table number by (Some cells) contents

abbrev pub after_mark : ℕ → RowNo → ClientNo → Contents → Contents
after_mark table number by contents = after_change table number by None contents
