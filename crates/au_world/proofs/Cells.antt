-- Cells that are sound.
use Rattle.std.proofs.Common.{◌≢◌, ◌≤◌, ◌+◌, ℕ, pos, List, [], ◌∷◌, Option, Some, None, map, arith}
use Rattle.std.specs.List.{AllByRecursion, enumerate_from}
use Rattle.std.proofs.lemmas.Int.{ints}
use Rattle.au_audit.specs.TrailRows.{as_row, optional_cell}
use Rattle.au_base.specs.declared.cell.Cell.{Cell}
use Rattle.au_base.specs.declared.cell.Cell.TheVariants.{Num}
use Rattle.au_base.specs.Cells.{IsSoundCell, text_cell}
use Rattle.au_entries.specs.declared.trail_record.Record.{Record}
use Rattle.au_query.specs.Combos.{IsSoundLine}
use Rattle.au_world.specs.BuiltInTables.{numbered_row}
use Rattle.au_world.specs.Sound.{IsSoundRecord}

some_byte : (byte : ℕ) (bytes : List ℕ) → byte ∷ bytes ≢ []
some_byte byte bytes is = cc

pub text_sound : (text : List ℕ) → IsSoundCell (text_cell text)
text_sound [] = tt
text_sound (byte ∷ bytes) = some_byte byte bytes

pub optional_sound : (text : Option (List ℕ)) → IsSoundCell (optional_cell text)
optional_sound None = tt
optional_sound (Some text) = text_sound text

pub number_sound : (n : ℕ) → n ≤ 999_999_999_999_999_999 → IsSoundCell (Num (pos n))
number_sound n few = record { low = grind (arith, ints); high = grind (arith, ints) }

-- numbered rows have the cells that they had
pub numbered_sound : (n : ℕ) (rows : List (List Cell)) → AllByRecursion (AllByRecursion IsSoundCell) rows → AllByRecursion IsSoundLine (map numbered_row (enumerate_from n rows))
numbered_sound n [] all = tt
numbered_sound n (row ∷ rows) all = (all.0, numbered_sound (n + 1) rows all.1)

-- a record as a row has sound cells
pub row_sound : (entry : Record) → IsSoundRecord entry → entry.entry ≤ 4_294_967_295 → entry.statement ≤ 4_294_967_295 → entry.code.0 ≤ 4_294_967_295 → AllByRecursion IsSoundCell (as_row entry)
row_sound entry sound few_entries few_statements few_codes = (
  text_sound _,
  (
    number_sound entry.session.0 sound.session,
    (
      number_sound entry.entry (omega (arith, few_entries)),
      (
        number_sound entry.statement (omega (arith, few_statements)),
        (
          sound.stamp,
          (
            text_sound entry.user,
            (
              text_sound _,
              (
                optional_sound entry.schema,
                (
                  optional_sound entry.object,
                  (
                    optional_sound entry.sql,
                    (text_sound _, (text_sound _, (optional_sound entry.fga, (number_sound entry.code.0 (omega (arith, few_codes)), tt)))),
                  ),
                ),
              ),
            ),
          ),
        ),
      ),
    ),
  ),
)
