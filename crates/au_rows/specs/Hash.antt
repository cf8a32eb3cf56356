-- The numbers under which versions are indexed.
use Rattle.std.specs.Prelude.{ℕ, ◌+◌, ◌*◌, ◌%◌, ◌^◌, List, [], ◌∷◌, fold, slice_get, unsigned_abs}
use Rattle.std.specs.Option.{option_map_or}
use Rattle.au_base.specs.declared.cell.Cell.{Cell}
use Rattle.au_base.specs.declared.cell.Cell.TheVariants.{Null, Num, Text, Moment}
use Rattle.au_base.specs.declared.table.TableName.{TableName}

-- the number of a list with one part more
abbrev pub hash_step : ℕ → ℕ → ℕ
hash_step hash part = ((hash * 6364136223846793005) % 2 ^ 64 + part) % 2 ^ 64

-- the number of a text
abbrev pub text_hash : List ℕ → ℕ
text_hash bytes = fold hash_step 1 bytes

-- the number of a table's name
abbrev pub name_hash : TableName → ℕ
name_hash table = hash_step (text_hash table.owner) (text_hash table.name)

abbrev pub cell_hash : Cell → ℕ
cell_hash Null = 0
cell_hash (Num number) = unsigned_abs number
cell_hash (Text text) = text_hash text
cell_hash (Moment moment) = moment

-- the number of a key of a table
abbrev pub key_hash : ℕ → List Cell → ℕ
key_hash table key = fold (λ hash cell. hash_step hash (cell_hash cell)) table key

-- the number of the cell at a place, 0 where there is none
abbrev pub place_hash : List Cell → ℕ → ℕ
place_hash cells place = option_map_or cell_hash (slice_get cells place) 0

-- the number of the cells at the places of a table's key
abbrev pub stored_hash : ℕ → List ℕ → List Cell → ℕ
stored_hash table places cells = fold (λ hash place. hash_step hash (place_hash cells place)) table places

-- the number of a content of a row: that of its key, and in a table without a key that of the row
abbrev pub version_hash : ℕ → ℕ → List ℕ → List Cell → ℕ
version_hash table number [] cells = hash_step table number
version_hash table number (place ∷ places) cells = stored_hash table (place ∷ places) cells
