-- How many more calls are sure to find their memory.
use Rattle.std.specs.Prelude.{ℕ, ◌-◌, ◌/◌, min}

-- a call may take a place for a table, a place for its name, a place for a row, a version, and room
-- for the change itself and for a later mark of the row; the last argument is how much of this room
-- is kept for marks
abbrev pub spare_of : ℕ → ℕ → ℕ → ℕ → ℕ → ℕ → ℕ
spare_of tables names places versions changes kept =
    min (min (min tables names) places) (min versions ((changes - kept) / 2))
