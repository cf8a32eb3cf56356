-- How long an area gets, and how many bytes are written, by the framed bytes of a body: its length, the body and a closed gate.
use Rattle.std.specs.Prelude.{ℕ, ◌+◌, Bool, true, false}

-- the used length behind n framed bytes more, whose open gate stands where the used length was
abbrev pub used_behind : ℕ → ℕ → ℕ
used_behind used n = used + n

-- the length that the area needs for them: their last byte is the gate behind the used length
abbrev pub needed_behind : ℕ → ℕ → ℕ
needed_behind used n = used + n + 1

-- the used length of a new area with one body, of n framed bytes
abbrev pub new_length : ℕ → ℕ
new_length n = 13 + n

-- the bytes of gates that an append writes, where the area ended at the used length and where it didn't
abbrev pub gate_bytes : Bool → ℕ
gate_bytes true = 2
gate_bytes false = 1

-- the bytes that an append of n framed bytes writes at most, in an area that has a gate at its used length
abbrev pub append_cost : ℕ → ℕ
append_cost n = n + 1

-- the bytes that a flip writes at most: the new area, and the byte of Head
abbrev pub flip_cost : ℕ → ℕ
flip_cost n = 15 + n
