-- What a name is, and how a user's name or a literal is read as one (SQL Language Reference,
-- "Database Object Naming Rules"; the length and the signs that may stand in it are this project's profile).
use Rattle.std.specs.Prelude.{ℕ, ◌<◌, ◌≤◌, ◌-◌, ◌==◌, ◌&&◌, nat_le, Bool, List, length, map, take, drop, slice_index, IsUtf8, if◌then◌else◌}
use Rattle.std.specs.Char.{to_ascii_uppercase}

-- 1 to 128 bytes
pub record IsNameLong (bytes : List ℕ) : Type 0 where
  pub some : 0 < length bytes
  pub capped : length bytes ≤ 128

-- 1 to 128 bytes of UTF-8
abbrev pub IsName : List ℕ → Type 0
IsName bytes = IsNameLong bytes × IsUtf8 bytes

-- the text stands between two `"` (34)
abbrev pub is_quoted : List ℕ → Bool
is_quoted text = nat_le 2 (length text) && (slice_index text 0 == 34 && slice_index text (length text - 1) == 34)

-- what stands between the first byte and the last
abbrev pub between : List ℕ → List ℕ
between text = take (length text - 2) (drop 1 text)

-- a quoted text names what stands between its quotes, another one itself in upper case
abbrev pub identifier_of : List ℕ → List ℕ
identifier_of text = if is_quoted text then between text else map to_ascii_uppercase text
