-- What a window shows of an area.
use Rattle.std.specs.Prelude.{◌≡◌, ℕ, List, take, drop}
use Rattle.au_journal.specs.declared.window.Window.{Window}

-- the bytes that it holds
abbrev pub held_of : Window → List ℕ
held_of window = take window.filled window.bytes

-- they are those of the area at the window's place
abbrev pub Shows : Window → List ℕ → Type 0
Shows window area = held_of window ≡ take window.filled (drop window.place area)
