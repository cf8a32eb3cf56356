-- Room that is kept for entries.
use Rattle.std.specs.Prelude.{ℕ}

-- for how many entries there is room, and for how many more
pub record Spared : Type 0 where
  pub count : ℕ
  pub more : ℕ
