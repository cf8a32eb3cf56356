-- Names that rise one by one.
use Rattle.std.specs.Prelude.{ℕ, Bool, true, List, Option, Some, None}
use Rattle.au_base.specs.Order.{name_before}

-- the name comes behind the last one, where there is one
abbrev pub comes_behind : Option (List ℕ) → List ℕ → Bool
comes_behind None name = true
comes_behind (Some last) name = name_before last name
