-- Versions in slots.
use Rattle.std.specs.Prelude.{◌≡◌, ◌≢◌, ℕ, List, Option, Some, None, slice_index_or}
use Rattle.au_rows.specs.declared.version.Version.{Version}

-- the version or nothing in each slot, and how many more versions are taken with no allocation
pub record Stored : Type 0 where
  pub slots : List (Option Version)
  pub room : ℕ

-- the slot is vacant before and has the version after, and no other slot changes
pub record Puts (old new : List (Option Version)) (slot : ℕ) (version : Version) : Type 0 where
  pub vacant : slice_index_or old slot None ≡ None
  pub filled : slice_index_or new slot None ≡ Some version
  pub others : (other : ℕ) → other ≢ slot → slice_index_or new other None ≡ slice_index_or old other None

-- the slot, where one is named, is vacant after, and no other slot changes
pub record Frees (old new : List (Option Version)) (slot : Option ℕ) : Type 0 where
  pub freed : (here : ℕ) → slot ≡ Some here → slice_index_or new here None ≡ None
  pub others : (other : ℕ) → slot ≢ Some other → slice_index_or new other None ≡ slice_index_or old other None
