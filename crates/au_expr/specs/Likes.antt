-- LIKE as a test (SQL Language Reference, "LIKE Condition"), over lists of characters. What LIKE means is `IsLike` of
-- `au_base`; the law `like_cuts_the_text` says that this test tells it.
use Rattle.std.specs.Prelude.{ℕ, Bool, true, false, ◌==◌, ◌&&◌, ◌||◌, List, [], ◌∷◌, if◌then◌else◌}
use Rattle.std.specs.List.{list_any}

-- what is left of a text behind each of its fronts
abbrev pub ends_of : List ℕ → List (List ℕ)
ends_of [] = [] ∷ []
ends_of (x ∷ text) = (x ∷ text) ∷ ends_of text

-- the text begins with one character that the pattern's names, and goes on like its rest
abbrev pub begins_like : ℕ → (List ℕ → Bool) → List ℕ → Bool
begins_like c goes_on [] = false
begins_like c goes_on (x ∷ text) = (c == 95 || x == c) && goes_on text

abbrev pub is_empty : List ℕ → Bool
is_empty [] = true
is_empty (x ∷ text) = false

-- whether the text is like the pattern: `%` (37) stands for any characters, `_` (95) for one
abbrev pub likes : List ℕ → List ℕ → Bool
likes [] text = is_empty text
likes (c ∷ pattern) text = if c == 37 then list_any (likes pattern) (ends_of text) else begins_like c (likes pattern) text
