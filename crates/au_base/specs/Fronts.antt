-- How the front of a pattern, up to its first `%`, stands to a text.
use Rattle.std.specs.Prelude.{◌<◌, ◌≤◌, ℕ, List, ◌∷◌, length, IsUtf8, ⊤}
use Rattle.std.specs.Str.{chars}
use Rattle.au_base.specs.declared.pattern.Front.{Front}
use Rattle.au_base.specs.declared.pattern.Front.TheVariants.{Differs, Whole, Percent}
use Rattle.au_base.specs.Likes.{GoOn, IsLike}

-- the text isn't like the pattern, or is, or its front is named by what stands before the `%`
abbrev pub IsFront : List ℕ → List ℕ → Front → Type 0
IsFront pattern text Differs = ¬ (IsLike pattern text)
IsFront pattern text Whole = IsLike pattern text
IsFront pattern text (Percent end wanted) = GoOn pattern text (37 ∷ chars wanted.now) (chars end.now)

-- what is behind the `%` is text, less than the pattern, and no more than the text
abbrev pub IsLess : List ℕ → List ℕ → Front → Type 0
IsLess pattern text Differs = ⊤
IsLess pattern text Whole = ⊤
IsLess pattern text (Percent end wanted) = (length wanted.now < length pattern) × (length end.now ≤ length text) × IsUtf8 wanted.now × IsUtf8 end.now
