-- Reading names of several words by descent: what each function of the code answers.
use Rattle.std.specs.Prelude.{ℕ, Bool, false, ◌==◌, if◌then◌else◌, List, [], ◌∷◌, Option, Some, None}
use Rattle.std.specs.List.{starts_with}
use Rattle.sql_lex.specs.declared.token.Kind.{Kind}
use Rattle.sql_lex.specs.declared.token.Kind.TheVariants.{Word}
use Rattle.sql_parse.specs.Symbols.{sees}
use Rattle.sql_parse.specs.descent.Reading.{Reader, behind}

-- past all of the words, where they come next
abbrev pub past_words : List (List ℕ) → List Kind → Option (List Kind)
past_words [] i = Some i
past_words (w ∷ ws) i = if sees (Word w) i then past_words ws (behind i) else None

-- whether the next token is a word with which the name begins
abbrev pub begins : List ℕ → List Kind → Bool
begins name [] = false
begins name (Word word ∷ o) = starts_with (λ a b. a == b) name word
begins name (_ ∷ o) = false

-- that one, where its words came next, or else what the others give
abbrev pub found_or : {A : Type 0} → A → Option (List Kind) → Option (A × List Kind) → Option (A × List Kind)
found_or x (Some o) others = Some (x, o)
found_or x None others = others

-- the first whose words come next
abbrev pub first_of : {A : Type 0} → (A → List (List ℕ)) → List A → Reader A
first_of words [] i = None
first_of words (x ∷ xs) i = found_or x (past_words (words x) i) (first_of words xs i)
