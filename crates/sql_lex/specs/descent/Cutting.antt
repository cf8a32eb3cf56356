-- A text as its tokens, cut from the front as the code does it. `AreTokens` says what the tokens of a text are; `cut_as_told`
-- is the law that both agree.
use Rattle.std.specs.Prelude.{ℕ, zero, suc, ◌+◌, ◌-◌, List, [], ◌∷◌, length, Option, Some, None}
use Rattle.sql_lex.specs.declared.token.Kind.{Kind}
use Rattle.sql_lex.specs.declared.token.Token.{Token}
use Rattle.sql_lex.specs.descent.Scan.{gap, lexeme}

-- the place behind the bytes that stand before these
abbrev pub place_behind : ℕ → List ℕ → List ℕ → ℕ
place_behind at bytes behind = at + (length bytes - length behind)

abbrev pub preceded : Token → Option (List Token) → Option (List Token)
preceded token None = None
preceded token (Some tokens) = Some (token ∷ tokens)

-- how the bytes from a place on go on behind their front
module _ (further : ℕ → List ℕ → Option (List Token)) where
  abbrev pub past_token : ℕ → List ℕ → Option (Kind × List ℕ) → Option (List Token)
  past_token at bytes None = None
  past_token at bytes (Some x) = preceded (record { kind = x.0; from = at; to = place_behind at bytes x.1 }) (further (place_behind at bytes x.1) x.1)

  abbrev pub past_front : ℕ → List ℕ → Option (List ℕ) → Option (List Token)
  past_front at bytes None = past_token at bytes (lexeme bytes)
  past_front at bytes (Some behind) = further (place_behind at bytes behind) behind

-- The tokens that the bytes from a place on are, or none. The first number bounds the turns: each takes a byte at least, so
-- the count of bytes is enough.
unfoldable pub tokens_within : ℕ → ℕ → List ℕ → Option (List Token)
tokens_within zero at [] = Some []
tokens_within zero at (b ∷ bytes) = None
tokens_within (suc n) at [] = Some []
tokens_within (suc n) at (b ∷ bytes) = past_front (λ place rest. tokens_within n place rest) at (b ∷ bytes) (gap (b ∷ bytes))

-- the tokens that a text is, or none
unfoldable pub tokens_of : List ℕ → Option (List Token)
tokens_of text = tokens_within (length text) 0 text
