-- LIKE (SQL Language Reference, "LIKE Condition"), over lists of characters.
use Rattle.std.specs.Prelude.{◌≡◌, ◌≢◌, ℕ, List, [], ◌∷◌, ◌++◌, length}

-- a character of a pattern names a piece: `%` (37) any, `_` (95) any of one character, another itself
pub record IsNamedBy (c : ℕ) (piece : List ℕ) : Type 0 where
  pub one : c ≢ 37 → length piece ≡ 1
  pub same : c ≢ 37 → c ≢ 95 → piece ≡ c ∷ []

-- the text can be cut into pieces that the characters of the pattern name in order
abbrev pub IsLike : List ℕ → List ℕ → Type 0
IsLike [] text = text ≡ []
IsLike (c ∷ pattern) text = (piece rest : List ℕ) × (text ≡ piece ++ rest) × IsNamedBy c piece × IsLike pattern rest

-- no character of the pattern is `%`, and each names one character of the text
abbrev pub NameEach : List ℕ → List ℕ → Type 0
NameEach [] text = text ≡ []
NameEach (c ∷ pattern) [] = ⊥
NameEach (c ∷ pattern) (x ∷ text) = (c ≢ 37) × (c ≢ 95 → x ≡ c) × NameEach pattern text

-- a pattern and a text go on as these after a front whose characters name each other
pub record GoOn (pattern text later_pattern later_text : List ℕ) : Type 0 where
  pub names : List ℕ
  pub named : List ℕ
  pub pattern_is : pattern ≡ names ++ later_pattern
  pub text_is : text ≡ named ++ later_text
  pub each : NameEach names named
