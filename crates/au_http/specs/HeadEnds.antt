-- Where the head of a request ends: at the first empty line behind a line that isn't empty (RFC 9112,
-- section 2.1; by section 2.2 a line may end in LF alone, and empty lines may stand in front).
use Rattle.std.specs.Prelude.{◌≡◌, ◌≢◌, ◌⊎◌, ◌≤◌, ℕ, List, [], ◌∷◌, ◌++◌, length, ⊤}

abbrev pub line_feed : ℕ
line_feed = 10

abbrev pub carriage_return : ℕ
carriage_return = 13

-- a line without its LF is empty where it has nothing but the CR of its end
abbrev pub IsEmptyLine : List ℕ → Type 0
IsEmptyLine line = (line ≡ []) ⊎ (line ≡ carriage_return ∷ [])

-- no byte is a LF
abbrev pub HasNoFeed : List ℕ → Type 0
HasNoFeed [] = ⊤
HasNoFeed (b ∷ bytes) = (b ≢ line_feed) × HasNoFeed bytes

-- a line without its LF that isn't empty
pub record IsFullLine (line : List ℕ) : Type 0 where
  pub one : HasNoFeed line
  pub full : ¬ (IsEmptyLine line)

-- lines that aren't empty, and then an empty one
pub data IsHeadEnd : List ℕ → Type 0 where
  last : (bytes line : List ℕ) → IsEmptyLine line → bytes ≡ line ++ line_feed ∷ [] → IsHeadEnd bytes
  next : (bytes line rest : List ℕ) → IsFullLine line → IsHeadEnd rest → bytes ≡ line ++ line_feed ∷ rest
      → IsHeadEnd bytes

-- empty lines, a line that isn't empty, and what ends a head
pub data IsWholeHead : List ℕ → Type 0 where
  blank : (bytes line rest : List ℕ) → IsEmptyLine line → IsWholeHead rest → bytes ≡ line ++ line_feed ∷ rest
      → IsWholeHead bytes
  first : (bytes line rest : List ℕ) → IsFullLine line → IsHeadEnd rest → bytes ≡ line ++ line_feed ∷ rest
      → IsWholeHead bytes

-- the most bytes of a head
abbrev pub head_limit : ℕ
head_limit = 8_192

-- the bytes are a head that ends within the limit, and then the rest
pub record HasHead (bytes head rest : List ℕ) : Type 0 where
  pub bytes_are : bytes ≡ head ++ rest
  pub whole : IsWholeHead head
  pub capped : length head ≤ head_limit

-- no head ends within the limit
abbrev pub HasNoHead : List ℕ → Type 0
HasNoHead bytes = (head rest : List ℕ) → ¬ (HasHead bytes head rest)
