-- How values are read at the front of bytes, one behind the other.
use Rattle.std.specs.Prelude.{ℕ, zero, suc, ◌∷◌, [], List, length, take, drop, Option, Some, None, Bool, nat_lt, ◌==◌, if◌then◌else◌}
use Rattle.std.specs.Int.{Width, byte_len, from_be_bytes}

-- the value at the front of bytes, if there is one, and the bytes behind it
abbrev pub Front : Type 0 → Type 0
Front X = List ℕ → Option (X × List ℕ)

-- reading goes on with what was read, and ends where nothing was
infixl 10 ◌>>=◌
abbrev pub ◌>>=◌ : {A B : Type 0} → Option A → (A → Option B) → Option B
(Some x) >>= f = f x
None >>= f = None

abbrev pub byte_first : Front ℕ
byte_first [] = None
byte_first (b ∷ bytes) = Some (b, bytes)

abbrev pub number_first : Width → Front ℕ
number_first w bytes =
    if nat_lt (length bytes) (byte_len w) then None else Some (from_be_bytes w (take (byte_len w) bytes), drop (byte_len w) bytes)

abbrev pub run_first : ℕ → Front (List ℕ)
run_first n bytes = if nat_lt (length bytes) n then None else Some (take n bytes, drop n bytes)

abbrev pub long_first : Front ℕ → Front (List ℕ)
long_first count bytes = count bytes >>= λ n. run_first n.0 n.1

abbrev pub option_first : {X : Type 0} → Front X → Front (Option X)
option_first first [] = None
option_first first (zero ∷ bytes) = Some (None, bytes)
option_first first (suc zero ∷ bytes) = first bytes >>= λ x. Some (Some x.0, x.1)
option_first first (suc (suc b) ∷ bytes) = None

-- so many values, one behind the other
unfoldable pub many_first : {X : Type 0} → Front X → ℕ → Front (List X)
many_first first zero bytes = Some ([], bytes)
many_first first (suc n) bytes = do
  x ← first bytes
  xs ← many_first first n x.1
  Some (x.0 ∷ xs.0, xs.1)

abbrev pub counted_first : {X : Type 0} → Front ℕ → Front X → Front (List X)
counted_first count first bytes = count bytes >>= λ n. many_first first n.0 n.1

abbrev pub pair_first : {A B : Type 0} → Front A → Front B → Front (A × B)
pair_first one two bytes = one bytes >>= λ x. two x.1 >>= λ y. Some ((x.0, y.0), y.1)

-- only a value that passes the test
abbrev pub tested_first : {X : Type 0} → Front X → (X → Bool) → Front X
tested_first first test bytes = first bytes >>= λ x. if test x.0 then Some x else None

-- what is made of the value at the front
abbrev pub made_first : {A X : Type 0} → Front A → (A → X) → Front X
made_first first make bytes = first bytes >>= λ x. Some (make x.0, x.1)

abbrev pub nothing_first : Front (Unit {0})
nothing_first bytes = Some (tt, bytes)

-- this byte, and the value behind it
abbrev pub led_first : {X : Type 0} → ℕ → Front X → Front X
led_first sign first [] = None
led_first sign first (b ∷ bytes) = if b == sign then first bytes else None

-- the value that a byte stands for
abbrev pub coded_first : {X : Type 0} → (ℕ → Option X) → Front X
coded_first with_code [] = None
coded_first with_code (b ∷ bytes) = with_code b >>= λ x. Some (x, bytes)

-- what is read behind a tag
abbrev pub Behind : Type 0 → Type 0
Behind X = ℕ → Front X

abbrev pub no_other : {X : Type 0} → Behind X
no_other tag bytes = None

abbrev pub behind : {A X : Type 0} → ℕ → Front A → (A → X) → Behind X → Behind X
behind t first make others tag bytes = if tag == t then made_first first make bytes else others tag bytes

-- behind the tags under this one as the first says, behind the others as the second says
abbrev pub below : {X : Type 0} → ℕ → Behind X → Behind X → Behind X
below t low high tag bytes = if nat_lt tag t then low tag bytes else high tag bytes

abbrev pub tagged_first : {X : Type 0} → Behind X → Front X
tagged_first others [] = None
tagged_first others (tag ∷ bytes) = others tag bytes

-- the value behind which no byte stands
abbrev pub whole : {X : Type 0} → Front X → List ℕ → Option X
whole first bytes = first bytes >>= λ x. if length x.1 == 0 then Some x.0 else None
