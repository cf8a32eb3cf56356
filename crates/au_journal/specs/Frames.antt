-- Frames in an area: a header, then each frame behind an open gate, then a gate that isn't open. All numbers are big-endian.
use Rattle.std.specs.Prelude.{◌≡◌, ◌≢◌, ◌<◌, ◌≤◌, ℕ, List, [], ◌∷◌, ◌++◌, length, drop, codes, ⊤}
use Rattle.std.specs.Int.{w32, w64, to_be_bytes}
use Rattle.std.specs.List.{flat_map}

-- a length and a body
unfoldable pub spelled : List ℕ → List ℕ
spelled body = to_be_bytes w64 (length body) ++ body

-- behind an open gate
abbrev pub frame : List ℕ → List ℕ
frame body = 165 ∷ spelled body

-- the area's open gate, the name of the format, and the limit
abbrev pub header : ℕ → List ℕ
header limit = 165 ∷ codes "AUJRNL01" ++ to_be_bytes w32 limit

-- a formatted area up to the first gate that isn't open
unfoldable pub front : ℕ → List (List ℕ) → List ℕ
front limit bodies = header limit ++ flat_map frame bodies

-- framed bytes of a body: its length, the body and a closed gate
abbrev pub framed_of : List ℕ → List ℕ
framed_of body = spelled body ++ 0 ∷ []

-- the first 13 bytes behind the gate of a new area: the name of the format, the limit and an open gate
abbrev pub new_head : ℕ → List ℕ
new_head limit = drop 1 (header limit) ++ 165 ∷ []

-- what stands behind the gate of a new area
abbrev pub new_rest : ℕ → List ℕ → List ℕ
new_rest limit framed = new_head limit ++ framed

-- the limits that an area may have
abbrev pub IsLimit : ℕ → Type 0
IsLimit limit = (400 ≤ limit) × (limit ≤ 2147483647)

-- no body is empty
abbrev pub AreSome : List (List ℕ) → Type 0
AreSome [] = ⊤
AreSome (body ∷ bodies) = (0 < length body) × AreSome bodies

-- no open gate comes next
abbrev pub IsShut : List ℕ → Type 0
IsShut [] = ⊤
IsShut (gate ∷ rest) = gate ≢ 165

-- an open gate comes next
abbrev pub IsOpen : List ℕ → Type 0
IsOpen [] = ⊥
IsOpen (gate ∷ rest) = gate ≡ 165

-- an open gate comes next, and no frame
pub record IsBroken (rest : List ℕ) : Type 0 where
  pub opens : IsOpen rest
  pub no_frame : (body more : List ℕ) → 0 < length body → rest ≡ frame body ++ more → ⊥

-- the area holds these bodies, under this limit, and no others
pub record Stands (limit : ℕ) (bodies : List (List ℕ)) (area : List ℕ) : Type 0 where
  pub in_range : IsLimit limit
  pub some : AreSome bodies
  pub rest : List ℕ
  pub split : area ≡ front limit bodies ++ rest
  pub shut : IsShut rest
