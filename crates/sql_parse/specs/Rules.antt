-- What the rules of the grammar are made of (SQL Language Reference, "How to Read Syntax Diagrams"). A rule relates the
-- tokens from a place on, a value, and the tokens behind it.
use Rattle.std.specs.Prelude.{List, [], ◌∷◌, Option, Some, None}
use Rattle.sql_lex.specs.declared.token.Kind.{Kind}

-- the token, and then what the rule reads
pub data After {A : Type 0} (k : Kind) (Item : List Kind → A → List Kind → Type 0) : List Kind → A → List Kind → Type 0 where
  after : {i o : List Kind} {x : A} → Item i x o → After k Item (k ∷ i) x o

-- `{x}`, any number of times
pub data Many {A : Type 0} (Item : List Kind → A → List Kind → Type 0) : List Kind → List A → List Kind → Type 0 where
  none : {o : List Kind} → Many Item o [] o
  more : {i m o : List Kind} {x : A} {xs : List A} → Item i x m → Many Item m xs o → Many Item i (x ∷ xs) o

-- `x {k x}`, once and then any number of times behind the token
pub data Parted {A : Type 0} (k : Kind) (Item : List Kind → A → List Kind → Type 0) : List Kind → List A → List Kind → Type 0 where
  parted : {i m o : List Kind} {x : A} {xs : List A} → Item i x m → Many (After k Item) m xs o → Parted k Item i (x ∷ xs) o

-- `[x]`, or nothing
pub data Optional {A : Type 0} (Item : List Kind → A → List Kind → Type 0) : List Kind → Option A → List Kind → Type 0 where
  absent : {o : List Kind} → Optional Item o None o
  present : {i o : List Kind} {x : A} → Item i x o → Optional Item i (Some x) o

-- what the rule reads, and then the token
pub data Before {A : Type 0} (k : Kind) (Item : List Kind → A → List Kind → Type 0) : List Kind → A → List Kind → Type 0 where
  before : {i o : List Kind} {x : A} → Item i x (k ∷ o) → Before k Item i x o

-- the token, or nothing
pub data Maybe (k : Kind) : List Kind → List Kind → Type 0 where
  without : {o : List Kind} → Maybe k o o
  written : {o : List Kind} → Maybe k (k ∷ o) o
