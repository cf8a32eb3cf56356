-- The first rule that is broken gives the code (the orders of the rules are this project's profile).
use Rattle.std.specs.Prelude.{◌≡◌, ◌≢◌, ◌↔◌, List, [], ◌∷◌, ◌++◌, Bool, true, if◌then◌else◌}
use Rattle.std.specs.List.{Contains}
use Rattle.au_base.specs.declared.code.Code.{Code}
use Rattle.au_base.specs.Codes.{DONE}

-- the code of the first rule that is broken, where each rule is whether it is broken and its code; DONE where none is
abbrev pub first_code : List (Bool × Code) → Code
first_code [] = DONE
first_code ((broken, code) ∷ rules) = if broken then code else first_code rules

-- no rule is broken
abbrev pub NoneBroken : List (Bool × Code) → Type 0
NoneBroken rules = (code : Code) → ¬ Contains rules (true, code)

-- no rule has the code of a statement that was done
abbrev pub NoneIsDone : List (Bool × Code) → Type 0
NoneIsDone rules = (broken : Bool) → ¬ Contains rules (broken, DONE)

-- a rule with the code is broken, and none before it
abbrev pub FirstBroken : List (Bool × Code) → Code → Type 0
FirstBroken rules code = (before after : List (Bool × Code)) × (rules ≡ before ++ (true, code) ∷ after) × NoneBroken before

-- the first rule that is broken gives the code, and DONE comes exactly where none is
pub record IsFirstCode (rules : List (Bool × Code)) (code : Code) : Type 0 where
  pub first : (other : Code) → FirstBroken rules other → code ≡ other
  pub broken : code ≢ DONE → FirstBroken rules code
  pub done : NoneIsDone rules → (code ≡ DONE) ↔ NoneBroken rules
