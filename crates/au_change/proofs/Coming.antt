-- What a statement comes to, by the rules that it breaks.
use Rattle.std.proofs.Common.{◌≡◌, ◌⊎◌, inl, inr, refl, sym, ap}
use Rattle.std.specs.Prelude.{Option, None, Some}
use Rattle.au_base.specs.declared.code.Code.{Code}
use Rattle.au_expr.specs.Names.{or_code}
use Rattle.au_modify.specs.declared.modification.Modification.{Modification}
use Rattle.au_modify.specs.Modifying.{Comes, Unless, refused}

no_code : {code : Code} → None ≡ Some code → ⊥
no_code is = cc

same_code : (a b : Code) → Some a ≡ Some b → refused b ≡ refused a
same_code a b is = ap refused (let e : a ≡ b = cc in sym e)

-- the code of the rules that come first refuses
pub refused_first : (text choice : Option Code) (code : Code) (Behind : Modification → Type 0) → text ≡ Some code → Comes (or_code text choice) Behind (refused code)
refused_first None choice code Behind is = absurd (no_code is)
refused_first (Some other) choice code Behind is = same_code other code is

-- of rules of which the first are kept, those behind decide
pub behind : (text choice : Option Code) (Behind : Modification → Type 0) (m : Modification) → text ≡ None → Comes choice Behind m → Comes (or_code text choice) Behind m
behind None choice Behind m kept is = is
behind (Some code) choice Behind m kept is = absurd (no_code (sym kept))

pub refused_by : (choice : Option Code) (code : Code) (Behind : Modification → Type 0) → choice ≡ Some code → Comes choice Behind (refused code)
refused_by None code Behind is = absurd (no_code is)
refused_by (Some other) code Behind is = same_code other code is

pub kept_by : (choice : Option Code) (Behind : Modification → Type 0) (m : Modification) → choice ≡ None → Behind m → Comes choice Behind m
kept_by None Behind m kept is = is
kept_by (Some code) Behind m kept is = absurd (no_code (sym kept))

-- what refuses a choice of rows: its rules, or a lock
pub refused_choice : (choice : Option Code) (Locked : Type 0) (lock code : Code) (Behind : Modification → Type 0)
    → (choice ≡ Some code) ⊎ ((choice ≡ None) × Locked × (code ≡ lock)) → Comes choice (Unless Locked lock Behind) (refused code)
refused_choice choice Locked lock code Behind is = elim is [
  | inl rule ↦ refused_by choice code (Unless Locked lock Behind) rule
  | inr locked ↦ kept_by choice (Unless Locked lock Behind) (refused code) locked.0 (inl (locked.1, ap refused locked.2))
]

-- three rules in two groups
pub grouped : (name kind choice : Option Code) → or_code (or_code name kind) choice ≡ or_code name (or_code kind choice)
grouped None kind choice = refl
grouped (Some code) kind choice = refl
