-- What INSERT, UPDATE and DELETE come to, by the first rule that they break.
use Rattle.std.specs.Prelude.{◌≡◌, ◌⊎◌, [], Option, None, Some}
use Rattle.au_base.specs.declared.code.Code.{Code}
use Rattle.au_modify.specs.declared.modification.Modification.{Modification}

-- what comes of a statement that is refused: the code, and nothing else
abbrev pub refused : Code → Modification
refused code = record { code = code; changes = []; named = [] }

-- by the first code of rules that come next, if there is one: it; and else what the rules behind them say
abbrev pub Comes : Option Code → (Modification → Type 0) → Modification → Type 0
Comes None Behind modification = Behind modification
Comes (Some code) Behind modification = modification ≡ refused code

-- by the rule that comes next: its code where it is broken; and else what the rules behind it say
abbrev pub Unless : Type 0 → Code → (Modification → Type 0) → Modification → Type 0
Unless Broken code Behind modification = (Broken × (modification ≡ refused code)) ⊎ ((¬ Broken) × Behind modification)
