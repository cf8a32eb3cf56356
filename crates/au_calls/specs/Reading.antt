-- What became of the condition in a statement.
use Rattle.std.specs.Prelude.{Bool, true, false}
use Rattle.au_base.specs.Codes.{DONE}
use Rattle.au_base.specs.declared.code.Code.{Code}
use Rattle.au_entries.specs.declared.decision.ReadCondition.{ReadCondition}
use Rattle.au_entries.specs.declared.decision.ReadCondition.TheVariants.{Bad, Wrong}

-- it has no reading, or isn't one that a policy may have
abbrev pub is_bad : ReadCondition → Bool
is_bad Bad = true
is_bad _ = false

-- it was read, and is refused: for a column that isn't there, or a wrong kind
abbrev pub is_wrong : ReadCondition → Bool
is_wrong (Wrong code) = true
is_wrong _ = false

-- the code by which it is refused
abbrev pub wrong_code : ReadCondition → Code
wrong_code (Wrong code) = code
wrong_code _ = DONE
