-- What has to be so of a statement's condition, so that its changes go on from what is kept.
use Rattle.std.specs.Prelude.{◌≡◌, ℕ, false, ⊤, IsTrue, List, Option, Some, None}
use Rattle.au_calls.specs.Reading.{is_bad, is_wrong}
use Rattle.au_entries.specs.declared.decision.ReadCondition.{ReadCondition}
use Rattle.au_entries.specs.declared.table.Table.{Table}
use Rattle.au_entries.specs.Replaying.{Conditions}

-- a condition that is neither bad nor refused with a code can be read, and is a truth over the table, or over none
abbrev pub IsReadAs : Conditions → Option Table → Option (List ℕ) → ReadCondition → Type 0
IsReadAs conditions table None read = ⊤
IsReadAs conditions table (Some text) read =
    is_bad read ≡ false → is_wrong read ≡ false → IsTrue (conditions.is_read text) × IsTrue (conditions.is_truth table (conditions.tree text))
