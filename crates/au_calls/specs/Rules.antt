-- What rules make of a statement on auditing (the orders of the rules, and what a refused statement has used, are this
-- project's profile).
use Rattle.std.specs.Prelude.{◌||◌, Bool, if◌then◌else◌, List, [], ◌∷◌, None}
use Rattle.au_base.specs.Codes.{PRIVILEGE_MISSING}
use Rattle.au_base.specs.FirstCode.{first_code}
use Rattle.au_base.specs.declared.privilege.Privilege.{Privilege}
use Rattle.au_calls.specs.declared.rules.Effect.{Effect}
use Rattle.au_define.specs.Rules.{Rules, is_broken}
use Rattle.au_entries.specs.declared.change.Change.{Change}
use Rattle.au_entries.specs.declared.decision.Decision.{Decision}

-- Changes alone: nothing is purged, and no result of a condition is forgotten.
abbrev pub changes_alone : List Change → Effect
changes_alone changes = record { changes = changes; purge = None; forgets = [] }

-- What is decided by the right that the statement needs, and by the rules behind it: the first that is broken gives the
-- code. The privileges that are needed count as used unless the right is missing. Where any is broken nothing is changed,
-- nothing is purged and nothing is forgotten.
abbrev pub decided : Bool → Rules → List Privilege → Effect → Decision
decided barred others needed effect = record {
  code = first_code ((barred, PRIVILEGE_MISSING) ∷ others);
  used = if barred then [] else needed;
  changes = if barred || is_broken others then [] else effect.changes;
  purge = if barred || is_broken others then None else effect.purge;
  forgets = if barred || is_broken others then [] else effect.forgets;
}
