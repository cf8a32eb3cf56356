-- Which changes are of what an index is made of: where none of several is, the index stays as it is.
use Rattle.std.specs.Prelude.{Bool, true, false}
use Rattle.au_entries.specs.declared.change.Change.{Change}
use Rattle.au_entries.specs.declared.change.Change.TheVariants.{UserGone, Policy, PolicyGone, Enable}

-- the change is of audit policies or of their enablements, from which a user who is dropped goes too
abbrev pub changes_policies : Change → Bool
changes_policies (UserGone name) = true
changes_policies (Policy name privileges actions roles when) = true
changes_policies (PolicyGone name) = true
changes_policies (Enable policy enabled) = true
changes_policies _ = false
