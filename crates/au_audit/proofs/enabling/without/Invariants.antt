use Rattle.std.proofs.Common.{◌≡◌, not, take}
use Rattle.std.specs.List.{filter}
use Rattle.au_entries.specs.Enabling.{is_among}
use Rattle.au_audit.proofs.enabling.without.Given as goal

abbrev pub invariant-loop-entry : goal.invariant-loop-entry
invariant-loop-entry l = l.left.items ≡ filter (λ entry. not (is_among l.users.keys entry.0)) (take l.entry-index l.listed)
