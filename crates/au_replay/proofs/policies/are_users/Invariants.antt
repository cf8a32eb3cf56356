use Rattle.std.proofs.Common.{◌≡◌, drop}
use Rattle.std.specs.List.{list_all}
use Rattle.au_entries.specs.Replaying.{has_user}
use Rattle.au_replay.specs.Sights.{shown}
use Rattle.au_replay.proofs.policies.are_users.Given as goal

abbrev pub invariant-loop-name : goal.invariant-loop-name
invariant-loop-name l = list_all (has_user (shown l.sight)) (drop l.name-index l.names) ≡ list_all (has_user (shown l.sight)) l.names
