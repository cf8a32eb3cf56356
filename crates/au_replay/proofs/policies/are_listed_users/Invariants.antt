use Rattle.std.proofs.Common.{◌≡◌, List, ℕ, drop, map}
use Rattle.std.specs.List.{list_all}
use Rattle.au_entries.specs.declared.policy.Outcomes.{Outcomes}
use Rattle.au_entries.specs.Replaying.{has_user}
use Rattle.au_replay.specs.Sights.{shown}
use Rattle.au_replay.proofs.policies.are_listed_users.Given as goal

abbrev pub invariant-loop-user : goal.invariant-loop-user
invariant-loop-user l = list_all (has_user (shown l.sight)) (map (λ (user : List ℕ × Outcomes). user.0) (drop l.user-index l.listed)) ≡ list_all (has_user (shown l.sight)) (map (λ (user : List ℕ × Outcomes). user.0) l.listed)
