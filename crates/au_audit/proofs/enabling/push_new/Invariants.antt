use Rattle.std.proofs.Common.{◌≡◌, ◌++◌, map, not, take}
use Rattle.std.specs.List.{filter}
use Rattle.au_entries.specs.Enabling.{is_among}
use Rattle.au_audit.proofs.enabling.push_new.Given as goal

abbrev pub invariant-loop-user : goal.invariant-loop-user
invariant-loop-user l = l.all.items ≡ l.fn.all.items ++ map (λ user. (user, l.outcomes)) (filter (λ user. not (is_among l.listed.keys user)) (take l.user-index l.users))
