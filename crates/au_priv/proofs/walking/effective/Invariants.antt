use Rattle.std.proofs.Common.{◌≡◌, take}
use Rattle.std.specs.List.{filter}
use Rattle.au_priv.specs.Walking.{is_effective}
use Rattle.au_priv.proofs.walking.effective.Given as goal

abbrev pub invariant-loop-change : goal.invariant-loop-change
invariant-loop-change l = l.changes ≡ filter (is_effective l.progress.after) (take l.change-index l.pair)
