use Rattle.std.proofs.Common.{◌≡◌, drop}
use Rattle.au_kept.specs.Staging.{last_start, later_start}
use Rattle.au_kept.proofs.parting.last_start.Given as goal

abbrev pub invariant-loop-change : goal.invariant-loop-change
invariant-loop-change l = later_start (last_start (drop l.change-index l.changes)) l.last ≡ last_start l.changes
