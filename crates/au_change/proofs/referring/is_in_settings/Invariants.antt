use Rattle.std.proofs.Common.{◌≡◌, drop}
use Rattle.std.specs.List.{list_any}
use Rattle.au_expr.specs.Ranges.{names_column}
use Rattle.au_change.specs.Inside.{set_trees}
use Rattle.au_change.proofs.referring.is_in_settings.Given as goal

abbrev pub invariant-loop-setting : goal.invariant-loop-setting
invariant-loop-setting l = list_any (names_column 0 l.number) (set_trees (drop l.setting-index l.settings)) ≡ list_any (names_column 0 l.number) (set_trees l.settings)
