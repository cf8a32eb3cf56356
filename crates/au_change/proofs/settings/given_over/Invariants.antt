use Rattle.std.proofs.Common.{◌≡◌, drop, take}
use Rattle.au_change.specs.Inside.{settings_cells, settings_code}
use Rattle.au_change.proofs.settings.given_over.Given as goal

abbrev pub invariant-loop-setting : goal.invariant-loop-setting
invariant-loop-setting l = record {
  code : settings_code l.session (drop l.setting-index l.settings) l.row ≡ settings_code l.session l.settings l.row;
  cells : l.given.items ≡ settings_cells l.session (take l.setting-index l.settings) l.row;
}
