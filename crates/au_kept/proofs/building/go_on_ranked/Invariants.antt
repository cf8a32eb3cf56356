use Rattle.std.proofs.Common.{◌≡◌, drop}
use Rattle.std.specs.Prelude.{◌↔◌}
use Rattle.std.specs.List.{AllByRecursion}
use Rattle.au_entries.specs.Changing.{changed_all}
use Rattle.au_entries.specs.Replaying.{AllGoOn}
use Rattle.au_kept.specs.Building.{IsFirm, kept_in}
use Rattle.au_kept.specs.Ranks.{AreRanked, IsRanked}
use Rattle.au_replay.specs.Reading.{HasShortText, conditions}
use Rattle.au_kept.proofs.building.go_on_ranked.Given as goal

abbrev pub invariant-loop-change : goal.invariant-loop-change
invariant-loop-change l = record {
  firm : IsFirm l.building;
  short : AllByRecursion HasShortText (drop l.change-index l.changes);
  ranked : AllByRecursion (IsRanked l.ranks.entries) (drop l.change-index l.changes);
  roles : AreRanked l.ranks.entries (kept_in l.building).grants.role;
  goes : AllGoOn conditions l.image (kept_in l.fn.building) l.changes ↔ AllGoOn conditions l.image (kept_in l.building) (drop l.change-index l.changes);
  made : changed_all conditions.tree (drop l.change-index l.changes) (kept_in l.building) ≡ changed_all conditions.tree l.changes (kept_in l.fn.building);
}
