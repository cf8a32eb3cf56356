use Rattle.std.proofs.Common.{drop}
use Rattle.std.specs.List.{AllByRecursion}
use Rattle.au_entries.specs.declared.table.Table.{Table}
use Rattle.au_world.specs.Sound.{IsOpenTable, IsSeenSoundly}
use Rattle.au_world.proofs.soundness.are_seen_soundly.Given as goal

abbrev pub invariant-loop-table : goal.invariant-loop-table
invariant-loop-table l =
    let all = AllByRecursion (λ (table : Table). IsSeenSoundly l.desk l.client table.name) in
    (all (drop l.table-index l.tables) → all l.tables) × AllByRecursion (IsOpenTable l.desk) (drop l.table-index l.tables)
