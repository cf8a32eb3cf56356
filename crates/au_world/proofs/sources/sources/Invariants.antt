use Rattle.std.proofs.Common.{◌≡◌, ◌++◌, drop, map}
use Rattle.std.specs.List.{AllByRecursion}
use Rattle.au_query.specs.Combos.{AreSoundRows, views}
use Rattle.au_world.specs.Inside.{IsFoundTable, told_by}
use Rattle.au_world.specs.Selecting.{seen_of}
use Rattle.au_world.specs.Sights.{sight_of}
use Rattle.au_world.proofs.sources.sources.Given as goal

abbrev pub invariant-loop-table : goal.invariant-loop-table
invariant-loop-table l =
    (map told_by l.sources.items ++ map (seen_of (sight_of l.world l.client)) (map (λ table. table.name) (drop l.table-index l.tables))
    ≡ map (seen_of (sight_of l.world l.client)) (map (λ table. table.name) l.tables))
    × AreSoundRows (views l.sources.items)
    × AllByRecursion (IsFoundTable l.world) (drop l.table-index l.tables)
