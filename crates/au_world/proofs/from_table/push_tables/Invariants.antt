use Rattle.std.proofs.Common.{◌≡◌, ◌++◌, map, take}
use Rattle.std.specs.List.{AllByRecursion}
use Rattle.au_world.specs.Inside.{IsMade}
use Rattle.au_world.specs.Selecting.{joined_tables, meant}
use Rattle.au_world.proofs.from_table.push_tables.Given as goal

abbrev pub invariant-loop-join : goal.invariant-loop-join
invariant-loop-join l =
    (map (λ table. table.name) l.tables.items ≡ map (λ table. table.name) l.fn.tables.items ++ map (meant l.user) (joined_tables (take l.join-index l.joins)))
    × AllByRecursion (IsMade l.records) l.tables.items
