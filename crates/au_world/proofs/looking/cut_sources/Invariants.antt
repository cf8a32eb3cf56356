use Rattle.std.proofs.Common.{◌++◌, drop, List, map}
use Rattle.std.specs.List.{AllByRecursion, AllZip, enumerate_from}
use Rattle.au_query.specs.Combos.{AreSoundRows, views}
use Rattle.au_world.specs.Cutting.{IsPart}
use Rattle.au_world.specs.Inside.{IsFoundTable, conditions_asked, names_in, told_by, wholes}
use Rattle.au_world.specs.Selecting.{Seen}
use Rattle.au_world.specs.Sights.{sight_of}
use Rattle.au_world.proofs.looking.cut_sources.Given as goal

abbrev pub invariant-loop-place : goal.invariant-loop-place
invariant-loop-place l =
    ((rest : List Seen)
    → AllZip (IsPart l.asked.session.now (conditions_asked l.asked) (names_in l.asked.tables.now)) (enumerate_from l.place (wholes (sight_of l.world l.asked.client) (drop l.place l.asked.tables.now))) rest
    → AllZip (IsPart l.asked.session.now (conditions_asked l.asked) (names_in l.asked.tables.now)) (enumerate_from 0 (wholes (sight_of l.world l.asked.client) l.asked.tables.now)) (map told_by l.sources.items ++ rest))
    × AreSoundRows (views l.sources.items)
    × AllByRecursion (IsFoundTable l.world) (drop l.place l.asked.tables.now)
