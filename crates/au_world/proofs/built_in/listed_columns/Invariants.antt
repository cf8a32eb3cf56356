use Rattle.std.proofs.Common.{◌≡◌, ◌++◌, drop, map}
use Rattle.std.specs.List.{AllByRecursion}
use Rattle.au_world.specs.Inside.{IsLong, listed_of}
use Rattle.au_world.proofs.built_in.listed_columns.Given as goal

abbrev pub invariant-loop-name : goal.invariant-loop-name
invariant-loop-name l =
    (l.listed ++ map listed_of (drop l.name-index l.columns) ≡ map listed_of l.columns)
    × AllByRecursion IsLong (drop l.name-index l.columns)
