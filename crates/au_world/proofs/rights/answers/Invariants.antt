use Rattle.std.proofs.Common.{◌++◌, drop, List}
use Rattle.std.specs.List.{AllZip}
use Rattle.au_priv.specs.declared.allowed.Allowed.{Allowed}
use Rattle.au_world.specs.Rights.{Answers}
use Rattle.au_world.proofs.rights.answers.Given as goal

abbrev pub invariant-loop-table : goal.invariant-loop-table
invariant-loop-table l =
    (rest : List Allowed)
    → AllZip (Answers l.world.catalog.now.tables l.world.grants.now l.user l.action) (drop l.table-index l.tables) rest
    → AllZip (Answers l.world.catalog.now.tables l.world.grants.now l.user l.action) l.tables (l.answers.items ++ rest)
