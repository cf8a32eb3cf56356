use Rattle.std.proofs.Common.{drop}
use Rattle.std.specs.List.{AllByRecursion}
use Rattle.au_query.specs.Combos.{lines}
use Rattle.au_world.specs.Inside.{IsAloneUnder}
use Rattle.au_world.proofs.soundness.do_keys_differ.Given as goal

abbrev pub invariant-loop-number : goal.invariant-loop-number
invariant-loop-number l =
    let all = AllByRecursion (IsAloneUnder l.desk l.client l.table.name) in
    all (lines (drop l.number-index l.rows)) → all (lines l.rows)
