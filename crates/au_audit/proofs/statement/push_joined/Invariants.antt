use Rattle.std.proofs.Common.{◌≡◌, ◌++◌, map, take}
use Rattle.au_base.specs.BuiltIn.{resolved_table}
use Rattle.au_audit.proofs.statement.push_joined.Given as goal

abbrev pub invariant-loop-join : goal.invariant-loop-join
invariant-loop-join l = l.tables ≡ l.fn.tables ++ map (resolved_table l.user) (map (λ join. join.table.table) (take l.join-index l.joins))
