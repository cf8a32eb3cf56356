use Rattle.std.proofs.Common.{◌≡◌, ◌+◌, ◌++◌, drop, map}
use Rattle.std.specs.List.{enumerate_from}
use Rattle.au_query.specs.Queries.{item_name}
use Rattle.au_query.proofs.reply.listed_names.Given as goal

abbrev pub invariant-loop-number : goal.invariant-loop-number
invariant-loop-number l = l.names ++ map item_name (enumerate_from (l.number + 1) (drop l.number l.items)) ≡ map item_name (enumerate_from 1 l.items)
