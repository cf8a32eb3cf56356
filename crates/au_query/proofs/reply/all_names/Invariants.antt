use Rattle.std.proofs.Common.{◌≡◌, ◌++◌, drop}
use Rattle.std.specs.List.{flat_map}
use Rattle.au_query.specs.Queries.{names_of_range}
use Rattle.au_query.proofs.reply.all_names.Given as goal

abbrev pub invariant-loop-columns : goal.invariant-loop-columns
invariant-loop-columns l = l.names ++ flat_map names_of_range (drop l.columns-index l.ranges) ≡ flat_map names_of_range l.ranges
