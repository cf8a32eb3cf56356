use Rattle.std.proofs.Common.{◌≡◌, ◌++◌, drop}
use Rattle.au_query.specs.Queries.{names_of_columns}
use Rattle.au_query.proofs.reply.add_names.Given as goal

abbrev pub invariant-loop-column : goal.invariant-loop-column
invariant-loop-column l = l.names ++ names_of_columns (drop l.column-index l.columns) ≡ l.initial.names ++ names_of_columns l.columns
