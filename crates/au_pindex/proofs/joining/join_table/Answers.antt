use Rattle.std.proofs.Common.{refl}
use Rattle.std.specs.Prelude.{◌==◌}
use Rattle.au_base.specs.Sameness.{same_table}
use Rattle.au_pindex.specs.Indexing.{table_cmp}
use Rattle.au_pindex.proofs.Keys.{added_at, table_same}
use Rattle.au_pindex.proofs.joining.join_table.Goals as goal

pub returns-clause-joined : goal.returns-clause-joined
returns-clause-joined c = λ other at. added_at table_cmp same_table table_same c.args.table.now c.args.table.now other (c.args.place == at) _ _ refl (c.join.ensures.joined other at)
