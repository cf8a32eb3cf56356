use Rattle.au_rows.proofs.EndLemmas.{loose-frees}
use Rattle.au_rows.proofs.ends.end_change.Goals as goal

pub drop_version-requires-clause-loose : goal.drop_version-requires-clause-loose
drop_version-requires-clause-loose c =
    loose-frees _ _ c.args.change.table c.args.change.number.0 c.args.change.slot c.end_row.ensures.row.frees c.requires.loose
