use Rattle.au_kept.proofs.Tabled.{can_behind}
use Rattle.au_kept.proofs.settling.settle_desk.Goals as goal

pub edit_tables-requires-clause-can : goal.edit_tables-requires-clause-can
edit_tables-requires-clause-can c = can_behind c.args.commits c.args.desk.now c.commit_for.new.desk c.args.tables.items c.commit_for.ensures.open c.commit_for.ensures.tables c.requires.can
