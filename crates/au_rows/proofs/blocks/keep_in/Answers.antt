use Rattle.au_rows.proofs.BlockLemmas.{filled-but-set}
use Rattle.au_rows.proofs.blocks.keep_in.Goals as goal

pub returns-clause-filled : goal.returns-clause-filled
returns-clause-filled c = filled-but-set c.args.blocks.now.items c.args.at _ c.requires.filled
