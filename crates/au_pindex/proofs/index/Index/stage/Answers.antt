use Rattle.au_pindex.proofs.Afterwards.{keeps_index}
use Rattle.au_pindex.proofs.index.Index.stage.Goals as goal

pub returns-clause-index : goal.returns-clause-index
returns-clause-index c = keeps_index c.args.catalog.now c.args.self.now c.staged.new.index c.staged.ensures.keeps c.requires.index
