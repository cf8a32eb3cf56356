use Rattle.au_rows.proofs.DropLemmas.{freed-here, freed-only, freed-others}
use Rattle.au_rows.proofs.dropping.free_of.Goals as goal

pub returns-clause-others : goal.returns-clause-others
returns-clause-others c = freed-others c.args.table _ _ c.args.place c.free.ensures.frees c.requires.loose c.requires.same

pub returns-clause-frees : goal.returns-clause-frees
returns-clause-frees c = freed-only _ _ c.args.place.settled c.free.ensures.frees

pub returns-clause-freed : goal.returns-clause-freed
returns-clause-freed c = freed-here _ _ c.args.table c.args.place c.free.ensures.frees
