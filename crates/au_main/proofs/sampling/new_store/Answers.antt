use Rattle.au_main.specs.Samples.{sample_password}
use Rattle.au_main.proofs.sampling.new_store.Goals as goal

pub opened-requires-clause-made : goal.opened-requires-clause-made
unfolding sample_password
opened-requires-clause-made g c κs within = c.create.ensures.done c.requires.told c.in-Done.is
