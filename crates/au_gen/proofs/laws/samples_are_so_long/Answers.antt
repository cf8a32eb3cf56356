use Rattle.au_gen.proofs.Sampled.{sample_length}
use Rattle.au_gen.proofs.laws.samples_are_so_long.Goals as goal

pub returns : goal.returns
returns c = λ seed rows. sample_length seed rows
