use Rattle.au_literals.proofs.Read.{read_sound}
use Rattle.au_literals.proofs.laws.literals_are_sound.Goals as goal

pub returns : goal.returns
returns c text statement reads = read_sound text statement reads
