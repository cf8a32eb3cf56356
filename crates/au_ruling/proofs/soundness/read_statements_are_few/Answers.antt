use Rattle.au_ruling.proofs.ReadGrants.{read_few}
use Rattle.au_ruling.proofs.soundness.read_statements_are_few.Goals as goal

pub returns : goal.returns
returns c = read_few c.one_way.ensures.places
