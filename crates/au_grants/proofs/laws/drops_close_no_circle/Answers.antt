use Rattle.au_grants.proofs.Circles.{drop_keeps}
use Rattle.au_grants.proofs.laws.drops_close_no_circle.Goals as goal

pub returns : goal.returns
returns c grants change drop clear = drop_keeps change grants drop clear
