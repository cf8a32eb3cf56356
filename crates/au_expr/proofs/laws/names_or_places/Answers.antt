use Rattle.au_expr.proofs.NamesOrPlaces.{same}
use Rattle.au_expr.proofs.laws.names_or_places.Goals as goal

pub returns : goal.returns
returns c ranges rows session x fits = same ranges rows session fits x
