use Rattle.au_fga.proofs.LawfulTables.{none_fired}
use Rattle.au_fga.proofs.laws.refused_statements_fire_nothing.Goals as goal

pub returns : goal.returns
returns c = λ truth code facts policies refused. none_fired truth code facts policies refused
