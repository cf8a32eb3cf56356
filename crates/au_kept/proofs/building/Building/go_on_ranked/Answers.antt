use Rattle.au_kept.specs.Building.{kept_in}
use Rattle.au_kept.proofs.Ranked.{stay_ranked}
use Rattle.au_kept.proofs.building.Building.go_on_ranked.Goals as goal

pub returns-clause-roles : goal.returns-clause-roles
returns-clause-roles c = λ goes. stay_ranked c.args.ranks.now.entries c.args.change.now (kept_in c.args.self.now) (kept_in c.make.new.self) c.in_ok-make.ensures.kept c.requires.ranked c.requires.roles
