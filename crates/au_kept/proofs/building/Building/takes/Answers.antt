use Rattle.au_kept.specs.Building.{kept_in}
use Rattle.au_kept.proofs.Built.{takes_is}
use Rattle.au_replay.specs.Reading.{conditions}
use Rattle.au_replay.specs.Sights.{shown}
use Rattle.au_kept.proofs.building.Building.takes.Goals as goal

pub returns : goal.returns
returns c =
    takes_is c.args.image (kept_in c.args.self.now) (shown c.sight.result) c.args.change.now c.sight.ensures.shown
    (c.sights_suffice.ensures.goes conditions c.args.image (kept_in c.args.self.now) c.args.change.now) c.goes_on.result c.goes_on.ensures.goes
