use Rattle.au_world.specs.Inside.{whole_of}
use Rattle.au_world.specs.Sights.{sight_of}
use Rattle.au_world.proofs.Answered.{counted_told}
use Rattle.au_world.proofs.query.count_whole.Goals as goal

pub count-requires : goal.count-requires
count-requires c = (c.in_ok-source.ensures.sound, tt)

pub returns : goal.returns
returns c =
    let asked = c.args.asked.now in
    counted_told asked.session.now asked.range.now c.in_ok-source.source (whole_of (sight_of c.args.world.now asked.client) asked.table.now) asked.count.now c.in_ok-selected.selected c.in_ok-source.ensures.seen c.in_ok-selected.ensures
