use Rattle.std.proofs.Common.{◌∷◌, [], refl}
use Rattle.au_world.specs.Inside.{told_by, whole_of}
use Rattle.au_world.specs.Sights.{sight_of}
use Rattle.au_world.proofs.Answered.{counted_told}
use Rattle.au_world.proofs.CutCounts.{counts_alike}
use Rattle.au_world.proofs.query.count_under.Goals as goal

pub count-requires : goal.count-requires
count-requires c = (c.in_ok-source.ensures.sound, tt)

pub returns : goal.returns
returns c =
    let asked = c.args.asked.now in
    let source = c.in_ok-source.source in
    counts_alike asked.session.now asked.range.now (asked.table.now.name ∷ []) (whole_of (sight_of c.args.world.now asked.client) asked.table.now) (told_by source) asked.count.now c.in_ok-selected.selected
    c.in_ok-source.ensures.cut c.requires.key.few c.requires.key.never c.count_source.ensures.whole c.in_ok-source.ensures.sound
    (counted_told asked.session.now asked.range.now source (told_by source) asked.count.now c.in_ok-selected.selected refl c.in_ok-selected.ensures)
