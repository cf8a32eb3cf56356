use Rattle.std.proofs.Common.{ap, ◌∙◌}
use Rattle.au_io.specs.Areas.{area_of}
use Rattle.au_io.specs.Moments.{at_last}
use Rattle.au_journal.specs.Images.{other_of}
use Rattle.au_journal.specs.Seats.{BothStand}
use Rattle.au_journal.proofs.Flipped.{either_safe, letter_elsewhere, not_head, other_selected, safe_kept, selecting_since}
use Rattle.au_journal.proofs.Leaving.{on_both}
use Rattle.au_journal.proofs.flipping.select_other.Goals as goal

pub returns-clause-any_moment : goal.returns-clause-any_moment
returns-clause-any_moment g c = λ bodies others leaves.
    selecting_since c.args.seat bodies others (g.D.Disk.meaning c.args.disk.now) (g.D.Disk.meaning c.select.new.disk) leaves c.select.ensures.crash

pub returns-clause-selected : goal.returns-clause-selected
returns-clause-selected g c = λ told bodies others leaves.
    let laws = g.met.D.Disk g.world.𝓛 g.world.𝓜 g.world.𝓡 ((λ s x. x), (λ x. x), (λ x. x), λ x. x) in
    let seat = c.args.seat in
    let old = g.D.Disk.meaning c.args.disk.now in
    let new = g.D.Disk.meaning c.select.new.disk in
    let here = (leaves old.reads (laws.reads_is_image c.args.disk.now told)).present in
    let both = at_last (BothStand seat bodies others) old new (laws.counts_now c.select.new.disk) c.select.ensures.time
    (selecting_since seat bodies others old new leaves c.select.ensures.crash) in
    on_both c.select.result _ _ _ (other_selected seat bodies others old new (not_head seat.area old.reads.head here.selected) both)
    c.select.ensures.safe (rw c.beside.ensures at (c.select.ensures.reads told))

pub returns-clause-other_safe : goal.returns-clause-other_safe
returns-clause-other_safe g c = λ told was.
    let laws = g.met.D.Disk g.world.𝓛 g.world.𝓜 g.world.𝓡 ((λ s x. x), (λ x. x), (λ x. x), λ x. x) in
    let other = other_of c.args.seat.area in
    let old = g.D.Disk.meaning c.args.disk.now in
    let new = g.D.Disk.meaning c.select.new.disk in
    on_both c.select.result _ _ _ (λ safe reads.
    either_safe other new safe (λ not. safe_kept other old new not (laws.counts_now c.select.new.disk) c.select.ensures.time c.select.ensures.crash was
    (ap (area_of other) reads ∙ letter_elsewhere other other old.reads not)))
    c.select.ensures.safe (rw c.beside.ensures at (c.select.ensures.reads told))
