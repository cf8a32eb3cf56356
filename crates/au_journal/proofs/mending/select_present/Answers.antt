use Rattle.au_io.specs.Moments.{at_last}
use Rattle.au_journal.specs.Seats.{BothStand}
use Rattle.au_journal.proofs.Flipped.{present_selected, selecting_again}
use Rattle.au_journal.proofs.Leaving.{on_both}
use Rattle.au_journal.proofs.mending.select_present.Goals as goal

pub returns-clause-any_moment : goal.returns-clause-any_moment
returns-clause-any_moment g c = λ bodies others was.
    selecting_again c.args.seat bodies others (g.D.Disk.meaning c.args.disk.now) (g.D.Disk.meaning c.select.new.disk) was.has_frames was.leaves c.select.ensures.crash

pub returns-clause-selected : goal.returns-clause-selected
returns-clause-selected g c = λ told bodies others was.
    let laws = g.met.D.Disk g.world.𝓛 g.world.𝓜 g.world.𝓡 ((λ s x. x), (λ x. x), (λ x. x), λ x. x) in
    let old = g.D.Disk.meaning c.args.disk.now in
    let new = g.D.Disk.meaning c.select.new.disk in
    let leaves = at_last (BothStand c.args.seat bodies others) old new (laws.counts_now c.select.new.disk) c.select.ensures.time
    (selecting_again c.args.seat bodies others old new was.has_frames was.leaves c.select.ensures.crash) in
    on_both c.select.result _ _ _ (present_selected c.args.seat bodies others old new was.has_frames leaves) c.select.ensures.safe (c.select.ensures.reads told)
