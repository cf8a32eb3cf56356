use Rattle.std.proofs.Common.{◌+◌, length}
use Rattle.au_io.specs.Areas.{area_of, overwritten, Torn}
use Rattle.au_journal.specs.Images.{Closed, Staged}
use Rattle.au_journal.proofs.Leaving.{written, wrote, on_both}
use Rattle.au_journal.proofs.Lists.{behind_torn, behind_done}
use Rattle.au_journal.proofs.gates.stage.Goals as goal

pub returns-clause-any_moment : goal.returns-clause-any_moment
returns-clause-any_moment g c = λ front place leaves.
    wrote c.args.area (Closed front) (Closed front) (Closed front) (Torn (c.args.used + 1) (length c.args.bytes.now)) (g.D.Disk.meaning c.args.disk.now) (g.D.Disk.meaning c.write_synced.new.disk)
    (behind_torn front c.args.used place (length c.args.bytes.now)) leaves c.write_synced.ensures.crash

pub returns-clause-staged : goal.returns-clause-staged
returns-clause-staged g c = λ told front place leaves.
    let laws = g.met.D.Disk g.world.𝓛 g.world.𝓜 g.world.𝓡 ((λ s x. x), (λ x. x), (λ x. x), λ x. x) in
    let old = g.D.Disk.meaning c.args.disk.now in
    let new = g.D.Disk.meaning c.write_synced.new.disk in
    let area = area_of c.args.area old.reads in
    let here = (leaves old.reads (laws.reads_is_image c.args.disk.now told)).here in
    on_both c.write_synced.result _ _ _
    (written c.args.area (Closed front) (Closed front) (Staged front c.args.bytes.now) (Torn (c.args.used + 1) (length c.args.bytes.now)) old new
    (behind_torn front c.args.used place (length c.args.bytes.now)) leaves c.write_synced.ensures.crash
    (overwritten area (c.args.used + 1) c.args.bytes.now) (laws.counts_now c.write_synced.new.disk) c.write_synced.ensures.time (behind_done front c.args.used place c.args.bytes.now area here))
    c.write_synced.ensures.safe (c.write_synced.ensures.reads told)
