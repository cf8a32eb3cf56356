use Rattle.std.proofs.Common.{[], ◌∷◌}
use Rattle.au_io.specs.Areas.{area_of, overwritten, Torn}
use Rattle.au_journal.specs.Images.{Closed, Doubted, TornEnd}
use Rattle.au_journal.proofs.Leaving.{written, wrote, on_both}
use Rattle.au_journal.proofs.Lists.{gate_torn, closed_again, end_torn, end_closed}
use Rattle.au_journal.proofs.gates.close_gate.Goals as goal

pub returns-clause-any_moment : goal.returns-clause-any_moment
returns-clause-any_moment g c = λ front bytes place leaves.
    wrote c.args.area (Doubted front bytes) (Doubted front bytes) (Doubted front bytes) (Torn c.args.used 1) (g.D.Disk.meaning c.args.disk.now) (g.D.Disk.meaning c.write_synced.new.disk)
    (gate_torn front c.args.used place bytes) leaves c.write_synced.ensures.crash

pub returns-clause-closed : goal.returns-clause-closed
returns-clause-closed g c = λ told front bytes place leaves.
    let laws = g.met.D.Disk g.world.𝓛 g.world.𝓜 g.world.𝓡 ((λ s x. x), (λ x. x), (λ x. x), λ x. x) in
    let old = g.D.Disk.meaning c.args.disk.now in
    let new = g.D.Disk.meaning c.write_synced.new.disk in
    let area = area_of c.args.area old.reads in
    let here = (leaves old.reads (laws.reads_is_image c.args.disk.now told)).here in
    on_both c.write_synced.result _ _ _
    (written c.args.area (Doubted front bytes) (Doubted front bytes) (Closed front) (Torn c.args.used 1) old new
    (gate_torn front c.args.used place bytes) leaves c.write_synced.ensures.crash
    (overwritten area c.args.used (0 ∷ [])) (laws.counts_now c.write_synced.new.disk) c.write_synced.ensures.time (closed_again front c.args.used place bytes area here))
    c.write_synced.ensures.safe (c.write_synced.ensures.reads told)

pub returns-clause-end_any_moment : goal.returns-clause-end_any_moment
returns-clause-end_any_moment g c = λ front place leaves.
    wrote c.args.area (TornEnd front) (TornEnd front) (TornEnd front) (Torn c.args.used 1) (g.D.Disk.meaning c.args.disk.now) (g.D.Disk.meaning c.write_synced.new.disk)
    (end_torn front c.args.used place) leaves c.write_synced.ensures.crash

pub returns-clause-end_closed : goal.returns-clause-end_closed
returns-clause-end_closed g c = λ told front place leaves.
    let laws = g.met.D.Disk g.world.𝓛 g.world.𝓜 g.world.𝓡 ((λ s x. x), (λ x. x), (λ x. x), λ x. x) in
    let old = g.D.Disk.meaning c.args.disk.now in
    let new = g.D.Disk.meaning c.write_synced.new.disk in
    let area = area_of c.args.area old.reads in
    let here = (leaves old.reads (laws.reads_is_image c.args.disk.now told)).here in
    on_both c.write_synced.result _ _ _
    (written c.args.area (TornEnd front) (TornEnd front) (Closed front) (Torn c.args.used 1) old new
    (end_torn front c.args.used place) leaves c.write_synced.ensures.crash
    (overwritten area c.args.used (0 ∷ [])) (laws.counts_now c.write_synced.new.disk) c.write_synced.ensures.time (end_closed front c.args.used place area here))
    c.write_synced.ensures.safe (c.write_synced.ensures.reads told)
