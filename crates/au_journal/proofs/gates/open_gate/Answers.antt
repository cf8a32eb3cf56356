use Rattle.std.proofs.Common.{◌++◌, [], ◌∷◌, List, ℕ}
use Rattle.au_io.specs.Areas.{area_of, overwritten, Torn}
use Rattle.au_journal.specs.Images.{Closed, Staged, Doubted}
use Rattle.au_journal.proofs.Leaving.{written, wrote, on_both}
use Rattle.au_journal.proofs.Lists.{gate_torn, opened, staged_is_doubted}
use Rattle.au_journal.proofs.gates.open_gate.Goals as goal

pub returns-clause-any_moment : goal.returns-clause-any_moment
returns-clause-any_moment g c = λ front bytes place leaves.
    wrote c.args.area (Staged front bytes) (Doubted front bytes) (Doubted front bytes) (Torn c.args.used 1) (g.D.Disk.meaning c.args.disk.now) (g.D.Disk.meaning c.write_synced.new.disk)
    (λ d b is torn. gate_torn front c.args.used place bytes d b (staged_is_doubted front bytes d is) torn) leaves c.write_synced.ensures.crash

pub returns-clause-opened : goal.returns-clause-opened
returns-clause-opened g c = λ told front inner place leaves.
    let laws = g.met.D.Disk g.world.𝓛 g.world.𝓜 g.world.𝓡 ((λ s x. x), (λ x. x), (λ x. x), λ x. x) in
    let old = g.D.Disk.meaning c.args.disk.now in
    let new = g.D.Disk.meaning c.write_synced.new.disk in
    let area = area_of c.args.area old.reads in
    let bytes : List ℕ = inner ++ 0 ∷ [] in
    let here = (leaves old.reads (laws.reads_is_image c.args.disk.now told)).here in
    on_both c.write_synced.result _ _ _
    (written c.args.area (Staged front bytes) (Doubted front bytes) (Closed (front ++ 165 ∷ inner)) (Torn c.args.used 1) old new
    (λ d b is torn. gate_torn front c.args.used place bytes d b (staged_is_doubted front bytes d is) torn) leaves c.write_synced.ensures.crash
    (overwritten area c.args.used (165 ∷ [])) (laws.counts_now c.write_synced.new.disk) c.write_synced.ensures.time (opened front c.args.used place inner area here))
    c.write_synced.ensures.safe (c.write_synced.ensures.reads told)
