use Rattle.std.proofs.Common.{length}
use Rattle.au_io.specs.Areas.{On, Torn}
use Rattle.au_journal.proofs.Leaving.{stays_follows}
use Rattle.au_journal.proofs.synced.write_synced.Goals as goal

pub returns-clause-crash : goal.returns-clause-crash
returns-clause-crash g c =
    let laws = g.met.D.Disk g.world.𝓛 g.world.𝓜 g.world.𝓡 ((λ s x. x), (λ x. x), (λ x. x), λ x. x) in
    stays_follows (On c.args.area (Torn c.args.at (length c.args.bytes.now))) (g.D.Disk.meaning c.args.disk.now) (g.D.Disk.meaning c.write_at.new.self) (g.D.Disk.meaning c.sync.new.self)
    (laws.counts_now c.write_at.new.self) c.write_at.ensures.time c.write_at.ensures.crash c.sync.ensures.stays
