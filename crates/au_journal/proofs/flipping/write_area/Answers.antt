use Rattle.std.proofs.Common.{◌∙◌}
use Rattle.au_io.specs.Areas.{On, Torn, Cut}
use Rattle.au_io.specs.Moments.{both_pass}
use Rattle.au_journal.specs.Images.{AnyBytes}
use Rattle.au_journal.proofs.Leaving.{any_bytes, both_follow, on_ok, stays_follows}
use Rattle.au_journal.proofs.Flipped.{area_read}
use Rattle.au_journal.proofs.flipping.write_area.Goals as goal

pub returns-in_err-cut-clause-crash : goal.returns-in_err-cut-clause-crash
returns-in_err-cut-clause-crash g c = any_bytes c.args.area (Cut 0) (g.D.Disk.meaning c.args.disk.now) (g.D.Disk.meaning c.cut.new.self) c.cut.ensures.crash

pub returns-in_err-write_at-clause-crash : goal.returns-in_err-write_at-clause-crash
returns-in_err-write_at-clause-crash g c =
    let laws = g.met.D.Disk g.world.𝓛 g.world.𝓜 g.world.𝓡 ((λ s x. x), (λ x. x), (λ x. x), λ x. x) in
    let area = c.args.area in
    let old = g.D.Disk.meaning c.args.disk.now in
    let one = g.D.Disk.meaning c.cut.new.self in
    let two = g.D.Disk.meaning c.write_at.new.self in
    both_follow area old one two (laws.counts_now c.cut.new.self) c.cut.ensures.time c.write_at.ensures.time
    (any_bytes area (Cut 0) old one c.cut.ensures.crash) (any_bytes area (Torn 0 _) one two c.write_at.ensures.crash)

pub returns-in_err-write_at-2-clause-crash : goal.returns-in_err-write_at-2-clause-crash
returns-in_err-write_at-2-clause-crash g c =
    let laws = g.met.D.Disk g.world.𝓛 g.world.𝓜 g.world.𝓡 ((λ s x. x), (λ x. x), (λ x. x), λ x. x) in
    let area = c.args.area in
    let old = g.D.Disk.meaning c.args.disk.now in
    let one = g.D.Disk.meaning c.cut.new.self in
    let two = g.D.Disk.meaning c.write_at.new.self in
    let three = g.D.Disk.meaning c.write_at-2.new.self in
    both_follow area old two three (laws.counts_now c.write_at.new.self) (both_pass old one two c.cut.ensures.time c.write_at.ensures.time) c.write_at-2.ensures.time
    (both_follow area old one two (laws.counts_now c.cut.new.self) c.cut.ensures.time c.write_at.ensures.time
    (any_bytes area (Cut 0) old one c.cut.ensures.crash) (any_bytes area (Torn 0 _) one two c.write_at.ensures.crash))
    (any_bytes area (Torn 14 _) two three c.write_at-2.ensures.crash)

pub returns-clause-crash : goal.returns-clause-crash
returns-clause-crash g c =
    let laws = g.met.D.Disk g.world.𝓛 g.world.𝓜 g.world.𝓡 ((λ s x. x), (λ x. x), (λ x. x), λ x. x) in
    let area = c.args.area in
    let old = g.D.Disk.meaning c.args.disk.now in
    let one = g.D.Disk.meaning c.cut.new.self in
    let two = g.D.Disk.meaning c.write_at.new.self in
    let three = g.D.Disk.meaning c.write_at-2.new.self in
    let new = g.D.Disk.meaning c.sync.new.self in
    let early = both_pass old one two c.cut.ensures.time c.write_at.ensures.time in
    stays_follows (On area AnyBytes) old three new (laws.counts_now c.write_at-2.new.self) (both_pass old two three early c.write_at-2.ensures.time)
    (both_follow area old two three (laws.counts_now c.write_at.new.self) early c.write_at-2.ensures.time
    (both_follow area old one two (laws.counts_now c.cut.new.self) c.cut.ensures.time c.write_at.ensures.time
    (any_bytes area (Cut 0) old one c.cut.ensures.crash) (any_bytes area (Torn 0 _) one two c.write_at.ensures.crash))
    (any_bytes area (Torn 14 _) two three c.write_at-2.ensures.crash))
    c.sync.ensures.stays

pub returns-clause-reads : goal.returns-clause-reads
returns-clause-reads g c = λ told.
    on_ok c.sync.result _ _ (λ durable.
    c.sync.ensures.stays.reads ∙ area_read c.args.area c.args.limit c.args.framed.now c.whole_head_of.result (g.D.Disk.meaning c.args.disk.now).reads (g.D.Disk.meaning c.cut.new.self).reads
    (g.D.Disk.meaning c.write_at.new.self).reads (g.D.Disk.meaning c.write_at-2.new.self).reads c.whole_head_of.ensures
    (c.in_ok-cut.ensures.cut told) (c.in_ok-write_at.ensures.written told) (c.in_ok-write_at-2.ensures.written told))
    c.sync.ensures.durable
