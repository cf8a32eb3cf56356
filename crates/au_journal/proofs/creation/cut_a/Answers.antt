use Rattle.std.proofs.Common.{[], ap, sym, ◌∙◌}
use Rattle.au_io.specs.declared.disk.Area.TheVariants.{A}
use Rattle.au_io.specs.Areas.{area_of, Cut, On}
use Rattle.au_io.specs.Moments.{both_pass}
use Rattle.au_journal.proofs.Leaving.{on_ok, stays_follows}
use Rattle.au_journal.proofs.Created.{only_since, only_after}
use Rattle.au_journal.proofs.creation.cut_a.Goals as goal

pub returns-in_err-cut-clause-any_moment : goal.returns-in_err-cut-clause-any_moment
returns-in_err-cut-clause-any_moment g c = λ all only.
    only_since A (Cut 0) (g.D.Disk.meaning c.args.disk.now) (g.D.Disk.meaning c.cut.new.self) all only c.cut.ensures.crash

pub returns-clause-any_moment : goal.returns-clause-any_moment
returns-clause-any_moment g c = λ all only.
    let laws = g.met.D.Disk g.world.𝓛 g.world.𝓜 g.world.𝓡 ((λ s x. x), (λ x. x), (λ x. x), λ x. x) in
    let old = g.D.Disk.meaning c.args.disk.now in
    let mid = g.D.Disk.meaning c.cut.new.self in
    let new = g.D.Disk.meaning c.sync.new.self in
    only_since A (Cut 0) old new all only (stays_follows (On A (Cut 0)) old mid new (laws.counts_now c.cut.new.self) c.cut.ensures.time c.cut.ensures.crash c.sync.ensures.stays)

pub returns-clause-done : goal.returns-clause-done
returns-clause-done g c = λ told all only.
    let laws = g.met.D.Disk g.world.𝓛 g.world.𝓜 g.world.𝓡 ((λ s x. x), (λ x. x), (λ x. x), λ x. x) in
    let old = g.D.Disk.meaning c.args.disk.now in
    let mid = g.D.Disk.meaning c.cut.new.self in
    let new = g.D.Disk.meaning c.sync.new.self in
    let stays = c.sync.ensures.stays in
    on_ok c.sync.result _ _ (λ durable.
    only_after A (Cut 0) old new all only (stays_follows (On A (Cut 0)) old mid new (laws.counts_now c.cut.new.self) c.cut.ensures.time c.cut.ensures.crash stays)
    [] (laws.counts_now c.sync.new.self) (both_pass old mid new c.cut.ensures.time stays.time) (ap (area_of A) stays.reads ∙ ap (area_of A) (c.in_ok-cut.ensures.cut told))
    (λ image is. durable image is ∙ ap (area_of A) (sym stays.reads)))
    c.sync.ensures.durable
