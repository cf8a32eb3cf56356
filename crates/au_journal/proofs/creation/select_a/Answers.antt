use Rattle.std.proofs.Common.{[], ◌∷◌, ap, ◌∙◌}
use Rattle.au_io.specs.declared.disk.Area.TheVariants.{Head}
use Rattle.au_io.specs.Areas.{Areas, area_of, overwritten, Torn}
use Rattle.au_journal.specs.Creation.{a_cut}
use Rattle.au_journal.proofs.Leaving.{on_both}
use Rattle.au_journal.proofs.Created.{only_since, only_after}
use Rattle.au_journal.proofs.creation.select_a.Goals as goal

pub returns-clause-any_moment : goal.returns-clause-any_moment
returns-clause-any_moment g c = λ all only.
    only_since Head (Torn 0 1) (g.D.Disk.meaning c.args.disk.now) (g.D.Disk.meaning c.select.new.disk) all only c.select.ensures.crash

pub returns-clause-done : goal.returns-clause-done
returns-clause-done g c = λ told all only.
    let laws = g.met.D.Disk g.world.𝓛 g.world.𝓜 g.world.𝓡 ((λ s x. x), (λ x. x), (λ x. x), λ x. x) in
    let old = g.D.Disk.meaning c.args.disk.now in
    let new = g.D.Disk.meaning c.select.new.disk in
    on_both c.select.result _ _ _ (λ safe reads.
    only_after Head (Torn 0 1) old new (a_cut all) only c.select.ensures.crash (overwritten all.head 0 (65 ∷ [])) (laws.counts_now c.select.new.disk) c.select.ensures.time
    (ap (area_of Head) reads ∙ ap (λ (r : Areas). overwritten r.head 0 (65 ∷ [])) (only old.reads (laws.reads_is_image c.args.disk.now told))) safe)
    c.select.ensures.safe (c.select.ensures.reads told)
