use Rattle.std.proofs.Common.{[], ◌∷◌, ap, ◌∙◌}
use Rattle.au_io.specs.declared.disk.Area.TheVariants.{A}
use Rattle.au_io.specs.Areas.{Areas, area_of, overwritten, Torn}
use Rattle.au_journal.specs.Creation.{a_selected}
use Rattle.au_journal.proofs.Leaving.{on_both}
use Rattle.au_journal.proofs.Created.{only_since, only_after}
use Rattle.au_journal.proofs.creation.shut_a.Goals as goal

pub returns-clause-any_moment : goal.returns-clause-any_moment
returns-clause-any_moment g c = λ all only.
    only_since A (Torn 0 1) (g.D.Disk.meaning c.args.disk.now) (g.D.Disk.meaning c.write_synced.new.disk) all only c.write_synced.ensures.crash

pub returns-clause-done : goal.returns-clause-done
returns-clause-done g c = λ told was only.
    let laws = g.met.D.Disk g.world.𝓛 g.world.𝓜 g.world.𝓡 ((λ s x. x), (λ x. x), (λ x. x), λ x. x) in
    let old = g.D.Disk.meaning c.args.disk.now in
    let new = g.D.Disk.meaning c.write_synced.new.disk in
    let all = a_selected was in
    on_both c.write_synced.result _ _ _ (λ safe reads.
    only_after A (Torn 0 1) old new all only c.write_synced.ensures.crash (overwritten all.a 0 (0 ∷ [])) (laws.counts_now c.write_synced.new.disk) c.write_synced.ensures.time
    (ap (area_of A) reads ∙ ap (λ (r : Areas). overwritten r.a 0 (0 ∷ [])) (only old.reads (laws.reads_is_image c.args.disk.now told))) safe)
    c.write_synced.ensures.safe (c.write_synced.ensures.reads told)
