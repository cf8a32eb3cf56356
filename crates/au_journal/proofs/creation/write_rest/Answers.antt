use Rattle.std.proofs.Common.{◌∷◌, length, ap, ◌∙◌}
use Rattle.au_io.specs.declared.disk.Area.TheVariants.{A}
use Rattle.au_io.specs.Areas.{Areas, area_of, overwritten}
use Rattle.au_journal.specs.Frames.{new_rest}
use Rattle.au_journal.proofs.Leaving.{on_both}
use Rattle.au_journal.proofs.Created.{first_since, rest_since, rest_only, rest_is}
use Rattle.au_journal.proofs.creation.write_rest.Goals as goal

pub returns-in_err-write_at-clause-any_moment : goal.returns-in_err-write_at-clause-any_moment
returns-in_err-write_at-clause-any_moment g c = λ all only.
    let laws = g.met.D.Disk g.world.𝓛 g.world.𝓜 g.world.𝓡 ((λ s x. x), (λ x. x), (λ x. x), λ x. x) in
    first_since _ (length c.args.framed.now) (g.D.Disk.meaning c.args.disk.now) (g.D.Disk.meaning c.write_at.new.self) (g.D.Disk.meaning c.write_at.new.self) all only
    (laws.counts_now c.write_at.new.self) c.write_at.ensures.crash c.write_at.ensures.time

pub returns-clause-any_moment : goal.returns-clause-any_moment
returns-clause-any_moment g c = λ all only.
    let laws = g.met.D.Disk g.world.𝓛 g.world.𝓜 g.world.𝓡 ((λ s x. x), (λ x. x), (λ x. x), λ x. x) in
    rest_since _ (length c.args.framed.now) (g.D.Disk.meaning c.args.disk.now) (g.D.Disk.meaning c.write_at.new.self) (g.D.Disk.meaning c.write_synced.new.disk) all only
    (laws.counts_now c.write_at.new.self) c.write_at.ensures.crash c.write_at.ensures.time c.write_synced.ensures.crash c.write_synced.ensures.time

pub returns-clause-done : goal.returns-clause-done
returns-clause-done g c = λ told all only.
    let laws = g.met.D.Disk g.world.𝓛 g.world.𝓜 g.world.𝓡 ((λ s x. x), (λ x. x), (λ x. x), λ x. x) in
    let old = g.D.Disk.meaning c.args.disk.now in
    let mid = g.D.Disk.meaning c.write_at.new.self in
    let new = g.D.Disk.meaning c.write_synced.new.disk in
    let framed = c.args.framed.now in
    let shut = only old.reads (laws.reads_is_image c.args.disk.now told) in
    on_both c.write_synced.result _ _ _ (λ safe reads.
    rest_only _ (length framed) old mid new all only (laws.counts_now c.write_at.new.self) c.write_at.ensures.crash c.write_at.ensures.time c.write_synced.ensures.crash c.write_synced.ensures.time
    (laws.counts_now c.write_synced.new.disk) (0 ∷ new_rest c.args.limit framed)
    (ap (area_of A) reads ∙ ap (λ (r : Areas). overwritten r.a 14 framed) (c.in_ok-write_at.ensures.written told)
    ∙ rest_is old.reads.a c.head_of.result framed c.args.limit (ap (area_of A) shut) c.head_of.ensures)
    safe)
    c.write_synced.ensures.safe (c.write_synced.ensures.reads told)
