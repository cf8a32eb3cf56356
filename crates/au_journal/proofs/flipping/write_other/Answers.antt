use Rattle.au_io.specs.Areas.{On}
use Rattle.au_io.specs.Disk.{Follows}
use Rattle.au_io.specs.declared.disk.Area.{Area}
use Rattle.std.proofs.Common.{OnOk, subst}
use Rattle.au_journal.specs.Images.{AnyBytes, IsSafe}
use Rattle.au_journal.proofs.Flipped.{other_written, writing_since}
use Rattle.au_journal.proofs.Leaving.{on_both}
use Rattle.au_journal.proofs.flipping.write_other.Goals as goal

pub returns-clause-any_moment : goal.returns-clause-any_moment
returns-clause-any_moment g c = λ bodies settled.
    let old = g.D.Disk.meaning c.args.disk.now in
    let new = g.D.Disk.meaning c.write_area.new.disk in
    let P : Area → Type 0 = λ a. Follows (On a AnyBytes) old new in
    writing_since c.args.seat bodies old new settled.leaves (subst P c.beside.ensures c.write_area.ensures.crash)

pub returns-clause-written : goal.returns-clause-written
returns-clause-written g c = λ told bodies body is settled.
    let laws = g.met.D.Disk g.world.𝓛 g.world.𝓜 g.world.𝓡 ((λ s x. x), (λ x. x), (λ x. x), λ x. x) in
    let seat = c.args.seat in
    let old = g.D.Disk.meaning c.args.disk.now in
    let new = g.D.Disk.meaning c.write_area.new.disk in
    let P : Area → Type 0 = λ a. Follows (On a AnyBytes) old new in
    let S : Area → Type 0 = λ a. OnOk c.write_area.result (IsSafe a new) in
    on_both c.write_area.result _ _ _
    (other_written seat bodies old new c.args.framed.now body is (laws.counts_now c.write_area.new.disk) c.write_area.ensures.time settled.leaves (subst P c.beside.ensures c.write_area.ensures.crash))
    (subst S c.beside.ensures c.write_area.ensures.safe) (rw c.beside.ensures at (c.write_area.ensures.reads told))
