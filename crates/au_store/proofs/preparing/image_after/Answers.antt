use Rattle.std.proofs.Common.{List, Some, ℕ, sym, subst, ◌∙◌}
use Rattle.au_engine.specs.Prepared.{after, logged_of}
use Rattle.au_store.specs.descent.Making.{IsImageFor}
use Rattle.au_store.proofs.Imaged.{image_for, leads_by, no_image}
use Rattle.au_store.proofs.preparing.image_after.Goals as goal

pub returns-then-not-purges : goal.returns-then-not-purges
returns-then-not-purges c =
    let m = c.args.engine.now.state in
    let prepared = c.args.prepared.now in
    no_image (after prepared m).kept (logged_of prepared).purge (sym c.purges.ensures ∙ c.if-not-purges.true)

pub image_after-requires-clause-leads : goal.image_after-requires-clause-leads
image_after-requires-clause-leads c =
    let m = c.args.engine.now.state in
    let prepared = c.args.prepared.now in
    leads_by m.kept (after prepared m).kept prepared.framed c.requires.carries

pub returns : goal.returns
returns c =
    let m = c.args.engine.now.state in
    let prepared = c.args.prepared.now in
    let next = (after prepared m).kept in
    subst (λ (b : List ℕ). IsImageFor next (logged_of prepared).purge (Some b)) (sym c.from_vec.ensures)
    (image_for next (logged_of prepared).purge c.in_ok-image.image.items (sym c.purges.ensures ∙ c.if-not-purges.false) c.in_ok-image.ensures.bytes c.in_ok-image.ensures.spellable
    (c.images_come_back.ensures.kept next c.requires.fits.lawful.kept c.requires.ends))
