use Rattle.std.proofs.Common.{◌≡◌, ◌∙◌, subst, sym}
use Rattle.std.specs.Prelude.{IfOk}
use Rattle.au_entries.specs.declared.kept.Kept.{Kept}
use Rattle.au_image.specs.Image.{IsWritable, image_of}
use Rattle.rec_codec.specs.Frames.{IsSpellable, framed}
use Rattle.au_replay.specs.Reading.{conditions}
use Rattle.au_kept.proofs.Held.{as_told, writable}
use Rattle.au_kept.proofs.keeping.Keeping.image.Goals as goal

pub image-requires-clause-writable : goal.image-requires-clause-writable
image-requires-clause-writable c =
    let told = as_told c.self.inside.catalog c.self.inside.grants c.self.inside.desk c.all.result c.self.inside.instance c.self.inside.trail.items c.self.inside.last c.self.invariant.desk_is.quiet (c.all.ensures.records ∙ c.as_slice.ensures.value) c.all.ensures.last in
    subst IsWritable (sym told) (writable _ _ c.self.invariant)

pub image-requires-clause-desk : goal.image-requires-clause-desk
image-requires-clause-desk c = c.self.invariant.desk_is.tables_are

pub returns-clause-bytes : goal.returns-clause-bytes
returns-clause-bytes c =
    let told = as_told c.self.inside.catalog c.self.inside.grants c.self.inside.desk c.all.result c.self.inside.instance c.self.inside.trail.items c.self.inside.last c.self.invariant.desk_is.quiet (c.all.ensures.records ∙ c.as_slice.ensures.value) c.all.ensures.last in
    rw (← c.self.view_is) (subst (λ (kept : Kept). IfOk c.image.result (λ bytes. bytes.items ≡ framed (image_of kept))) told c.image.ensures.bytes)

pub returns-clause-spellable : goal.returns-clause-spellable
returns-clause-spellable c =
    let told = as_told c.self.inside.catalog c.self.inside.grants c.self.inside.desk c.all.result c.self.inside.instance c.self.inside.trail.items c.self.inside.last c.self.invariant.desk_is.quiet (c.all.ensures.records ∙ c.as_slice.ensures.value) c.all.ensures.last in
    rw (← c.self.view_is) (subst (λ (kept : Kept). IfOk c.image.result (λ bytes. IsSpellable (image_of kept))) told c.image.ensures.spellable)

pub returns-clause-back : goal.returns-clause-back
returns-clause-back c = rw (← c.self.view_is) (c.images_lead_back.ensures.back conditions _ c.self.invariant.kept_is)

pub returns-clause-goes : goal.returns-clause-goes
returns-clause-goes c = rw (← c.self.view_is) (c.images_lead_back.ensures.goes conditions _ c.self.invariant.kept_is)
