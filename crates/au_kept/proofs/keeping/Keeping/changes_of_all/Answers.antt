use Rattle.std.proofs.Common.{◌≡◌, ◌∙◌, [], arith, subst, sym}
use Rattle.au_entries.specs.declared.kept.Kept.{Kept}
use Rattle.au_image.specs.Image.{IsWritable, image_of, kept_of, kept_rows}
use Rattle.au_kept.proofs.Held.{as_told, bare_writable}
use Rattle.au_kept.proofs.keeping.Keeping.changes_of_all.Goals as goal
use Rattle.rec_codec.specs.Frames.{IsSpellable, framed}

pub image-requires-clause-writable : goal.image-requires-clause-writable
image-requires-clause-writable c =
    let told = as_told c.self.inside.catalog c.self.inside.grants c.self.inside.desk c.all.result c.self.inside.instance [] (record { 0 = 0 }) c.self.invariant.desk_is.quiet c.all.ensures.records c.all.ensures.last in
    subst IsWritable (sym told) (bare_writable _ _ c.self.invariant)

pub image-requires-clause-desk : goal.image-requires-clause-desk
image-requires-clause-desk c = c.self.invariant.desk_is.tables_are

pub changes_in-requires : goal.changes_in-requires
changes_in-requires c =
    let told = as_told c.self.inside.catalog c.self.inside.grants c.self.inside.desk c.all.result c.self.inside.instance [] (record { 0 = 0 }) c.self.invariant.desk_is.quiet c.all.ensures.records c.all.ensures.last in
    record {
      framed = (
        kept_of c.self.inside.catalog c.self.inside.grants (kept_rows c.self.inside.desk) [] (record { 0 = 0 }) c.self.inside.instance,
        subst (λ (kept : Kept). IsSpellable (image_of kept)) told c.in_ok-bytes.ensures.spellable,
        c.as_slice.ensures.value ∙ subst (λ (kept : Kept). c.in_ok-bytes.bytes.items ≡ framed (image_of kept)) told c.in_ok-bytes.ensures.bytes,
      );
    }

pub returns : goal.returns
returns c =
    let told = as_told c.self.inside.catalog c.self.inside.grants c.self.inside.desk c.all.result c.self.inside.instance [] (record { 0 = 0 }) c.self.invariant.desk_is.quiet c.all.ensures.records c.all.ensures.last in
    rw (← c.self.view_is)
    (c.changes_in.ensures (kept_of c.self.inside.catalog c.self.inside.grants (kept_rows c.self.inside.desk) [] (record { 0 = 0 }) c.self.inside.instance)
    (subst (λ (kept : Kept). IsSpellable (image_of kept)) told c.in_ok-bytes.ensures.spellable)
    (c.as_slice.ensures.value ∙ subst (λ (kept : Kept). c.in_ok-bytes.bytes.items ≡ framed (image_of kept)) told c.in_ok-bytes.ensures.bytes))
