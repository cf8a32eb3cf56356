-- The image that is written of a step which purges.
use Rattle.std.proofs.Common.{◌≡◌, true, false, List, ℕ, Option, Some, None, refl, sym, is_some}
use Rattle.au_base.specs.declared.numbers.Stamp.{Stamp}
use Rattle.au_entries.specs.Imaging.{nothing}
use Rattle.au_entries.specs.declared.kept.Kept.{Kept}
use Rattle.au_image.specs.Image.{image_of}
use Rattle.au_step.specs.Returning.{LeadsTo}
use Rattle.au_engine.specs.Imaging.{LeadsBy}
use Rattle.rec_codec.specs.Frames.{IsSpellable, framed}
use Rattle.au_store.specs.descent.Making.{CarriesTo, IsImageFor}

-- what carries what is kept on leads to what is kept then
pub leads_by : (kept next : Kept) (bytes : Option (List ℕ)) → CarriesTo kept bytes next → LeadsBy kept bytes next
leads_by kept next None carries = carries
leads_by kept next (Some bytes) carries = (carries.0, carries.1, carries.2.spellable, carries.2.no_image, (carries.2.replayable, sym carries.2.makes))

-- there is an image where records are purged, and none else
pub no_image : (after : Kept) (purge : Option (Option Stamp)) → is_some purge ≡ false → IsImageFor after purge None
no_image after None is = refl
no_image after (Some before) is = absurd (let no : true ≡ false = is in cc)

pub image_for : (after : Kept) (purge : Option (Option Stamp)) (bytes : List ℕ) → is_some purge ≡ true → bytes ≡ framed (image_of after) → IsSpellable (image_of after)
    → LeadsTo nothing (Some (image_of after)) after → IsImageFor after purge (Some bytes)
image_for after None bytes is written spellable leads = absurd (let no : false ≡ true = is in cc)
image_for after (Some before) bytes is written spellable leads = (bytes, refl, record { bytes = written; spellable = spellable; leads = leads })
