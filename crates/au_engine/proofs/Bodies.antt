-- Bodies of frames that an engine takes.
use Rattle.std.proofs.Common.{◌≡◌, ◌∙◌, ℕ, List, Option, Some, None, refl, sym, ap, subst, option_map}
use Rattle.au_entries.specs.declared.kept.Kept.{Kept}
use Rattle.au_entries.specs.Imaging.{nothing}
use Rattle.au_image.specs.Image.{image_of}
use Rattle.au_kept.specs.Anew.{untold}
use Rattle.au_replay.specs.Reading.{conditions}
use Rattle.au_step.specs.Framing.{framed_option}
use Rattle.au_step.specs.Lawful.{IsLawful}
use Rattle.au_step.specs.Replaying.{EndsWell, IsImage, IsReplayable, after_frame}
use Rattle.au_engine.specs.Imaging.{LeadsBy, Takes}
use Rattle.au_engine.proofs.Untold.{ComesBack, Suffices, after_untold, frame_untold, image_back, image_goes}
use Rattle.rec_codec.specs.declared.frame.Frame.{Frame}
use Rattle.rec_codec.specs.Frames.{IsFrame, IsSpellable, spelled}

-- what the copy is led to by the body, which is what is kept next but for the trail and the last stamp
pub record TakesTo (kept next : Kept) (body : List ℕ) : Type 0 where
  pub to : Kept
  pub takes : Takes (untold kept) body to
  pub same : untold to ≡ untold next

-- that of a frame is what it is written as
body_is : (f : Frame) (body : List ℕ) → Some body ≡ Some (spelled f) → body ≡ spelled f
body_is f body is = cc

frame_takes : Suffices → (kept next : Kept) (f : Frame) (body : List ℕ) → body ≡ spelled f → IsSpellable f → (IsImage f → ⊥) → IsReplayable kept f → after_frame kept f ≡ next → TakesTo kept next body
frame_takes law kept next f body is can never goes makes = record {
  to = after_frame (untold kept) f;
  takes = record {
    frame = f;
    is = record { spellable = can; bytes_are = is };
    first = λ image. absurd (never image);
    leads = (frame_untold law conditions kept f never goes, refl);
  };
  same = after_untold conditions.tree kept f ∙ ap untold makes;
}

pub body_takes : Suffices → (kept next : Kept) (bytes : Option (List ℕ)) (body : List ℕ) → ((frame : Option Frame) → bytes ≡ framed_option frame → Some body ≡ option_map spelled frame)
    → LeadsBy kept bytes next → TakesTo kept next body
body_takes law kept next None body to leads = absurd (let none : Some body ≡ None = to None refl in cc)
body_takes law kept next (Some bytes) body to leads =
    frame_takes law kept next leads.0 body (body_is leads.0 body (to (Some leads.0) (ap Some leads.1))) leads.2 leads.3 leads.4.0 leads.4.1

-- without a body it stays
pub none_leads : (kept next : Kept) (bytes : Option (List ℕ)) → ((frame : Option Frame) → bytes ≡ framed_option frame → None ≡ option_map spelled frame) → LeadsBy kept bytes next → untold kept ≡ untold next
none_leads kept next None to leads = ap untold (sym leads)
none_leads kept next (Some bytes) to leads = absurd (let none : None ≡ Some (spelled leads.0) = to (Some leads.0) (ap Some leads.1) in cc)

pub image_takes : ComesBack → (kept : Kept) (body : List ℕ) → body ≡ spelled (image_of (untold kept)) → IsSpellable (image_of (untold kept)) → IsLawful kept → EndsWell kept → Takes nothing body (untold kept)
image_takes law kept body is can h ends = record {
  frame = image_of (untold kept);
  is = record { spellable = can; bytes_are = is };
  first = λ image. refl;
  leads = (image_goes law conditions kept h ends, image_back law conditions kept h);
}

-- a body is that of one frame, which leads to one thing
pub record TakesOnce (kept next : Kept) (f : Frame) : Type 0 where
  pub spelled_is : IsSpellable f
  pub first : IsImage f → kept ≡ nothing
  pub goes : IsReplayable kept f
  pub makes : after_frame kept f ≡ next

pub takes_once : ((bytes : List ℕ) (a b : Frame) → IsFrame bytes a → IsFrame bytes b → a ≡ b) → (kept next : Kept) (body : List ℕ) (f : Frame) → IsFrame body f → Takes kept body next → TakesOnce kept next f
takes_once one kept next body f is takes =
    subst (TakesOnce kept next) (one body takes.frame f takes.is is)
    (record { spelled_is = takes.is.spellable; first = takes.first; goes = takes.leads.0; makes = takes.leads.1 })
