-- That the image of a new store is replayed to what it keeps.
use Rattle.std.proofs.Common.{◌⊎◌, inl, inr, ⊎_elim, ℕ, List, [], ◌∷◌, refl, sym, Some}
use Rattle.au_io.specs.declared.disk.Area.TheVariants.{A}
use Rattle.au_io.specs.Areas.{Areas}
use Rattle.au_io.specs.Disk.{Meaning}
use Rattle.au_io.specs.Moments.{LeavesSince}
use Rattle.au_journal.specs.Creation.{FormatLeaves, IsNew}
use Rattle.au_journal.specs.Images.{In}
use Rattle.au_journal.specs.Walk.{IsUnformatted}
use Rattle.rec_codec.specs.Frames.{IsSpellable, spelled}
use Rattle.au_entries.specs.Imaging.{nothing}
use Rattle.au_image.specs.Image.{image_of}
use Rattle.au_opening.specs.Opening.{opening}
use Rattle.au_step.specs.Returning.{LeadsTo}
use Rattle.au_store.specs.Creating.{CreateLeaves, IsMade}
use Rattle.au_store.specs.Recovery.{BeginsBy}

-- the image of a new store begins what it keeps
pub opening_begins : (password : List ℕ) → IsSpellable (image_of (opening password)) → LeadsTo nothing (Some (image_of (opening password))) (opening password)
    → BeginsBy (spelled (image_of (opening password))) (opening password)
opening_begins password spellable leads = record {
  frame = image_of (opening password);
  spelled = record { spellable = spellable; bytes_are = refl };
  image = tt;
  replayable = leads.0;
  makes = sym leads.1;
}

-- a new area whose body is the image holds it
pub made_new : (limit : ℕ) (password : List ℕ) → BeginsBy (spelled (image_of (opening password))) (opening password) → (all : Areas) → In A (IsNew limit (spelled (image_of (opening password)))) all → IsMade limit (opening password) all
made_new limit password begins all new = record {
  recovers = record {
    area = A;
    limit = limit;
    bodies = spelled (image_of (opening password)) ∷ [];
    held = record { selected = new.selected; here = new.here };
    so = (opening password, begins, refl);
  };
  limited = record { selected = new.selected; here = (spelled (image_of (opening password)), new.here) };
}

pub create_leaves : (limit : ℕ) (password : List ℕ) → BeginsBy (spelled (image_of (opening password))) (opening password) → (old new : Meaning) → LeavesSince (FormatLeaves old limit (spelled (image_of (opening password)))) old new
    → LeavesSince (CreateLeaves old (opening password)) old new
create_leaves limit password begins old new leaves c since =
    ⊎_elim (λ (before : old.images c). inl before)
    (λ (then : IsUnformatted c ⊎ In A (IsNew limit (spelled (image_of (opening password)))) c).
    inr (⊎_elim (λ (blank : IsUnformatted c). inl blank) (λ (made : In A (IsNew limit (spelled (image_of (opening password)))) c). inr (made_new limit password begins c made).recovers) then))
    (leaves c since)
