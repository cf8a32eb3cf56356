-- What rows and changes say of each other is what places and changes say.
use Rattle.std.proofs.Common.{◌≡◌, ℕ, Bool, true, false, cond, List, [], ◌∷◌, refl, ap, sym, ◌∙◌, Option, Some, None, map}
use Rattle.std.specs.Option.{option_map, option_and_then}
use Rattle.au_base.specs.declared.cell.Cell.{Cell}
use Rattle.au_base.specs.declared.numbers.RowNo.{RowNo}
use Rattle.au_base.specs.declared.numbers.ClientNo.{ClientNo}
use Rattle.au_rows.specs.declared.place.Place.{Place}
use Rattle.au_rows.specs.declared.unsettled.Unsettled.{Unsettled}
use Rattle.au_rows.specs.declared.version.Version.{Version}
use Rattle.au_rows.specs.Held.{is_this, last_change, or_else, owned, row_at}
use Rattle.au_rows.specs.Kept.{Sound, change_of, content_at, held_of, last_unsettled, place_in, place_owned}
use Rattle.au_rows.proofs.PutLemmas.{row_at-map}

module _ (slots : List (Option Version)) where
  -- the content in the slot of a client
  abbrev contents : ClientNo × Option ℕ → ClientNo × Option (List Cell)
  contents p = (p.0, content_at slots p.1)

  owned-map : (o : Option Place) → option_and_then owned (option_map (held_of slots) o) ≡ option_map contents (option_and_then place_owned o)
  owned-map None = refl
  owned-map (Some place) = go place.owner
    where
      go : (w : Option ClientNo) → option_map (λ (by : ClientNo). (by, content_at slots place.newest)) w ≡ option_map contents (option_map (λ (by : ClientNo). (by, place.newest)) w)
      go None = refl
      go (Some by) = refl

  or_else-map : (a b : Option (ClientNo × Option ℕ)) → or_else (option_map contents a) (option_map contents b) ≡ option_map contents (or_else a b)
  or_else-map None b = refl
  or_else-map (Some a) b = refl

  last-map : (t : ℕ) (n : RowNo) (changes : List Unsettled) → last_change t n (map (change_of slots) changes) ≡ option_map contents (last_unsettled t n changes)
  last-map t n [] = refl
  last-map t n (change ∷ changes) =
      ap (λ (o : Option (ClientNo × Option (List Cell))). or_else o (last_change t n (change_of slots change ∷ []))) (last-map t n changes)
      ∙ (ap (or_else (option_map contents (last_unsettled t n changes))) (go (is_this t n change.table change.number))
      ∙ or_else-map (last_unsettled t n changes) (last_unsettled t n (change ∷ [])))
    where
      pair : ClientNo × Option (List Cell)
      pair = (change.by, content_at slots change.slot)

      slot : ClientNo × Option ℕ
      slot = (change.by, change.slot)

      go : (b : Bool) → cond b (Some (let p : ClientNo × Option (List Cell) = (change.by, content_at slots change.slot) in p)) None ≡ option_map contents (cond b (Some (let p : ClientNo × Option ℕ = (change.by, change.slot) in p)) None)
      go true = refl
      go false = refl

  pub agreed : (places : List Place) (changes : List Unsettled) → Sound places slots changes → (t : ℕ) (n : RowNo)
      → option_and_then owned (row_at t n (map (held_of slots) places)) ≡ last_change t n (map (change_of slots) changes)
  agreed places changes sound t n =
      ap (option_and_then owned) (row_at-map slots t n places) ∙ (owned-map (place_in t n places) ∙ (ap (option_map contents) (sound.agrees t n) ∙ sym (last-map t n changes)))
