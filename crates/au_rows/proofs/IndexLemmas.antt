-- Each version is indexed under the number of its key, whatever happens to tables and rows.
use Rattle.std.proofs.Common.{◌≡◌, ◌∙◌, ◌⊎◌, inl, inr, ℕ, zero, suc, Bool, true, false, is_some, List, [], ◌∷◌, get_or, set, refl, ap, sym, arith, Option, Some, None}
use Rattle.std.specs.Prelude.{nat_eq}
use Rattle.std.specs.List.{list_all, list_any}
use Rattle.std.specs.Option.{option_and_then}
use Rattle.std.proofs.lemmas.Grind.{common_steps}
use Rattle.std.proofs.lemmas.List.{get_or-set_other}
use Rattle.au_base.specs.declared.numbers.ClientNo.{ClientNo}
use Rattle.au_rows.specs.declared.place.Place.{Place}
use Rattle.au_rows.specs.declared.table.Table.{Table}
use Rattle.au_rows.specs.declared.unsettled.Unsettled.{Unsettled}
use Rattle.au_rows.specs.declared.version.Version.{Version}
use Rattle.au_rows.specs.Edits.{edited}
use Rattle.au_rows.specs.Ends.{OnlyFrees}
use Rattle.au_rows.specs.Hash.{version_hash}
use Rattle.au_rows.specs.Held.{is_by, is_vacant, key_of}
use Rattle.au_rows.specs.Kept.{IsIndexed, Sound, change_names, is_kept, is_logged, is_owned, is_version, is_whole, place_at, place_from, place_in, place_names, place_open, place_owner}
use Rattle.au_rows.specs.Stored.{Puts}
use Rattle.au_rows.proofs.ChainLemmas.{other-number, same-number, slot-named}
use Rattle.au_rows.proofs.EndLemmas.{found-table, found_passes}
use Rattle.au_rows.proofs.UsedLemmas.{or-cases}

-- an element that passes, with all that each element passes
pub any-element : {X : Type 0} (f : X → Bool) (xs : List X) → list_any f xs ≡ true → (x : X) × (f x ≡ true) × ((p : X → Bool) → list_all p xs ≡ true → p x ≡ true)
any-element f [] h = absurd (cc)
any-element f (x ∷ xs) h = step (or-cases (f x) (list_any f xs) h) (any-element f xs)
  where
    first : (p : _ → Bool) → list_all p (x ∷ xs) ≡ true → p x ≡ true
    first p all = grind arith

    others : (p : _ → Bool) → list_all p (x ∷ xs) ≡ true → list_all p xs ≡ true
    others p all = grind arith

    step : (f x ≡ true) ⊎ (list_any f xs ≡ true) → (list_any f xs ≡ true → (y : _) × (f y ≡ true) × ((p : _ → Bool) → list_all p xs ≡ true → p y ≡ true))
        → (y : _) × (f y ≡ true) × ((p : _ → Bool) → list_all p (x ∷ xs) ≡ true → p y ≡ true)
    step (inl here) rest = (x, here, first)
    step (inr later) rest = let found = rest later in (found.0, found.1, λ p all. found.2 p (others p all))

pub version-table : (t n : ℕ) (version : Version) → is_version t n (Some version) ≡ true → version.table ≡ t
version-table t n version h = grind (arith, common_steps)

pub version-number : (t n : ℕ) (version : Version) → is_version t n (Some version) ≡ true → version.number.0 ≡ n
version-number t n version h = grind (arith, common_steps)

-- the version in a slot that a row names is the row's
pub kept-version : (slots : List (Option Version)) (t n slot : ℕ) (s : Option ℕ) (version : Version) → get_or slots slot None ≡ Some version → s ≡ Some slot → is_kept slots t n s ≡ true → is_version t n (Some version) ≡ true
kept-version slots t n slot s version is names kept = ap (is_version t n) (sym is) ∙ (ap (is_kept slots t n) (sym names) ∙ kept)

-- the client's row has a place
pub owned-place : (by : ClientNo) (o : Option Place) → is_by by (option_and_then place_owner o) ≡ true → (place : Place) × (o ≡ Some place)
owned-place by None h = absurd (cc)
owned-place by (Some place) h = (place, refl)

module _ (tables : List (Option Table)) (places : List Place) (slots : List (Option Version)) (changes : List Unsettled) (sound : Sound places slots changes) (opened : list_all (place_open tables) places ≡ true) where
  -- each version is of a table that is open
  pub version-open : (slot : ℕ) (version : Version) → get_or slots slot None ≡ Some version → is_some (get_or tables version.table None) ≡ true
  version-open slot version is = go (or-cases (list_any (place_names slot) places) (list_any (change_names slot) changes) (sound.used slot (ap is_some is)))
    where
      go : (list_any (place_names slot) places ≡ true) ⊎ (list_any (change_names slot) changes ≡ true) → is_some (get_or tables version.table None) ≡ true
      go (inl some) =
          let place = any-element (place_names slot) places some in
          let whole = place.2 (is_whole slots) sound.whole in
          let kept : is_kept slots place.0.table place.0.number.0 place.0.settled ≡ true = grind arith in
          let of = version-table place.0.table place.0.number.0 version (kept-version slots place.0.table place.0.number.0 slot place.0.settled version is (slot-named slot place.0.settled place.1) kept) in
          ap (λ (t : ℕ). is_some (get_or tables t None)) of ∙ place.2 (place_open tables) opened
      go (inr some) =
          let change = any-element (change_names slot) changes some in
          let of = version-table change.0.table change.0.number.0 version (kept-version slots change.0.table change.0.number.0 slot change.0.slot version is (slot-named slot change.0.slot change.1) (change.2 (is_logged slots) sound.logged)) in
          let place = owned-place change.0.by (place_in change.0.table change.0.number places) (change.2 (is_owned places) sound.owned) in
          let there = found_passes (place_open tables) (place_from change.0.table change.0.number) (place_at change.0.table change.0.number) places place.0 opened place.1 in
          ap (λ (t : ℕ). is_some (get_or tables t None)) (of ∙ sym (found-table change.0.table change.0.number places place.0 place.1)) ∙ there

-- where the keys of the tables of all versions stay, the versions stay indexed
indexed-by : (tables new : List (Option Table)) (slots : List (Option Version)) → IsIndexed tables slots
    → ((slot : ℕ) (version : Version) → get_or slots slot None ≡ Some version → get_or new version.table None ≡ get_or tables version.table None) → IsIndexed new slots
indexed-by tables new slots indexed same slot version is =
    indexed slot version is ∙ ap (λ (key : List ℕ). version_hash version.table version.number.0 key version.cells) (sym (key-same (same slot version is)))
  where
    key-same : get_or new version.table None ≡ get_or tables version.table None → key_of version.table new ≡ key_of version.table tables
    key-same e = rw e refl

stays-open : (tables : List (Option Table)) (new : Table) (k : ℕ) → is_some (get_or tables k None) ≡ true → get_or (edited is_vacant is_vacant tables (Some new ∷ [])) k None ≡ get_or tables k None
stays-open [] new k h = cc
stays-open (None ∷ ts) new zero h = cc
stays-open (Some t ∷ ts) new zero h = refl
stays-open (None ∷ ts) new (suc k) h = refl
stays-open (Some t ∷ ts) new (suc k) h = stays-open ts new k h

pub indexed-open : (tables : List (Option Table)) (new : Table) (places : List Place) (slots : List (Option Version)) (changes : List Unsettled) → Sound places slots changes → list_all (place_open tables) places ≡ true
    → IsIndexed tables slots → IsIndexed (edited is_vacant is_vacant tables (Some new ∷ [])) slots
indexed-open tables new places slots changes sound opened indexed =
    indexed-by tables (edited is_vacant is_vacant tables (Some new ∷ [])) slots indexed
    (λ slot version is. stays-open tables new version.table (version-open tables places slots changes sound opened slot version is))

nothing-set : (tables : List (Option Table)) (k : ℕ) → get_or (set tables k None) k None ≡ None
nothing-set [] k = refl
nothing-set (t ∷ ts) zero = refl
nothing-set (t ∷ ts) (suc k) = nothing-set ts k

pub indexed-fewer : (tables : List (Option Table)) (old new : List (Option Version)) → OnlyFrees old new → IsIndexed tables old → IsIndexed tables new
indexed-fewer tables old new frees indexed slot version is = indexed slot version (was (frees slot))
  where
    was : (get_or new slot None ≡ get_or old slot None) ⊎ (get_or new slot None ≡ None) → get_or old slot None ≡ Some version
    was (inl same) = sym same ∙ is
    was (inr none) = let both : None ≡ Some version = sym none ∙ is in absurd (cc)

pub indexed-gone : (table : ℕ) (tables : List (Option Table)) (places : List Place) (old new : List (Option Version)) (changes : List Unsettled) → Sound places new changes → list_all (place_open (set tables table None)) places ≡ true
    → OnlyFrees old new → IsIndexed tables old → IsIndexed (set tables table None) new
indexed-gone table tables places old new changes sound opened frees indexed =
    indexed-by tables (set tables table None) new (indexed-fewer tables old new frees indexed)
    (λ slot version is. same version (nat_eq version.table table) refl (version-open (set tables table None) places new changes sound opened slot version is))
  where
    same : (version : Version) (b : Bool) → nat_eq version.table table ≡ b → is_some (get_or (set tables table None) version.table None) ≡ true
        → get_or (set tables table None) version.table None ≡ get_or tables version.table None
    same version true e some =
        let at = same-number version.table table e in
        let none : is_some (get_or (set tables table None) version.table None) ≡ false = ap (λ (t : ℕ). is_some (get_or (set tables table None) t None)) at ∙ ap is_some (nothing-set tables table) in
        let both : true ≡ false = sym some ∙ none in cc
    same version false e some = get_or-set_other tables table version.table None None (other-number version.table table e)

pub indexed-put : (tables : List (Option Table)) (old new : List (Option Version)) (key : ℕ) (put : Version) → Puts old new key put
    → put.hash ≡ version_hash put.table put.number.0 (key_of put.table tables) put.cells → IsIndexed tables old → IsIndexed tables new
indexed-put tables old new key put puts of indexed slot version is = go (nat_eq slot key) refl
  where
    go : (b : Bool) → nat_eq slot key ≡ b → version.hash ≡ version_hash version.table version.number.0 (key_of version.table tables) version.cells
    go true e =
        let at = same-number slot key e in
        let both : Some put ≡ Some version = sym puts.filled ∙ (ap (λ (s : ℕ). get_or new s None) (sym at) ∙ is) in
        let same : put ≡ version = cc in
        ap (λ (v : Version). v.hash) (sym same) ∙ (of ∙ ap (λ (v : Version). version_hash v.table v.number.0 (key_of v.table tables) v.cells) same)
    go false e = indexed slot version (sym (puts.others slot (other-number slot key e)) ∙ is)
