-- Bytes of an image that are written piece by piece.
use Rattle.std.proofs.Common.{◌≡◌, ℕ, suc, ◌+◌, ◌-◌, ◌<◌, ◌≤◌, ◌^◌, List, [], ◌∷◌, ◌++◌, length, take, drop, refl, sym, ap, subst, ◌∙◌, append_assoc, arith}
use Rattle.std.specs.Int.{w32, w64, to_be_bytes}
use Rattle.std.specs.List.{flat_map, AllByRecursion}
use Rattle.std.proofs.lemmas.Bool.{le-leb}
use Rattle.std.proofs.lemmas.List.{append-nil, drop_at, length-append, take_at}
use Rattle.au_base.specs.declared.numbers.Stamp.{Stamp}
use Rattle.au_entries.specs.declared.change.Change.{Change}
use Rattle.au_entries.specs.declared.trail_record.Record.{Record}
use Rattle.rec_codec.specs.declared.frame.Frame.TheVariants.{Image}
use Rattle.rec_parts.specs.Parts.{stamp}
use Rattle.rec_codec.specs.Changes.{change, IsChangeSpellable}
use Rattle.rec_codec.specs.Records.{trail_record}
use Rattle.rec_codec.specs.Frames.{IsSpellable, body, framed, spelled}
use Rattle.rec_codec.specs.Images.{Holds, Written, Wrote, begun, count_behind}

one_more : {X : Type 0} (f : X → List ℕ) (xs : List X) (x : X) → flat_map f (xs ++ x ∷ []) ≡ flat_map f xs ++ f x
one_more f [] x = append-nil (f x)
one_more {X} f (y ∷ xs) x = ap (λ (r : List ℕ). f y ++ r) (one_more f xs x) ∙ sym (append_assoc (f y) (flat_map f xs) (f x))

longer : {X : Type 0} (xs : List X) (x : X) → length (xs ++ x ∷ []) ≡ length xs + 1
longer xs x = omega (arith, length-append xs (x ∷ []))

all_joined : {X : Type 0} (P : X → Type 0) (xs ys : List X) → AllByRecursion P xs → AllByRecursion P ys → AllByRecursion P (xs ++ ys)
all_joined P [] ys one two = two
all_joined P (x ∷ xs) ys one two = (one.0, all_joined P xs ys one.1 two)

-- the stamp, and the counts
pub begun_holds : (none kind moment counted all : List ℕ) (last : Stamp) (changes records : ℕ) → last.0 ≤ 253_402_300_799_999_999 → changes < 2 ^ 32 → records < 2 ^ 32 → none ≡ [] → kind ≡ none ++ 1 ∷ []
    → moment ≡ kind ++ to_be_bytes w64 last.0 → counted ≡ moment ++ to_be_bytes w32 changes → all ≡ counted ++ count_behind changes records → Holds (record { bytes = all; changes = changes; records = records }) last [] []
unfolding stamp
begun_holds none kind moment counted all last changes records late few some is_none is_kind is_moment is_counted is_all =
    let t = to_be_bytes w32 changes in
    let s = to_be_bytes w64 last.0 in
    let first : kind ≡ 1 ∷ [] = is_kind ∙ ap (λ (b : List ℕ). b ++ 1 ∷ []) is_none in
    let second : moment ≡ 1 ∷ s = is_moment ∙ ap (λ (b : List ℕ). b ++ s) first in
    let third : counted ≡ 1 ∷ (s ++ t) = is_counted ∙ ap (λ (b : List ℕ). b ++ t) second in
    let no_more : changes ≡ changes + 0 = omega arith in
    let no_records : records ≡ records + 0 = omega arith in
    record {
      moment = (omega (arith, late), le-leb last.0 253_402_300_799_999_999 late);
      few_changes = omega (arith, few);
      few_records = omega (arith, some);
      all_changes = tt;
      all_records = tt;
      in_order = λ more. refl;
      bytes_are = is_all ∙ ap (λ (b : List ℕ). b ++ count_behind changes records) third
          ∙ ap (λ (b : List ℕ). (1 ∷ (s ++ b)) ++ count_behind changes records) (sym (append-nil t))
          ∙ ap (λ (n : ℕ). (1 ∷ (s ++ (to_be_bytes w32 n ++ []))) ++ count_behind changes records) no_more
          ∙ ap (λ (b : List ℕ). (1 ∷ (s ++ (to_be_bytes w32 (changes + 0) ++ []))) ++ b) (sym (append-nil (count_behind changes records)))
          ∙ ap (λ (n : ℕ). (1 ∷ (s ++ (to_be_bytes w32 (changes + 0) ++ []))) ++ (count_behind changes n ++ [])) no_records;
    }

-- a change is written, and behind the last one the count of the records
change_held : (old new : Written) (c : Change) → IsChangeSpellable c → old.changes ≡ new.changes + 1 → new.records ≡ old.records → new.bytes ≡ (old.bytes ++ change.spelled c) ++ count_behind new.changes new.records
    → (last : Stamp) (done : List Change) (told : List Record) → Holds old last done told → Holds new last (done ++ c ∷ []) (told ++ [])
unfolding change
change_held old new c spellable left same bytes last done told h =
    let none : told ≡ [] = h.in_order (λ zero_left. omega (arith, left, zero_left)) in
    let more_left : old.changes ≡ suc new.changes = omega (arith, left) in
    let all : old.changes + length done ≡ new.changes + length (done ++ c ∷ []) = omega (arith, left, longer done c) in
    let n = new.changes + length (done ++ c ∷ []) in
    let s = stamp.spelled last in
    let t = to_be_bytes w32 n in
    let d = flat_map change.spelled done in
    let front : old.bytes ≡ begun last n done = h.bytes_are
    ∙ ap (λ (k : ℕ). begun last k done ++ (count_behind old.changes (old.records + length told) ++ flat_map trail_record.spelled told)) all
    ∙ ap (λ (rs : List Record). begun last n done ++ (count_behind old.changes (old.records + length rs) ++ flat_map trail_record.spelled rs)) none
    ∙ ap (λ (k : ℕ). begun last n done ++ (count_behind k (old.records + 0) ++ [])) more_left
    ∙ append-nil (begun last n done) in
    let joined : begun last n done ++ change.spelled c ≡ begun last n (done ++ c ∷ []) =
    ap (λ (r : List ℕ). 1 ∷ r)
    (append_assoc s (t ++ d) (change.spelled c)
    ∙ ap (λ (r : List ℕ). s ++ r) (append_assoc t d (change.spelled c) ∙ ap (λ (r : List ℕ). t ++ r) (sym (one_more change.spelled done c)))) in
    let counted : new.records ≡ new.records + length (told ++ []) = omega (arith, ap (λ (rs : List Record). length (rs ++ [])) none) in
    record {
      moment = h.moment;
      few_changes = omega (arith, h.few_changes, all);
      few_records = omega (arith, h.few_records, same, ap (λ (rs : List Record). length rs) none, counted);
      all_changes = all_joined change.IsSpellable done (c ∷ []) h.all_changes (spellable, tt);
      all_records = subst (λ (rs : List Record). AllByRecursion trail_record.IsSpellable (rs ++ [])) (sym none) tt;
      in_order = λ more. ap (λ (rs : List Record). rs ++ []) none;
      bytes_are = bytes
          ∙ ap (λ (b : List ℕ). (b ++ change.spelled c) ++ count_behind new.changes new.records) front
          ∙ ap (λ (b : List ℕ). b ++ count_behind new.changes new.records) joined
          ∙ ap (λ (b : List ℕ). begun last n (done ++ c ∷ []) ++ b) (sym (append-nil (count_behind new.changes new.records)))
          ∙ ap (λ (k : ℕ). begun last n (done ++ c ∷ []) ++ (count_behind new.changes k ++ [])) counted
          ∙ ap (λ (rs : List Record). begun last n (done ++ c ∷ []) ++ (count_behind new.changes (new.records + length (told ++ [])) ++ flat_map trail_record.spelled (rs ++ []))) (sym none);
    }

pub with_change : (old new : Written) (c : Change) → IsChangeSpellable c → old.changes ≡ new.changes + 1 → new.records ≡ old.records → new.bytes ≡ (old.bytes ++ change.spelled c) ++ count_behind new.changes new.records
    → Wrote old new (c ∷ []) []
with_change old new c spellable left same bytes = record {
  changes_left = omega (arith, left);
  records_left = omega (arith, same);
  holds = change_held old new c spellable left same bytes;
}

-- a record is written behind the others
record_held : (old new : Written) (r : Record) → trail_record.IsSpellable r → old.changes ≡ 0 → new.changes ≡ old.changes → old.records ≡ new.records + 1 → new.bytes ≡ old.bytes ++ trail_record.spelled r
    → (last : Stamp) (done : List Change) (told : List Record) → Holds old last done told → Holds new last (done ++ []) (told ++ r ∷ [])
record_held old new r spellable none same left bytes last done told h =
    let whole : done ++ [] ≡ done = append-nil done in
    let all : old.records + length told ≡ new.records + length (told ++ r ∷ []) = omega (arith, left, longer told r) in
    let m = new.records + length (told ++ r ∷ []) in
    let k = to_be_bytes w32 m in
    let t = flat_map trail_record.spelled told in
    let b = begun last (new.changes + length done) done in
    let front : old.bytes ≡ b ++ (count_behind new.changes m ++ t) = h.bytes_are
    ∙ ap (λ (n : ℕ). begun last (n + length done) done ++ (count_behind n (old.records + length told) ++ t)) (sym same)
    ∙ ap (λ (n : ℕ). b ++ (count_behind new.changes n ++ t)) all in
    let c = count_behind new.changes m in
    let held : Holds new last done (told ++ r ∷ []) = record {
      moment = h.moment;
      few_changes = omega (arith, h.few_changes, same);
      few_records = omega (arith, h.few_records, all);
      all_changes = h.all_changes;
      all_records = all_joined trail_record.IsSpellable told (r ∷ []) h.all_records (spellable, tt);
      in_order = λ more. absurd (more (same ∙ none));
      bytes_are = bytes ∙ ap (λ (x : List ℕ). x ++ trail_record.spelled r) front
          ∙ append_assoc b (c ++ t) (trail_record.spelled r)
          ∙ ap (λ (x : List ℕ). b ++ x) (append_assoc c t (trail_record.spelled r) ∙ ap (λ (x : List ℕ). c ++ x) (sym (one_more trail_record.spelled told r)));
    } in
    subst (λ (cs : List Change). Holds new last cs (told ++ r ∷ [])) (sym whole) held

pub with_record : (old new : Written) (r : Record) → trail_record.IsSpellable r → old.changes ≡ 0 → new.changes ≡ old.changes → old.records ≡ new.records + 1 → new.bytes ≡ old.bytes ++ trail_record.spelled r
    → Wrote old new [] (r ∷ [])
with_record old new r spellable none same left bytes = record {
  changes_left = omega (arith, same);
  records_left = omega (arith, left);
  holds = record_held old new r spellable none same left bytes;
}

whole_body : (written : Written) (last : Stamp) (changes : List Change) (records : List Record) → Holds written last changes records → written.changes ≡ 0 → written.records ≡ 0
    → written.bytes ≡ spelled (Image last changes records)
unfolding body
whole_body written last changes records h no_change no_record =
    let s = stamp.spelled last in
    let t = to_be_bytes w32 (length changes) in
    let c = flat_map change.spelled changes in
    let k = to_be_bytes w32 (length records) in
    let r = flat_map trail_record.spelled records in
    let all_changes : written.changes + length changes ≡ length changes = omega (arith, no_change) in
    let all_records : written.records + length records ≡ length records = omega (arith, no_record) in
    h.bytes_are
    ∙ ap (λ (n : ℕ). begun last n changes ++ (count_behind written.changes (written.records + length records) ++ r)) all_changes
    ∙ ap (λ (n : ℕ). begun last (length changes) changes ++ (count_behind n (written.records + length records) ++ r)) no_change
    ∙ ap (λ (n : ℕ). begun last (length changes) changes ++ (to_be_bytes w32 n ++ r)) all_records
    ∙ ap (λ (x : List ℕ). 1 ∷ x) (append_assoc s (t ++ c) (k ++ r) ∙ ap (λ (x : List ℕ). s ++ x) (append_assoc t c (k ++ r)))

pub all_spellable : (written : Written) → written.changes ≡ 0 → written.records ≡ 0 → (last : Stamp) (changes : List Change) (records : List Record) → Holds written last changes records → IsSpellable (Image last changes records)
unfolding body
all_spellable written no_change no_record last changes records h =
    (h.moment, ((omega (arith, h.few_changes, no_change), h.all_changes), (omega (arith, h.few_records, no_record), h.all_records)))

turned : (all : List ℕ) (n : ℕ) → drop (length ((all ++ 0 ∷ []) ++ to_be_bytes w64 n) - 8) ((all ++ 0 ∷ []) ++ to_be_bytes w64 n) ++ take (length ((all ++ 0 ∷ []) ++ to_be_bytes w64 n) - 8) ((all ++ 0 ∷ []) ++ to_be_bytes w64 n)
    ≡ (to_be_bytes w64 n ++ all) ++ 0 ∷ []
turned all n =
    let front = all ++ 0 ∷ [] in
    let eight : length (to_be_bytes w64 n) ≡ 8 = refl in
    let place : length front ≡ length (front ++ to_be_bytes w64 n) - 8 = omega (arith, eight, length-append front (to_be_bytes w64 n)) in
    rw (drop_at front (to_be_bytes w64 n) _ place, take_at front (to_be_bytes w64 n) _ place) (sym (append_assoc (to_be_bytes w64 n) all (0 ∷ [])))

pub finished : (written : Written) (bytes : List ℕ) (length_before : ℕ) (turned_all : List ℕ) → written.changes ≡ 0 → written.records ≡ 0 → length_before ≡ length written.bytes
    → turned_all ≡ (written.bytes ++ 0 ∷ []) ++ to_be_bytes w64 length_before → bytes ≡ drop (length turned_all - 8) turned_all ++ take (length turned_all - 8) turned_all
    → (last : Stamp) (changes : List Change) (records : List Record) → Holds written last changes records → bytes ≡ framed (Image last changes records)
finished written bytes before turned_all no_change no_record counted joined rotated last changes records h =
    let all = written.bytes in
    let body_is : all ≡ spelled (Image last changes records) = whole_body written last changes records h no_change no_record in
    let whole : turned_all ≡ (all ++ 0 ∷ []) ++ to_be_bytes w64 (length all) = joined ∙ ap (λ (n : ℕ). (all ++ 0 ∷ []) ++ to_be_bytes w64 n) counted in
    rotated ∙ ap (λ (x : List ℕ). drop (length x - 8) x ++ take (length x - 8) x) whole ∙ turned all (length all) ∙ ap (λ (x : List ℕ). (to_be_bytes w64 (length x) ++ x) ++ 0 ∷ []) body_is
