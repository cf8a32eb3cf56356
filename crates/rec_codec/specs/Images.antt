-- Images that are written piece by piece.
use Rattle.std.specs.Prelude.{◌≡◌, ◌≢◌, ℕ, zero, suc, ◌+◌, ◌<◌, ◌^◌, List, [], ◌∷◌, ◌++◌, length}
use Rattle.std.specs.Int.{w32, to_be_bytes}
use Rattle.std.specs.List.{flat_map, AllByRecursion}
use Rattle.au_base.specs.declared.numbers.Stamp.{Stamp}
use Rattle.au_entries.specs.declared.change.Change.{Change}
use Rattle.au_entries.specs.declared.trail_record.Record.{Record}
use Rattle.rec_parts.specs.Parts.{stamp}
use Rattle.rec_codec.specs.Changes.{change}
use Rattle.rec_codec.specs.Records.{trail_record}

-- the bytes of an image's body so far, and how many changes and records are still to come
pub record Written : Type 0 where
  pub bytes : List ℕ
  pub changes : ℕ
  pub records : ℕ

-- an image with this last stamp and so many changes in all, up to its last change so far
abbrev pub begun : Stamp → ℕ → List Change → List ℕ
begun last count changes = 1 ∷ (stamp.spelled last ++ (to_be_bytes w32 count ++ flat_map change.spelled changes))

-- the count of the records, which stands behind the last change: nothing as long as changes are to come
abbrev pub count_behind : ℕ → ℕ → List ℕ
count_behind zero count = to_be_bytes w32 count
count_behind (suc left) count = []

-- An image with this last stamp, and these changes and records so far, each of which can be spelled. How many there are in
-- all can be counted in four bytes. Records come once no change is to come.
pub record Holds (written : Written) (last : Stamp) (changes : List Change) (records : List Record) : Type 0 where
  pub moment : stamp.IsSpellable last
  pub few_changes : written.changes + length changes < 2 ^ 32
  pub few_records : written.records + length records < 2 ^ 32
  pub all_changes : AllByRecursion change.IsSpellable changes
  pub all_records : AllByRecursion trail_record.IsSpellable records
  pub in_order : written.changes ≢ 0 → records ≡ []
  pub bytes_are : written.bytes ≡ begun last (written.changes + length changes) changes
      ++ (count_behind written.changes (written.records + length records) ++ flat_map trail_record.spelled records)

-- these changes and records were written: so many fewer are to come, and what was held before is held with them at the end
pub record Wrote (old new : Written) (changes : List Change) (records : List Record) : Type 0 where
  pub changes_left : new.changes + length changes ≡ old.changes
  pub records_left : new.records + length records ≡ old.records
  pub holds : (last : Stamp) (done : List Change) (told : List Record) → Holds old last done told → Holds new last (done ++ changes) (told ++ records)

-- to write nothing changes nothing, and what is written in two goes is written in one
pub record WritesJoin : Type 0 where
  pub none : (written : Written) → Wrote written written [] []
  pub both : (a b c : Written) (changes more : List Change) (records more_records : List Record) → Wrote a b changes records → Wrote b c more more_records → Wrote a c (changes ++ more) (records ++ more_records)
