-- What a frame of rows makes of what is kept, and when it goes on.
use Rattle.std.proofs.Common.{◌≡◌, ◌∙◌, ℕ, ◌≤◌, Bool, true, false, List, [], ◌++◌, map, refl, sym, ap, subst}
use Rattle.std.specs.Prelude.{◌↔◌, IfOk, IsTrue, Option, Result, Ok, Err}
use Rattle.std.specs.List.{AllByRecursion}
use Rattle.au_base.specs.BuiltIn.{sys}
use Rattle.au_base.specs.declared.numbers.Stamp.{Stamp}
use Rattle.au_catalog.specs.declared.catalog.Catalog.{Catalog}
use Rattle.au_entries.specs.declared.change.Change.{Change}
use Rattle.au_entries.specs.declared.kept.Kept.{Kept}
use Rattle.au_entries.specs.declared.trail_record.Record.{Record}
use Rattle.au_entries.specs.Changing.{KeptRow, changed_all}
use Rattle.au_entries.specs.Frames.{PartsGoOn, after_parts, trail_left}
use Rattle.au_entries.specs.Lawful.{IsLawful, IsWhole}
use Rattle.au_entries.specs.Replaying.{AllGoOn, Conditions, has_user}
use Rattle.au_grants.specs.Rights.{Grants}
use Rattle.au_image.specs.Image.{kept_of, kept_rows}
use Rattle.au_kept.specs.Keeping.{HoldsTogether}
use Rattle.au_kept.specs.Sound.{IsKept}
use Rattle.au_kept.specs.Staging.{IsOfRow}
use Rattle.au_kept.specs.descent.Laying.{IsAlone, kept_seen}
use Rattle.au_kept.proofs.Rowed.{changed_still, goes_to, kept_restamped, trail_same, users_same}
use Rattle.au_kept.proofs.RowsLaid.{none_open, seen_bare}
use Rattle.au_kept.proofs.Sounds.{quiet_sound}
use Rattle.au_kept.proofs.Settled.{whole_still}
use Rattle.au_replay.specs.Reading.{conditions}
use Rattle.au_replay.specs.Touched.{IsWholeWhereTouched}
use Rattle.au_txn.specs.Desks.{Contents as Desk, replayer}
use Rattle.au_txn.specs.Keys.{IsKeyedDesk}
use Rattle.au_txn.specs.Rows.{triple_of}

-- ---- where all is laid

abbrev pub TouchedSuffices : Type 0
TouchedSuffices = (conditions : Conditions) (image : Bool) (kept : Kept) (changes : List Change) → IsLawful conditions kept → IsWhole kept → AllGoOn conditions image kept changes
    → IsWhole (changed_all conditions.tree changes kept) ↔ IsWholeWhereTouched changes (changed_all conditions.tree changes kept)

-- the changes go on and leave what is kept whole
abbrev pub IsGood : Kept → List Change → Type 0
IsGood kept changes = AllGoOn conditions false kept changes × IsWhole (changed_all conditions.tree changes kept)

-- ---- with the trail and the last stamp

good_to : (kept : Kept) (changes : List Change) (trail : List Record) (last : Stamp) → AllByRecursion IsOfRow changes → IsGood kept changes → IsGood (record kept { trail = trail; last = last }) changes
good_to kept changes trail last rows good = (
  goes_to conditions false changes kept trail last rows good.0,
  subst IsWhole (sym (changed_still conditions.tree changes kept trail last)) (whole_still (changed_all conditions.tree changes kept) trail last good.1),
)

pub good_told : {E : Type 0} (kept : Kept) (changes : List Change) (trail : List Record) (last : Stamp) → AllByRecursion IsOfRow changes
    → (answer : Result Bool E) → IfOk answer (λ goes. IsTrue goes ↔ IsGood kept changes) → IfOk answer (λ goes. IsTrue goes ↔ IsGood (record kept { trail = trail; last = last }) changes)
good_told kept changes trail last rows (Ok b) told =
    (λ holds. good_to kept changes trail last rows (told.0 holds), λ good. told.1 (good_to (record kept { trail = trail; last = last }) changes kept.trail kept.last rows good))
good_told kept changes trail last rows (Err error) told = tt

pub after_told : {E : Type 0} (kept next : Kept) (changes : List Change) (trail : List Record) (last : Stamp) → (answer : Result Bool E) → IfOk answer (λ goes. IsTrue goes → next ≡ changed_all conditions.tree changes kept)
    → IfOk answer (λ goes. IsTrue goes → record next { trail = trail; last = last } ≡ changed_all conditions.tree changes (record kept { trail = trail; last = last }))
after_told kept next changes trail last (Ok b) told = λ goes. ap (λ (k : Kept). record k { trail = trail; last = last }) (told goes) ∙ sym (changed_still conditions.tree changes kept trail last)
after_told kept next changes trail last (Err error) told = tt

-- the desk after a frame of rows, however it ended
pub laid_holds : (catalog : Catalog) (grants : Grants) (trail : List Record) (last : Stamp) (instance : ℕ) (desk next : Desk)
    → HoldsTogether (kept_of catalog grants (kept_rows desk) trail last instance) desk → next.tables ≡ desk.tables → IsAlone next → next.laid ≡ [] → IsKeyedDesk next → IsKept conditions (kept_seen catalog grants next instance)
    → HoldsTogether (kept_of catalog grants (kept_rows next) trail last instance) next
laid_holds catalog grants trail last instance desk next h tables alone bare keyed sound =
    let kept = subst (λ (rows : List KeptRow). IsKept conditions (kept_of catalog grants rows trail last instance)) (seen_bare next bare alone)
    (kept_restamped conditions (kept_seen catalog grants next instance) trail last h.kept_is.lawful.last h.kept_is.spelled.records sound) in
    record {
      kept_is = kept;
      desk_is = record { tables_are = tables ∙ h.desk_is.tables_are; quiet = none_open next bare alone replayer };
      keyed = keyed;
      changes = quiet_sound (kept_of catalog grants (kept_rows next) trail last instance) next (none_open next bare alone) refl kept.lawful.founded.rows kept.whole.few.rows;
    }

-- ---- the frame

pub parts_told : (kept : Kept) (stamp : Stamp) (changes : List Change) (b : Bool) → AllByRecursion IsOfRow changes → kept.last.0 ≤ stamp.0 → IsTrue (has_user kept sys) → (IsTrue b ↔ IsGood kept changes)
    → IsTrue b ↔ PartsGoOn conditions false kept stamp changes
parts_told kept stamp changes b rows stamped user told =
    (λ holds. let good = told.0 holds in record { stamped = stamped; go_on = good.0; sys = users_same conditions.tree changes kept rows ∙ user; whole = good.1 }, λ goes. told.1 (goes.go_on, goes.whole))

pub parts_refused : (kept : Kept) (stamp : Stamp) (changes : List Change) (b : Bool) → AllByRecursion IsOfRow changes → b ≡ false → (IsTrue b ↔ ((kept.last.0 ≤ stamp.0) × IsTrue (has_user kept sys)))
    → IsTrue false ↔ PartsGoOn conditions false kept stamp changes
parts_refused kept stamp changes b rows is told =
    (λ e. absurd (let no : false ≡ true = e in cc), λ goes. subst (λ (x : Bool). IsTrue x) is (told.1 (goes.stamped, sym (users_same conditions.tree changes kept rows) ∙ goes.sys)))

pub parts_after : (kept middle next : Kept) (stamp : Stamp) (purge : Option (Option Stamp)) (changes : List Change) (records : List Record) → middle ≡ changed_all conditions.tree changes kept
    → next ≡ after_parts conditions.tree stamp purge [] records middle → next ≡ after_parts conditions.tree stamp purge changes records kept
parts_after kept middle next stamp purge changes records same ended =
    ended ∙ ap (λ (k : Kept). after_parts conditions.tree stamp purge [] records k) same
    ∙ ap (λ (trail : List Record). record (changed_all conditions.tree changes kept) { trail = trail_left purge trail ++ records; last = stamp }) (trail_same conditions.tree changes kept)
