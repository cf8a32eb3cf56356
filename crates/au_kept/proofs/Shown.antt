-- What a sight shows, and what is kept.
use Rattle.std.proofs.Common.{◌≡◌, Bool, false, List, sym, subst}
use Rattle.std.specs.Prelude.{◌↔◌, IfOk, IsTrue, Result, Ok, Err}
use Rattle.au_entries.specs.declared.change.Change.{Change}
use Rattle.au_entries.specs.declared.kept.Kept.{Kept}
use Rattle.au_entries.specs.Changing.{KeptRow}
use Rattle.au_entries.specs.Lawful.{IsFounded}
use Rattle.au_entries.specs.Replaying.{Conditions, GoesOn}
use Rattle.au_replay.specs.Reading.{conditions}
use Rattle.au_replay.specs.Sights.{showable}
use Rattle.au_replay.specs.Touched.{AreFew, IsWholeRow, IsWholeWhereTouched}

pub founded_shown : (kept : Kept) → IsFounded kept → IsFounded (showable kept)
founded_shown kept h = record {
  system = h.system;
  role = h.role;
  no_circle = h.no_circle;
  object = h.object;
  tables = h.tables;
  rows = h.rows;
  enabled = h.enabled;
  fga = h.fga;
}

few_shown : (kept : Kept) → AreFew kept → AreFew (showable kept)
few_shown kept h = record { users = h.users; roles = h.roles; tables = h.tables; policies = h.policies; fga = h.fga; grants = h.grants }

few_kept : (kept : Kept) → AreFew (showable kept) → AreFew kept
few_kept kept h = record { users = h.users; roles = h.roles; tables = h.tables; policies = h.policies; fga = h.fga; grants = h.grants }

row_shown : (kept : Kept) (row : KeptRow) → IsWholeRow kept row → IsWholeRow (showable kept) row
row_shown kept row h = record { fits = h.fits; alone = h.alone }

row_kept : (kept : Kept) (row : KeptRow) → IsWholeRow (showable kept) row → IsWholeRow kept row
row_kept kept row h = record { fits = h.fits; alone = h.alone }

whole_shown : (changes : List Change) (kept : Kept) → IsWholeWhereTouched changes kept → IsWholeWhereTouched changes (showable kept)
whole_shown changes kept h = record {
  rows = λ row has put. row_shown kept row (h.rows row has put);
  columns = h.columns;
  counts = h.counts;
  few = few_shown kept h.few;
}

whole_kept : (changes : List Change) (kept : Kept) → IsWholeWhereTouched changes (showable kept) → IsWholeWhereTouched changes kept
whole_kept changes kept h = record {
  rows = λ row has put. row_kept kept row (h.rows row has put);
  columns = h.columns;
  counts = h.counts;
  few = few_kept kept h.few;
}

-- the test of what a sight shows is one of what is kept
pub told_kept : {E : Type 0} (changes : List Change) (kept seen : Kept) → seen ≡ showable kept → (answer : Result Bool E) → IfOk answer (λ whole. IsTrue whole ↔ IsWholeWhereTouched changes seen) → IfOk answer (λ whole. IsTrue whole ↔ IsWholeWhereTouched changes kept)
told_kept changes kept seen same (Ok whole) told =
    let is = subst (λ (k : Kept). IsTrue whole ↔ IsWholeWhereTouched changes k) same told in
    (λ holds. whole_kept changes kept (is.0 holds), λ holds. is.1 (whole_shown changes kept holds))
told_kept changes kept seen same (Err error) told = tt

-- an answer that is another one tells what that tells
pub told_by : {E : Type 0} (P : Type 0) (goes : Bool) → (IsTrue goes ↔ P) → (answer : Result Bool E) → IfOk answer (λ same. same ≡ goes) → IfOk answer (λ told. IsTrue told ↔ P)
told_by P goes is (Ok told) same = subst (λ (b : Bool). IsTrue b ↔ P) (sym same) is
told_by P goes is (Err error) same = tt

-- whether a change goes on from what is kept, as the law has it
abbrev pub GoesAsShown : Type 0
GoesAsShown = (conditions : Conditions) (image : Bool) (kept : Kept) (change : Change) → GoesOn conditions image (showable kept) change ↔ GoesOn conditions image kept change

pub told_going : GoesAsShown → {E : Type 0} (kept seen : Kept) (change : Change) → seen ≡ showable kept → (answer : Result Bool E) → IfOk answer (λ goes. IsTrue goes ↔ GoesOn conditions false seen change)
    → IfOk answer (λ goes. IsTrue goes ↔ GoesOn conditions false kept change)
told_going law kept seen change same (Ok goes) told =
    let is = subst (λ (k : Kept). IsTrue goes ↔ GoesOn conditions false k change) same told in
    let kept_too = law conditions false kept change in
    (λ holds. kept_too.0 (is.0 holds), λ on. is.1 (kept_too.1 on))
told_going law kept seen change same (Err error) told = tt
