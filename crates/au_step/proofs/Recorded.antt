-- What auditing leaves of an event that can be recorded.
use Rattle.std.proofs.Common.{ℕ, ◌≤◌, ◌<◌, ◌^◌, ◌+◌, List, length, arith}
use Rattle.std.specs.List.{AllByRecursion}
use Rattle.au_audit.specs.declared.place.Place.{Place}
use Rattle.au_audit.specs.Conditions.{Result}
use Rattle.au_base.specs.Limits.{CATALOG_OBJECTS}
use Rattle.au_catalog.specs.Settling.{catalog_of}
use Rattle.au_entries.specs.declared.facts.Facts.{Facts}
use Rattle.au_entries.specs.declared.fine_grained.FgaName.{FgaName}
use Rattle.au_policy.specs.Asking.{AreInOrder}
use Rattle.au_recording.specs.declared.left.Left.{Left}
use Rattle.au_recording.specs.Writing.{CanBeRecorded}
use Rattle.rec_codec.specs.Records.{trail_record}
use Rattle.au_step.specs.State.{State}
use Rattle.au_step.specs.Step.{event_left, facts_at, results_seen}
use Rattle.au_step.proofs.Given.{OfRecords}

-- what is known of what auditing leaves
pub record IsLeftSound (left : Left) : Type 0 where
  pub told : AllByRecursion trail_record.IsSpellable left.records
  pub few : length left.records < 2 ^ 32
  pub ordered : AreInOrder left.results

few_left : (records fired : ℕ) → records ≤ 1 + fired → fired ≤ CATALOG_OBJECTS → records < 2 ^ 32
few_left records fired less few = omega (arith, less, few)

-- what auditing leaves of any event that can be recorded
pub event_sound : OfRecords → (m : State) (results : List Result) (facts : Facts) (place : Place) (fired : List FgaName) (forgets : List (List ℕ))
    → CanBeRecorded (catalog_of m.kept) facts place fired → AreInOrder (results_seen m results) → length fired ≤ CATALOG_OBJECTS → IsLeftSound (event_left m results facts place fired forgets)
event_sound records m results facts place fired forgets can ordered few =
    let session = facts_at facts.user place.session place.stamp.0 in
    record {
      told = records.written (catalog_of m.kept) m.kept.grants (results_seen m results) session facts place fired forgets can;
      few = few_left _ _ (records.few (catalog_of m.kept) m.kept.grants (results_seen m results) session facts place fired forgets) few;
      ordered = records.left (catalog_of m.kept) m.kept.grants (results_seen m results) session facts place fired forgets can.policies.order ordered;
    }
