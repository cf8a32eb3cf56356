-- Edits of an index, by what changes.
use Rattle.std.specs.Prelude.{◌≡◌, ◌==◌, ◌&&◌, ℕ, Bool, true, false, if◌then◌else◌, not, List, Option, Some, None}
use Rattle.std.specs.BTreeSet.{BTreeSet, contains}
use Rattle.std.specs.Ordering.{nat_cmp}
use Rattle.au_entries.specs.declared.policy.AuditPolicy.{AuditPolicy}
use Rattle.au_entries.specs.declared.policy.Enabled.{Enabled}
use Rattle.au_entries.specs.Changing.{is_on, without_user}
use Rattle.au_entries.specs.Demand.{enablement_of}
use Rattle.au_expr.specs.declared.placed.Placed.{Placed}
use Rattle.au_pindex.specs.declared.index.Index.{Index}
use Rattle.au_pindex.specs.declared.shift.Shift.{Shift}
use Rattle.au_pindex.specs.declared.shift.Shift.TheVariants.{Opens as OpensPlace, Closes as ClosesPlace, Leaves}
use Rattle.au_pindex.specs.declared.staged.ConditionEdit.TheVariants.{Stays, Opens, Sets, Closes}
use Rattle.au_pindex.specs.declared.staged.IndexEdit.{IndexEdit}
use Rattle.au_pindex.specs.declared.staged.Joining.{Joining}
use Rattle.au_pindex.specs.descent.Rooms.{KeepAllPlaces}

-- the policy without its condition
abbrev pub without_condition : AuditPolicy → AuditPolicy
without_condition policy = record policy { when = None }

-- nothing is edited
abbrev pub no_edit : IndexEdit
no_edit = record { shift = None; condition = Stays; joining = None }

-- the place of the policy joins buckets
abbrev pub joins : ℕ → AuditPolicy → IndexEdit
joins place policy = record { shift = None; condition = Stays; joining = Some (record { place = place; policy = without_condition policy }) }

-- the places that pass the test leave all buckets
abbrev pub IsLeaving : (ℕ → Bool) → IndexEdit → Type 0
IsLeaving leaves edit = (places : BTreeSet ℕ) × ((at : ℕ) → contains nat_cmp places at ≡ leaves at) × (edit ≡ record { shift = Some (Leaves places); condition = Stays; joining = None })

-- the index has the places and the conditions that it had
pub record Keeps (old new : Index) : Type 0 where
  pub buckets : KeepAllPlaces old.buckets new.buckets
  pub conditions : new.conditions.items ≡ old.conditions.items

-- the enablement is for somebody, and for nobody once the user is gone
abbrev pub is_left_by : List ℕ → Enabled → Bool
is_left_by user enabled = is_on enabled && not (is_on (without_user user enabled))

-- the policy is enabled for somebody, and for nobody once the user is gone
abbrev pub is_off_without : List ℕ → List (List ℕ × Enabled) → AuditPolicy → Bool
is_off_without user enabled policy = is_left_by user (enablement_of enabled policy.name)

-- the policy at the place goes
abbrev pub closes : ℕ → IndexEdit
closes place = record { shift = Some (ClosesPlace place); condition = Closes place; joining = None }

-- the place of the policy joins buckets, where it is enabled
abbrev pub joining_where : Bool → ℕ → AuditPolicy → Option Joining
joining_where on place policy = if on then Some (record { place = place; policy = policy }) else None

-- the policy comes to stand at the place
abbrev pub adds : Bool → ℕ → AuditPolicy → Option Placed → IndexEdit
adds on place policy condition = record { shift = Some (OpensPlace place); condition = Opens place condition; joining = joining_where on place policy }

-- the place leaves all buckets, where the policy at it is enabled
abbrev pub IsLeavingWhere : Bool → ℕ → Option Shift → Type 0
IsLeavingWhere false place shift = shift ≡ None
IsLeavingWhere true place shift = (places : BTreeSet ℕ) × ((at : ℕ) → contains nat_cmp places at ≡ (place == at)) × (shift ≡ Some (Leaves places))

-- the policy stands at the place in place of another
pub record IsReplacing (on : Bool) (place : ℕ) (policy : AuditPolicy) (resolved : Option Placed) (edit : IndexEdit) : Type 0 where
  pub shift : IsLeavingWhere on place edit.shift
  pub condition : edit.condition ≡ Sets place resolved
  pub joining : edit.joining ≡ joining_where on place policy
