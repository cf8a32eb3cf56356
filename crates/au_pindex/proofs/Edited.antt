-- What an edit makes of the buckets of an index.
use Rattle.std.proofs.Common.{◌≡◌, ◌∙◌, ◌≤◌, ◌<◌, ◌+◌, ◌-◌, ◌^◌, refl, sym, ap, ℕ, suc, Bool, true, false, cond, ◌||◌, ◌&&◌, nat_lt, List, length, subst, arith, ltb-false}
use Rattle.std.proofs.lemmas.Option.{slice_get_past}
use Rattle.std.specs.BTreeSet.{contains}
use Rattle.std.specs.Cmp.Lexicographic.{slice_cmp}
use Rattle.std.specs.Ordering.{nat_cmp}
use Rattle.std.specs.Prelude.{◌==◌, Option, Some, None}
use Rattle.au_base.specs.Actions as actions
use Rattle.au_base.specs.Privileges as privileges
use Rattle.au_entries.specs.declared.policy.AuditPolicy.{AuditPolicy}
use Rattle.au_entries.specs.declared.policy.Enabled.{Enabled}
use Rattle.au_pindex.specs.Buckets.{is_in_bucket}
use Rattle.au_pindex.specs.declared.bucketed.Bucketed.{Bucketed}
use Rattle.au_pindex.specs.declared.shift.Shift.{Shift}
use Rattle.au_pindex.specs.declared.shift.Shift.TheVariants.{Opens, Closes, Leaves}
use Rattle.au_pindex.specs.declared.staged.IndexEdit.{IndexEdit}
use Rattle.au_pindex.specs.declared.staged.Joining.{Joining}
use Rattle.au_pindex.specs.Indexing.{AreBucketsOf, is_listed, table_cmp}
use Rattle.au_pindex.specs.Naming.{has_action_part, has_object_part, has_privilege_part, has_role_part}
use Rattle.au_pindex.specs.Places.{passes, passes_at}
use Rattle.au_pindex.specs.descent.Rooms.{HasRoomFor, KeepsRoom}
use Rattle.au_pindex.specs.descent.Settling.{AreEdited, AreJoinedBy, AreShiftedBy, HaveSamePlaces}
use Rattle.au_pindex.specs.descent.Shifting.{came_from}
use Rattle.au_pindex.specs.descent.Fitting.{FitsJoining}
use Rattle.au_pindex.specs.descent.Leading.{Leads, is_joined, shifted_from}

same_passes : (one other : ℕ → Bool) → ((s : ℕ) → one s ≡ other s) → (from : Option ℕ) → passes one from ≡ passes other from
same_passes one other same None = refl
same_passes one other same (Some s) = same s

past : {X : Type 0} (test : X → Bool) (xs : List X) (s : ℕ) → length xs ≤ s → passes_at test xs s ≡ false
past test xs s end = ap (passes test) (slice_get_past xs s end)

-- what stands past all entries came from there
module _ (was : ℕ → Bool) (n : ℕ) (none : (s : ℕ) → n ≤ s → was s ≡ false) (at : ℕ) (far : suc n ≤ at) where
  opened : (a b : Bool) → passes was (cond a (Some at) (cond b None (Some (at - 1)))) ≡ false
  opened true b = none at (omega (arith, far))
  opened false true = refl
  opened false false = none (at - 1) (omega (arith, far))

  closed : (a : Bool) → passes was (cond a (Some at) (Some (at + 1))) ≡ false
  closed true = none at (omega (arith, far))
  closed false = none (at + 1) (omega (arith, far))

  left : (a : Bool) → passes was (cond a None (Some at)) ≡ false
  left true = refl
  left false = none at (omega (arith, far))

  from_past : (shift : Shift) → passes was (came_from shift at) ≡ false
  from_past (Opens place) = opened (nat_lt at place) (at == place)
  from_past (Closes place) = closed (nat_lt at place)
  from_past (Leaves places) = left (contains nat_cmp places at)

in_range : (was : ℕ → Bool) (n : ℕ) → ((s : ℕ) → n ≤ s → was s ≡ false) → n < 2 ^ 64 → (shift : Shift) (at : ℕ) (b : Bool) → nat_lt at (2 ^ 64) ≡ b → (b && passes was (came_from shift at)) ≡ passes was (came_from shift at)
in_range was n none few shift at true is = refl
in_range was n none few shift at false is = sym (from_past was n none at (omega (arith, few, ltb-false at (2 ^ 64) is)) shift)

-- a place stands in the bucket of one key where it came from, once all shift
module _ {X : Type 0} (test : X → Bool) (xs : List X) (few : length xs < 2 ^ 64) (in_old : ℕ → Bool) (told : (s : ℕ) → in_old s ≡ passes_at test xs s) (at : ℕ) where
  pub shifted_at : (shift : Shift) (in_new : Bool) → in_new ≡ (nat_lt at (2 ^ 64) && passes in_old (came_from shift at)) → in_new ≡ passes (passes_at test xs) (came_from shift at)
  shifted_at shift in_new is =
      is ∙ ap (λ z. nat_lt at (2 ^ 64) && z) (same_passes in_old (passes_at test xs) told (came_from shift at))
      ∙ in_range (passes_at test xs) (length xs) (past test xs) few shift at (nat_lt at (2 ^ 64)) refl

module _ (enabled later : List (List ℕ × Enabled)) (policies changed : List AuditPolicy) (few : length policies < 2 ^ 64) (old : Bucketed) (are : AreBucketsOf enabled policies old) where
  -- the places between a shift and what joins
  record Between (shift : Option Shift) (between : Bucketed) : Type 0 where
    actions : (action : _) (at : ℕ) → is_in_bucket nat_cmp between.actions (actions.code_of action) at ≡ passes (passes_at (is_listed has_action_part enabled action) policies) (shifted_from shift at)
    tables : (table : _) (at : ℕ) → is_in_bucket table_cmp between.tables table at ≡ passes (passes_at (is_listed has_object_part enabled table) policies) (shifted_from shift at)
    privileges : (privilege : _) (at : ℕ) → is_in_bucket nat_cmp between.privileges (privileges.code_of privilege) at ≡ passes (passes_at (is_listed has_privilege_part enabled privilege) policies) (shifted_from shift at)
    roles : (role : List ℕ) (at : ℕ) → is_in_bucket (slice_cmp nat_cmp) between.roles role at ≡ passes (passes_at (is_listed has_role_part enabled role) policies) (shifted_from shift at)

  between_of : (shift : Option Shift) (between : Bucketed) → AreShiftedBy shift old between → Between shift between
  between_of None between same = record {
    actions = λ action at. ap (λ (b : Bucketed). is_in_bucket nat_cmp b.actions (actions.code_of action) at) same ∙ are.actions action at;
    tables = λ table at. ap (λ (b : Bucketed). is_in_bucket table_cmp b.tables table at) same ∙ are.tables table at;
    privileges = λ privilege at. ap (λ (b : Bucketed). is_in_bucket nat_cmp b.privileges (privileges.code_of privilege) at) same ∙ are.privileges privilege at;
    roles = λ role at. ap (λ (b : Bucketed). is_in_bucket (slice_cmp nat_cmp) b.roles role at) same ∙ are.roles role at;
  }
  between_of (Some shift) between shifted = record {
    actions = λ action at. shifted_at (is_listed has_action_part enabled action) policies few (is_in_bucket nat_cmp old.actions (actions.code_of action)) (are.actions action) at shift _ (shifted.0.actions (actions.code_of action) at);
    tables = λ table at. shifted_at (is_listed has_object_part enabled table) policies few (is_in_bucket table_cmp old.tables table) (are.tables table) at shift _ (shifted.0.tables table at);
    privileges = λ privilege at. shifted_at (is_listed has_privilege_part enabled privilege) policies few (is_in_bucket nat_cmp old.privileges (privileges.code_of privilege)) (are.privileges privilege) at shift _ (shifted.0.privileges (privileges.code_of privilege) at);
    roles = λ role at. shifted_at (is_listed has_role_part enabled role) policies few (is_in_bucket (slice_cmp nat_cmp) old.roles role) (are.roles role) at shift _ (shifted.0.roles role at);
  }

  joined_of : (edit : IndexEdit) (between new : Bucketed) (joining : Option Joining) → edit.joining ≡ joining → Between edit.shift between → AreJoinedBy joining between new → Leads enabled policies later changed edit → AreBucketsOf later changed new
  joined_of edit between new None is b same leads = record {
    actions = λ action at. ap (λ (x : Bucketed). is_in_bucket nat_cmp x.actions (actions.code_of action) at) same ∙ b.actions action at
        ∙ sym (leads.actions action at ∙ ap (λ j. is_joined has_action_part j action at || passes (passes_at (is_listed has_action_part enabled action) policies) (shifted_from edit.shift at)) is);
    tables = λ table at. ap (λ (x : Bucketed). is_in_bucket table_cmp x.tables table at) same ∙ b.tables table at
        ∙ sym (leads.tables table at ∙ ap (λ j. is_joined has_object_part j table at || passes (passes_at (is_listed has_object_part enabled table) policies) (shifted_from edit.shift at)) is);
    privileges = λ privilege at. ap (λ (x : Bucketed). is_in_bucket nat_cmp x.privileges (privileges.code_of privilege) at) same ∙ b.privileges privilege at
        ∙ sym (leads.privileges privilege at ∙ ap (λ j. is_joined has_privilege_part j privilege at || passes (passes_at (is_listed has_privilege_part enabled privilege) policies) (shifted_from edit.shift at)) is);
    roles = λ role at. ap (λ (x : Bucketed). is_in_bucket (slice_cmp nat_cmp) x.roles role at) same ∙ b.roles role at
        ∙ sym (leads.roles role at ∙ ap (λ j. is_joined has_role_part j role at || passes (passes_at (is_listed has_role_part enabled role) policies) (shifted_from edit.shift at)) is);
  }
  joined_of edit between new (Some joining) is b adds leads = record {
    actions = λ action at. adds.actions action at ∙ ap (λ z. is_joined has_action_part (Some joining) action at || z) (b.actions action at)
        ∙ sym (leads.actions action at ∙ ap (λ j. is_joined has_action_part j action at || passes (passes_at (is_listed has_action_part enabled action) policies) (shifted_from edit.shift at)) is);
    tables = λ table at. adds.tables table at ∙ ap (λ z. is_joined has_object_part (Some joining) table at || z) (b.tables table at)
        ∙ sym (leads.tables table at ∙ ap (λ j. is_joined has_object_part j table at || passes (passes_at (is_listed has_object_part enabled table) policies) (shifted_from edit.shift at)) is);
    privileges = λ privilege at. adds.privileges privilege at ∙ ap (λ z. is_joined has_privilege_part (Some joining) privilege at || z) (b.privileges privilege at)
        ∙ sym (leads.privileges privilege at ∙ ap (λ j. is_joined has_privilege_part j privilege at || passes (passes_at (is_listed has_privilege_part enabled privilege) policies) (shifted_from edit.shift at)) is);
    roles = λ role at. adds.roles role at ∙ ap (λ z. is_joined has_role_part (Some joining) role at || z) (b.roles role at)
        ∙ sym (leads.roles role at ∙ ap (λ j. is_joined has_role_part j role at || passes (passes_at (is_listed has_role_part enabled role) policies) (shifted_from edit.shift at)) is);
  }

  same_of : (joined new : Bucketed) → HaveSamePlaces joined new → AreBucketsOf later changed joined → AreBucketsOf later changed new
  same_of joined new same is = record {
    actions = λ action at. same.actions (actions.code_of action) at ∙ is.actions action at;
    tables = λ table at. same.tables table at ∙ is.tables table at;
    privileges = λ privilege at. same.privileges (privileges.code_of privilege) at ∙ is.privileges privilege at;
    roles = λ role at. same.roles role at ∙ is.roles role at;
  }

  pub edited_of : (edit : IndexEdit) (new : Bucketed) → AreEdited edit.shift edit.joining old new → Leads enabled policies later changed edit → AreBucketsOf later changed new
  edited_of edit new (between, joined, shifted, joins, same) leads = same_of joined new same (joined_of edit between joined edit.joining refl (between_of edit.shift between shifted) joins leads)

-- ---- room

still_room : (policy : AuditPolicy) (old new : Bucketed) → KeepsRoom old new → HasRoomFor policy old → HasRoomFor policy new
still_room policy old new keeps has = record {
  actions = λ action names. omega (arith, has.actions action names, keeps.actions (actions.code_of action));
  tables = λ table names. omega (arith, has.tables table names, keeps.tables table);
  privileges = λ privilege names. omega (arith, has.privileges privilege names, keeps.privileges (privileges.code_of privilege));
  roles = λ role names. omega (arith, has.roles role names, keeps.roles role);
}

-- what joins buckets has room in them still, once places have shifted
pub still_fits : (joining : Option Joining) (shift : Option Shift) (old new : Bucketed) → AreShiftedBy shift old new → FitsJoining joining old → FitsJoining joining new
still_fits joining None old new same fits = subst (FitsJoining joining) (sym same) fits
still_fits None (Some shift) old new shifted fits = tt
still_fits (Some joining) (Some shift) old new shifted fits = still_room joining.policy old new shifted.1 fits
