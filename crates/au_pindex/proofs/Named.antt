-- What matches a statement, and is enabled for it, names it and is enabled for somebody.
use Rattle.std.proofs.Common.{◌≡◌, ◌∙◌, ◌⊎◌, inl, inr, refl, ap, ℕ, Bool, true, ◌||◌, ◌&&◌, List, [], ◌∷◌}
use Rattle.std.proofs.lemmas.Bool.{and_from, and_parts, or_cases, or_left, or_right}
use Rattle.std.proofs.lemmas.List.Folds.{Any-from_list_any, list_any_at}
use Rattle.std.specs.List.{list_any}
use Rattle.std.specs.Prelude.{Option, Some, None}
use Rattle.au_base.specs.declared.action.Action.{Action}
use Rattle.au_base.specs.declared.action.Action.TheVariants.{All}
use Rattle.au_base.specs.declared.code.Code.{Code}
use Rattle.au_base.specs.declared.table.TableName.{TableName}
use Rattle.au_base.specs.Sameness.{same_action, same_privilege}
use Rattle.au_entries.specs.declared.facts.Facts.{Facts}
use Rattle.au_entries.specs.declared.policy.AuditPolicy.{AuditPolicy}
use Rattle.au_entries.specs.declared.policy.Enabled.{Enabled}
use Rattle.au_entries.specs.declared.policy.Enabled.TheVariants.{Off, By, Except}
use Rattle.au_entries.specs.Demand.{enablement_of, is_enabled_in}
use Rattle.au_entries.specs.Enabling.{is_on}
use Rattle.au_entries.specs.Matching.{covers_action, covers_privilege, covers_role, is_enabled_for, names_table as is_table_named, parts_match}
use Rattle.au_grants.specs.declared.grants.Grants.{Grants}
use Rattle.au_pindex.specs.Naming.{has_action_part, has_object_part, has_privilege_part, is_enabled, is_named, is_of_action, is_on_table, names_statement}

-- a pair that meets is found either way round
pub swapped : {A B : Type 0} (meets : A → B → Bool) (xs : List A) (ys : List B) → list_any (λ a. list_any (λ b. meets a b) ys) xs ≡ true → list_any (λ b. list_any (λ a. meets a b) xs) ys ≡ true
swapped meets xs ys found =
    let one = Any-from_list_any (λ a. list_any (λ b. meets a b) ys) xs found in
    let a = one.1 in
    let other = Any-from_list_any (λ b. meets a b) ys one.4 in
    let b = other.1 in
    list_any_at (λ b. list_any (λ a. meets a b) xs) ys other.0 b other.2
    (ap (λ z. list_any (λ a. meets a z) xs) other.3 ∙ list_any_at (λ a. meets a b) xs one.0 a one.2 (ap (λ z. meets z b) one.3 ∙ other.4))

-- what an action part that meets the statement names
met_part : (facts : Facts) (part : Action × Option TableName) → covers_action facts part ≡ true
    → (is_of_action facts.action part ≡ true) ⊎ ((is_of_action All part ≡ true) ⊎ (list_any (λ table. is_on_table table part) facts.tables ≡ true))
met_part facts (action, None) met =
    let parts = and_parts (same_action action facts.action || same_action action All) true met in
    elim (or_cases (same_action action facts.action) (same_action action All) parts.0) [
      | inl is ↦ inl (and_from (same_action action facts.action) true is refl)
      | inr is ↦ inr (inl (and_from (same_action action All) true is refl))
    ]
met_part facts (action, Some table) met = inr (inr (and_parts (same_action action facts.action || same_action action All) (is_table_named facts.tables (Some table)) met).1)

-- what action parts, of which one meets the statement, name
module _ (grants : Grants) (facts : Facts) (policy : AuditPolicy) where
  abbrev action : Bool
  action = has_action_part facts.action policy

  abbrev any_action : Bool
  any_action = has_action_part All policy

  abbrev table : Bool
  table = list_any (λ table. has_object_part table policy) facts.tables

  abbrev privilege : Bool
  privilege = list_any (λ privilege. has_privilege_part privilege policy) facts.used

  abbrev role : Bool
  role = list_any (covers_role grants facts) policy.roles

  by_table : table ≡ true → names_statement grants facts policy ≡ true
  by_table is = or_right action (any_action || (table || (privilege || role))) (or_right any_action (table || (privilege || role)) (or_left table (privilege || role) is))

  by_action : list_any (covers_action facts) policy.actions ≡ true → names_statement grants facts policy ≡ true
  by_action found =
      let one = Any-from_list_any (covers_action facts) policy.actions found in
      elim (met_part facts one.1 one.4) [
        | inl is ↦ or_left action (any_action || (table || (privilege || role)))
            (list_any_at (is_of_action facts.action) policy.actions one.0 one.1 one.2 (ap (is_of_action facts.action) one.3 ∙ is))
        | inr (inl is) ↦ or_right action (any_action || (table || (privilege || role)))
            (or_left any_action (table || (privilege || role)) (list_any_at (is_of_action All) policy.actions one.0 one.1 one.2 (ap (is_of_action All) one.3 ∙ is)))
        | inr (inr is) ↦ by_table
            (let other = Any-from_list_any (λ table. is_on_table table one.1) facts.tables is in
            list_any_at (λ table. has_object_part table policy) facts.tables other.0 other.1 other.2
            (ap (λ table. has_object_part table policy) other.3 ∙ list_any_at (is_on_table other.1) policy.actions one.0 one.1 one.2 (ap (is_on_table other.1) one.3 ∙ other.4)))
      ]

  -- a policy of which some part meets the statement names it
  pub names_met : parts_match grants facts policy ≡ true → names_statement grants facts policy ≡ true
  names_met met = elim (or_cases (list_any (covers_action facts) policy.actions) (list_any (covers_privilege facts) policy.privileges || role) met) [
    | inl found ↦ by_action found
    | inr rest ↦ or_right action (any_action || (table || (privilege || role))) (or_right any_action (table || (privilege || role)) (or_right table (privilege || role)
        (elim (or_cases (list_any (covers_privilege facts) policy.privileges) role rest) [
          | inl found ↦ or_left privilege role (swapped same_privilege policy.privileges facts.used found)
          | inr found ↦ or_right privilege role found
        ])))
  ]

-- a policy that is enabled for a statement is for somebody
on_where_enabled : (enabled : Enabled) (user : List ℕ) (code : Code) → is_enabled_for enabled user code ≡ true → is_on enabled ≡ true
on_where_enabled Off user code is = is
on_where_enabled (By []) user code is = is
on_where_enabled (By (entry ∷ users)) user code is = refl
on_where_enabled (Except users outcomes) user code is = refl

-- a policy that is asked is one that is tested
pub named_where : (grants : Grants) (enabled : List (List ℕ × Enabled)) (facts : Facts) (policy : AuditPolicy) (more : Bool)
    → (parts_match grants facts policy && (is_enabled_in enabled policy.name facts && more)) ≡ true → is_named grants enabled facts policy ≡ true
named_where grants enabled facts policy more asked =
    let one = and_parts (parts_match grants facts policy) (is_enabled_in enabled policy.name facts && more) asked in
    let two = and_parts (is_enabled_in enabled policy.name facts) more one.1 in
    and_from (is_enabled enabled policy) (names_statement grants facts policy)
    (on_where_enabled (enablement_of enabled policy.name) facts.user facts.code two.0) (names_met grants facts policy one.0)
