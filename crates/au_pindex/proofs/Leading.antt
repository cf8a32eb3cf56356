-- To which policies and enablements edits of an index lead.
use Rattle.std.proofs.Common.{◌≡◌, ◌∙◌, ◌+◌, arith, refl, sym, ap, subst, inl, inr, ℕ, Bool, true, false, not, cond, ◌||◌, ◌&&◌, List, [], ◌∷◌, ◌++◌, length, map, take, drop, BTreeSet}
use Rattle.std.proofs.lemmas.Bool.Decides.{eqb_tells}
use Rattle.std.specs.BTreeMap.{is_at}
use Rattle.std.specs.BTreeSet.{contains}
use Rattle.std.specs.Cmp.Lexicographic.{bytes_decides}
use Rattle.std.specs.List.{list_any, slice_get}
use Rattle.std.specs.Ordering.{nat_cmp}
use Rattle.std.specs.Prelude.{◌==◌, Option, Some, None}
use Rattle.au_entries.specs.declared.policy.AuditPolicy.{AuditPolicy}
use Rattle.au_entries.specs.declared.policy.Enabled.{Enabled}
use Rattle.au_entries.specs.Changing.{is_on, with_enablement}
use Rattle.au_entries.specs.Demand.{enablement_of}
use Rattle.au_expr.specs.declared.placed.Placed.{Placed}
use Rattle.au_pindex.specs.declared.shift.Shift.TheVariants.{Opens, Leaves}
use Rattle.au_pindex.specs.declared.staged.ConditionEdit.TheVariants as condition
use Rattle.au_pindex.specs.declared.staged.IndexEdit.{IndexEdit}
use Rattle.au_grants.specs.Changing.{without}
use Rattle.au_pindex.specs.descent.Finding.{BelongsAt, StandsAt, is_named, with_policy}
use Rattle.au_pindex.specs.Indexing.{condition_of}
use Rattle.au_pindex.specs.Naming.{has_action_part, has_object_part, has_privilege_part, has_role_part, is_enabled}
use Rattle.au_pindex.specs.Places.{passes, passes_at}
use Rattle.au_pindex.specs.descent.Shifting.{came_from}
use Rattle.au_pindex.specs.descent.Edits.{IsLeaving, IsReplacing, adds, closes, joins, no_edit, without_condition}
use Rattle.au_pindex.specs.descent.Leading.{Leads, conditions_after, is_joined, shifted_from}
use Rattle.au_pindex.proofs.EnabledBy.{on_after, same_turned}
use Rattle.au_pindex.proofs.Laid.{closed, dropped_mapped, joined_mapped, opened, replaced, taken_mapped}
use Rattle.au_pindex.proofs.Placing.{is_itself, is_other}

abbrev Entries : Type 0
Entries = List (List ℕ × Enabled)

module _ (enabled : Entries) (policies : List AuditPolicy) (later : Entries) (changed : List AuditPolicy) where
  -- where the policies stood that stand at a place and pass a test
  abbrev pub was_from : (AuditPolicy → Bool) → Option ℕ → Bool
  was_from test from = passes (passes_at (λ policy. is_enabled enabled policy && test policy) policies) from

  abbrev pub is_now : (AuditPolicy → Bool) → ℕ → Bool
  is_now test at = passes_at (λ policy. is_enabled later policy && test policy) changed at

  -- an edit by which none joins
  pub leads_alone : (edit : IndexEdit) → edit.joining ≡ None → ((test : AuditPolicy → Bool) (at : ℕ) → is_now test at ≡ was_from test (shifted_from edit.shift at))
      → map condition_of changed ≡ conditions_after edit.condition (map condition_of policies) → Leads enabled policies later changed edit
  leads_alone edit none law conditions = record {
    actions = λ action at. law (has_action_part action) at ∙ sym (ap (λ j. is_joined has_action_part j action at || was_from (has_action_part action) (shifted_from edit.shift at)) none);
    tables = λ table at. law (has_object_part table) at ∙ sym (ap (λ j. is_joined has_object_part j table at || was_from (has_object_part table) (shifted_from edit.shift at)) none);
    privileges = λ privilege at. law (has_privilege_part privilege) at ∙ sym (ap (λ j. is_joined has_privilege_part j privilege at || was_from (has_privilege_part privilege) (shifted_from edit.shift at)) none);
    roles = λ role at. law (has_role_part role) at ∙ sym (ap (λ j. is_joined has_role_part j role at || was_from (has_role_part role) (shifted_from edit.shift at)) none);
    conditions = conditions;
  }

  -- an edit by which the place of a policy joins, which is known without its condition
  pub leads_joined : (edit : IndexEdit) (place : ℕ) (policy : AuditPolicy) → edit.joining ≡ Some (record { place = place; policy = without_condition policy })
      → ((test : AuditPolicy → Bool) (at : ℕ) → is_now test at ≡ ((test policy && (place == at)) || was_from test (shifted_from edit.shift at)))
      → map condition_of changed ≡ conditions_after edit.condition (map condition_of policies) → Leads enabled policies later changed edit
  leads_joined edit place policy one law conditions = record {
    actions = λ action at. law (has_action_part action) at ∙ sym (ap (λ j. is_joined has_action_part j action at || was_from (has_action_part action) (shifted_from edit.shift at)) one);
    tables = λ table at. law (has_object_part table) at ∙ sym (ap (λ j. is_joined has_object_part j table at || was_from (has_object_part table) (shifted_from edit.shift at)) one);
    privileges = λ privilege at. law (has_privilege_part privilege) at ∙ sym (ap (λ j. is_joined has_privilege_part j privilege at || was_from (has_privilege_part privilege) (shifted_from edit.shift at)) one);
    roles = λ role at. law (has_role_part role) at ∙ sym (ap (λ j. is_joined has_role_part j role at || was_from (has_role_part role) (shifted_from edit.shift at)) one);
    conditions = conditions;
  }

-- tests that answer the same
pub same_tests : (one other : AuditPolicy → Bool) → ((q : AuditPolicy) → one q ≡ other q) → (o : Option AuditPolicy) → passes one o ≡ passes other o
same_tests one other same None = refl
same_tests one other same (Some q) = same q

-- ---- enablements that change

-- the one policy of its name at a place
only : (name : List ℕ) (policies : List AuditPolicy) (place at : ℕ) (e : AuditPolicy) → StandsAt name policies place → slice_get policies place ≡ Some e → (q : AuditPolicy) → slice_get policies at ≡ Some q → is_named name q ≡ true → q ≡ e
only name policies place at e stands here q there named = elim (eqb_tells place at) [
  | inl same ↦ some_same (sym there ∙ ap (slice_get policies) (sym same.1) ∙ here)
  | inr other ↦ (let f : true ≡ false = sym (ap (passes (is_named name)) there ∙ named) ∙ stands.alone at ∙ other.0 in absurd (cc))
]
  where
    or_given : Option AuditPolicy → AuditPolicy
    or_given None = e
    or_given (Some x) = x

    some_same : {x y : AuditPolicy} → Some x ≡ Some y → x ≡ y
    some_same is = ap or_given is

module _ (name : List ℕ) (enabled later : Entries) (on : Bool) (after : (q : AuditPolicy) → is_enabled later q ≡ cond (is_named name q) on (is_enabled enabled q)) where
  -- nobody is enabled who wasn't, and nobody left
  pub keeps_at : (o : Option AuditPolicy) (test : AuditPolicy → Bool) → ((q : AuditPolicy) → o ≡ Some q → is_named name q ≡ true → is_enabled enabled q ≡ on)
      → passes (λ q. is_enabled later q && test q) o ≡ passes (λ q. is_enabled enabled q && test q) o
  keeps_at None test same = refl
  keeps_at (Some q) test same = ap (λ b. b && test q) (after q ∙ in_case (is_named name q) refl)
    where
      in_case : (t : Bool) → is_named name q ≡ t → cond t on (is_enabled enabled q) ≡ is_enabled enabled q
      in_case true is = sym (same q refl is)
      in_case false is = refl

  -- one is enabled who wasn't
  pub joins_at : on ≡ true → (o : Option AuditPolicy) (test : AuditPolicy → Bool) (e : AuditPolicy) (here : Bool) → passes (is_named name) o ≡ here
      → ((q : AuditPolicy) → o ≡ Some q → is_named name q ≡ true → q ≡ e) → is_enabled enabled e ≡ false
      → passes (λ q. is_enabled later q && test q) o ≡ ((test e && here) || passes (λ q. is_enabled enabled q && test q) o)
  joins_at is_on None test e here is one off = sym (ap (λ b. (test e && b) || false) (sym is) ∙ ap (λ b. b || false) (no (test e)))
    where
      no : (a : Bool) → (a && false) ≡ false
      no true = refl
      no false = refl
  joins_at is_on (Some q) test e here is one off = ap (λ b. b && test q) (after q) ∙ in_case (is_named name q) refl ∙ ap (λ b. (test e && b) || (is_enabled enabled q && test q)) is
    where
      yes : (a : Bool) → a ≡ ((a && true) || false)
      yes true = refl
      yes false = refl

      no : (a b : Bool) → b ≡ ((a && false) || b)
      no true b = refl
      no false b = refl

      in_case : (t : Bool) → is_named name q ≡ t → (cond t on (is_enabled enabled q) && test q) ≡ ((test e && t) || (is_enabled enabled q && test q))
      in_case true named =
          let same = one q refl named in
          ap (λ b. b && test q) is_on ∙ ap test same ∙ yes (test e) ∙ sym (ap (λ b. (test e && true) || (b && test q)) (ap (is_enabled enabled) same ∙ off))
      in_case false named = no (test e) (is_enabled enabled q && test q)

-- those who leave are those who were enabled and aren't
module _ (policies : List AuditPolicy) (was now leaving : AuditPolicy → Bool) (law : (q : AuditPolicy) → now q ≡ (was q && not (leaving q))) (test : AuditPolicy → Bool) (at : ℕ) where
  by_leaving : (o : Option AuditPolicy) (gone : Bool) → passes leaving o ≡ gone → passes (λ q. now q && test q) o ≡ cond gone false (passes (λ q. was q && test q) o)
  by_leaving None gone is = none gone
    where
      none : (b : Bool) → false ≡ cond b false false
      none true = refl
      none false = refl
  by_leaving (Some q) gone is = ap (λ b. b && test q) (law q ∙ ap (λ b. was q && not b) is) ∙ in_case (was q) gone
    where
      in_case : (a b : Bool) → ((a && not b) && test q) ≡ cond b false (a && test q)
      in_case true true = refl
      in_case true false = refl
      in_case false true = refl
      in_case false false = refl

  from_left : (gone : Bool) → cond gone false (passes_at (λ q. was q && test q) policies at) ≡ passes (passes_at (λ q. was q && test q) policies) (cond gone None (Some at))
  from_left true = refl
  from_left false = refl

  pub left_at : (places : BTreeSet ℕ) → contains nat_cmp places at ≡ passes_at leaving policies at
      → passes_at (λ q. now q && test q) policies at ≡ passes (passes_at (λ q. was q && test q) policies) (shifted_from (Some (Leaves places)) at)
  left_at places told = by_leaving (slice_get policies at) (contains nat_cmp places at) (sym told) ∙ from_left (contains nat_cmp places at)

-- ---- the edits of enablements

module _ (enabled : Entries) (policies : List AuditPolicy) where
  pub no_edit_leads : (later : Entries) → ((test : AuditPolicy → Bool) (at : ℕ) → is_now enabled policies later policies test at ≡ was_from enabled policies later policies test (Some at)) → (edit : IndexEdit) → edit ≡ no_edit → Leads enabled policies later policies edit
  no_edit_leads later law edit is = subst (λ x. Leads enabled policies later policies x) (sym is) (leads_alone enabled policies later policies no_edit refl law refl)

  pub leaving_leads : (later : Entries) (leaving : AuditPolicy → Bool) → ((q : AuditPolicy) → is_enabled later q ≡ (is_enabled enabled q && not (leaving q))) → (edit : IndexEdit) → IsLeaving (passes_at leaving policies) edit → Leads enabled policies later policies edit
  leaving_leads later leaving law edit (places, told, is) =
      subst (λ x. Leads enabled policies later policies x) (sym is)
      (leads_alone enabled policies later policies (record { shift = Some (Leaves places); condition = condition.Stays; joining = None }) refl
      (λ test at. left_at policies (is_enabled enabled) (is_enabled later) leaving law test at places (told at)) refl)

  no_keys : (test : ℕ → Bool) (keys : List ℕ) → length keys ≡ 0 → list_any test keys ≡ false
  no_keys test [] is = refl
  no_keys test (key ∷ keys) is = absurd (omega (arith, is))

  -- none leaves
  pub none_leaves : (later : Entries) (leaving : AuditPolicy → Bool) → ((q : AuditPolicy) → is_enabled later q ≡ (is_enabled enabled q && not (leaving q)))
      → (places : BTreeSet ℕ) → ((at : ℕ) → contains nat_cmp places at ≡ passes_at leaving policies at) → length places.keys ≡ 0 → (edit : IndexEdit) → edit ≡ no_edit → Leads enabled policies later policies edit
  none_leaves later leaving law places told none edit is =
      no_edit_leads later (λ test at. by_leaving policies (is_enabled enabled) (is_enabled later) leaving law test at (slice_get policies at) false (sym (told at) ∙ no_keys (is_at (nat_cmp at)) places.keys none)) edit is

  pub joins_leads : (later : Entries) (place : ℕ) (policy : AuditPolicy) → ((test : AuditPolicy → Bool) (at : ℕ) → is_now enabled policies later policies test at ≡ ((test policy && (place == at)) || was_from enabled policies later policies test (Some at)))
      → (edit : IndexEdit) → edit ≡ joins place policy → Leads enabled policies later policies edit
  joins_leads later place policy law edit is = subst (λ x. Leads enabled policies later policies x) (sym is) (leads_joined enabled policies later policies (joins place policy) place policy refl law refl)

-- ---- AUDIT and NOAUDIT

module _ (name : List ℕ) (made : Enabled) (enabled : Entries) (policies : List AuditPolicy) where
  abbrev later : Entries
  later = with_enablement name made enabled

  after : (q : AuditPolicy) → is_enabled later q ≡ cond (is_named name q) (is_on made) (is_enabled enabled q)
  after q = on_after q.name name made enabled ∙ ap (λ t. cond t (is_on made) (is_enabled enabled q)) (same_turned name q.name)

  as_named : (q : AuditPolicy) → is_named name q ≡ true → is_enabled enabled q ≡ is_on (enablement_of enabled name)
  as_named q named = ap (λ n. is_on (enablement_of enabled n)) ((bytes_decides q.name name).0 named)

  -- the policy is on as before
  pub same_leads : (on : Bool) → is_on (enablement_of enabled name) ≡ on → is_on made ≡ on → (edit : IndexEdit) → edit ≡ no_edit → Leads enabled policies later policies edit
  same_leads on was is edit edits =
      no_edit_leads enabled policies later (λ test at. keeps_at name enabled later (is_on made) after (slice_get policies at) test (λ q there named. as_named q named ∙ was ∙ sym is)) edit edits

  -- no policy has the name
  pub none_leads : (place : ℕ) → BelongsAt name policies place → (edit : IndexEdit) → edit ≡ no_edit → Leads enabled policies later policies edit
  none_leads place belongs edit edits =
      no_edit_leads enabled policies later
      (λ test at. keeps_at name enabled later (is_on made) after (slice_get policies at) test (λ q there named. absurd (let e : true ≡ false = sym (ap (passes (is_named name)) there ∙ named) ∙ belongs.none at in cc))) edit edits

  off_law : is_on made ≡ false → (q : AuditPolicy) → is_enabled later q ≡ (is_enabled enabled q && not (is_named name q))
  off_law off q = after q ∙ ap (λ on. cond (is_named name q) on (is_enabled enabled q)) off ∙ in_case (is_named name q) (is_enabled enabled q)
    where
      in_case : (t a : Bool) → cond t false a ≡ (a && not t)
      in_case true true = refl
      in_case true false = refl
      in_case false true = refl
      in_case false false = refl

  -- it is off now
  pub off_leads : (place : ℕ) → StandsAt name policies place → is_on made ≡ false → (edit : IndexEdit) → IsLeaving (λ at. place == at) edit → Leads enabled policies later policies edit
  off_leads place stands off edit (places, told, is) = leaving_leads enabled policies later (is_named name) (off_law off) edit (places, λ at. told at ∙ sym (stands.alone at), is)

  -- it is on now
  pub on_leads : (place : ℕ) (policy : AuditPolicy) → StandsAt name policies place → slice_get policies place ≡ Some policy → is_on made ≡ true → is_on (enablement_of enabled name) ≡ false
      → (edit : IndexEdit) → edit ≡ joins place policy → Leads enabled policies later policies edit
  on_leads place policy stands here on off edit edits =
      let named : is_named name policy ≡ true = sym (ap (passes (is_named name)) here) ∙ stands.alone place ∙ is_itself place in
      joins_leads enabled policies later place policy
      (λ test at. joins_at name enabled later (is_on made) after on (slice_get policies at) test policy (place == at) (stands.alone at) (λ q there is. only name policies place at policy stands here q there is) (as_named policy named ∙ off))
      edit edits

-- ---- policies that come and go

mapped_parted : (xs ys : List AuditPolicy) → map condition_of (xs ++ ys) ≡ map condition_of xs ++ map condition_of ys
mapped_parted = joined_mapped condition_of

-- a policy that goes
pub gone_leads : (name : List ℕ) (enabled : Entries) (policies : List AuditPolicy) (place : ℕ) → StandsAt name policies place → Leads enabled policies enabled (without (is_named name) policies) (closes place)
gone_leads name enabled policies place stands =
    leads_alone enabled policies enabled (without (is_named name) policies) (closes place) refl
    (λ test at. ap (λ xs. passes_at (λ policy. is_enabled enabled policy && test policy) xs at) stands.others ∙ closed (λ policy. is_enabled enabled policy && test policy) policies place (let less = stands.within in omega (arith, less)) at)
    (ap (map condition_of) stands.others ∙ mapped_parted (take place policies) (drop (place + 1) policies)
    ∙ ap (λ xs. xs ++ map condition_of (drop (place + 1) policies)) (taken_mapped condition_of place policies)
    ∙ ap (λ xs. take place (map condition_of policies) ++ xs) (dropped_mapped condition_of (place + 1) policies))

-- none has the name of one that goes
pub none_gone_leads : (name : List ℕ) (enabled : Entries) (policies : List AuditPolicy) (place : ℕ) → BelongsAt name policies place → Leads enabled policies enabled (without (is_named name) policies) no_edit
none_gone_leads name enabled policies place belongs =
    leads_alone enabled policies enabled (without (is_named name) policies) no_edit refl
    (λ test at. ap (λ xs. passes_at (λ policy. is_enabled enabled policy && test policy) xs at) belongs.others)
    (ap (map condition_of) belongs.others)

-- ---- a policy that is put among others

module _ (enabled : Entries) (policies : List AuditPolicy) (whole : AuditPolicy) (place : ℕ) where
  abbrev enabled_and : (AuditPolicy → Bool) → AuditPolicy → Bool
  enabled_and test policy = is_enabled enabled policy && test policy

  added_conditions : (n : ℕ) → map condition_of (take place policies ++ whole ∷ drop n policies) ≡ take place (map condition_of policies) ++ condition_of whole ∷ drop n (map condition_of policies)
  added_conditions n =
      mapped_parted (take place policies) (whole ∷ drop n policies)
      ∙ ap (λ xs. xs ++ condition_of whole ∷ map condition_of (drop n policies)) (taken_mapped condition_of place policies)
      ∙ ap (λ xs. take place (map condition_of policies) ++ condition_of whole ∷ xs) (dropped_mapped condition_of n policies)

  -- a new one
  pub adds_leads : BelongsAt whole.name policies place → (on : Bool) → is_enabled enabled whole ≡ on → Leads enabled policies enabled (with_policy whole.name whole policies) (adds on place (without_condition whole) (condition_of whole))
  adds_leads belongs true is =
      leads_joined enabled policies enabled (with_policy whole.name whole policies) (adds true place (without_condition whole) (condition_of whole)) place whole refl
      (λ test at. ap (λ xs. passes_at (enabled_and test) xs at) (belongs.added whole) ∙ opened (enabled_and test) policies whole place belongs.within at
      ∙ ap (λ on. ((on && test whole) && (place == at)) || passes (passes_at (enabled_and test) policies) (came_from (Opens place) at)) is)
      (ap (map condition_of) (belongs.added whole) ∙ added_conditions place)
  adds_leads belongs false is =
      leads_alone enabled policies enabled (with_policy whole.name whole policies) (adds false place (without_condition whole) (condition_of whole)) refl
      (λ test at. ap (λ xs. passes_at (enabled_and test) xs at) (belongs.added whole) ∙ opened (enabled_and test) policies whole place belongs.within at
      ∙ ap (λ on. ((on && test whole) && (place == at)) || passes (passes_at (enabled_and test) policies) (came_from (Opens place) at)) is)
      (ap (map condition_of) (belongs.added whole) ∙ added_conditions place)

  -- the policy that stood there is off, where the new one is
  off_there : (o : Option AuditPolicy) (test : AuditPolicy → Bool) → passes (is_named whole.name) o ≡ true → is_enabled enabled whole ≡ false → passes (enabled_and test) o ≡ false
  off_there None test is off = refl
  off_there (Some q) test is off = ap (λ b. b && test q) (ap (λ n. is_on (enablement_of enabled n)) ((bytes_decides q.name whole.name).0 is) ∙ off)

  stays_at : (places : BTreeSet ℕ) → ((at : ℕ) → contains nat_cmp places at ≡ (place == at)) → (at : ℕ) → (place ≡ at → ⊥) → came_from (Leaves places) at ≡ Some at
  stays_at places told at differ = ap (λ b. cond b None (Some at)) (told at ∙ is_other place at differ)

  leaves_at : (places : BTreeSet ℕ) → ((at : ℕ) → contains nat_cmp places at ≡ (place == at)) → came_from (Leaves places) place ≡ None
  leaves_at places told = ap (λ b. cond b None (Some place)) (told place ∙ is_itself place)

  -- one in place of another
  pub replaces_leads : StandsAt whole.name policies place → (on : Bool) → is_enabled enabled whole ≡ on → (edit : IndexEdit) → IsReplacing on place (without_condition whole) (condition_of whole) edit
      → Leads enabled policies enabled (with_policy whole.name whole policies) edit
  replaces_leads stands true is edit edits =
      let leaving = edits.shift in
      let told = leaving.1 in
      let less = stands.within in
      leads_joined enabled policies enabled (with_policy whole.name whole policies) edit place whole edits.joining
      (λ test at. ap (λ xs. passes_at (enabled_and test) xs at) (stands.replaced whole)
      ∙ replaced (enabled_and test) policies whole place (omega (arith, less)) (shifted_from (Some (Leaves leaving.0))) (stays_at leaving.0 told) (ap (passes (passes_at (enabled_and test) policies)) (leaves_at leaving.0 told)) at
      ∙ ap (λ on. ((on && test whole) && (place == at)) || passes (passes_at (enabled_and test) policies) (shifted_from (Some (Leaves leaving.0)) at)) is
      ∙ ap (λ shift. (test whole && (place == at)) || passes (passes_at (enabled_and test) policies) (shifted_from shift at)) (sym leaving.2))
      (ap (map condition_of) (stands.replaced whole) ∙ added_conditions (place + 1) ∙ ap (λ c. conditions_after c (map condition_of policies)) (sym edits.condition))
  replaces_leads stands false is edit edits =
      let less = stands.within in
      leads_alone enabled policies enabled (with_policy whole.name whole policies) edit edits.joining
      (λ test at. ap (λ xs. passes_at (enabled_and test) xs at) (stands.replaced whole)
      ∙ replaced (enabled_and test) policies whole place (omega (arith, less)) (shifted_from None) (λ to differ. refl) (off_there (slice_get policies place) test (stands.alone place ∙ is_itself place) is) at
      ∙ ap (λ on. ((on && test whole) && (place == at)) || passes (passes_at (enabled_and test) policies) (shifted_from None at)) is
      ∙ ap (λ shift. passes (passes_at (enabled_and test) policies) (shifted_from shift at)) (sym edits.shift))
      (ap (map condition_of) (stands.replaced whole) ∙ added_conditions (place + 1) ∙ ap (λ c. conditions_after c (map condition_of policies)) (sym edits.condition))

-- ---- a policy that is known without its condition

module _ (enabled : Entries) (policies : List AuditPolicy) (policy whole : AuditPolicy) (resolved : Option Placed) (place : ℕ) (on : Bool) (parts : policy ≡ without_condition whole) (same : resolved ≡ condition_of whole) (was : on ≡ is_on (enablement_of enabled policy.name)) where
  named : policy.name ≡ whole.name
  named = ap (λ (p : AuditPolicy). p.name) parts

  is_on_so : is_enabled enabled whole ≡ on
  is_on_so = sym (was ∙ ap (λ n. is_on (enablement_of enabled n)) named)

  pub put_replaces : StandsAt policy.name policies place → (edit : IndexEdit) → IsReplacing on place policy resolved edit → Leads enabled policies enabled (with_policy whole.name whole policies) edit
  put_replaces stands edit edits =
      replaces_leads enabled policies whole place (subst (λ n. StandsAt n policies place) named stands) on is_on_so edit
      (subst (λ c. IsReplacing on place (without_condition whole) c edit) same (subst (λ p. IsReplacing on place p resolved edit) parts edits))

  pub put_adds : BelongsAt policy.name policies place → (edit : IndexEdit) → edit ≡ adds on place policy resolved → Leads enabled policies enabled (with_policy whole.name whole policies) edit
  put_adds belongs edit edits =
      subst (λ e. Leads enabled policies enabled (with_policy whole.name whole policies) e) (sym (edits ∙ ap (λ p. adds on place p resolved) parts ∙ ap (λ c. adds on place (without_condition whole) c) same))
      (adds_leads enabled policies whole place (subst (λ n. BelongsAt n policies place) named belongs) on is_on_so)
