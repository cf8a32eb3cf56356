-- Which catalogue changes lead to.
use Rattle.std.proofs.Common.{◌≡◌, ◌∙◌, refl, sym, ap, subst, ℕ, false, List, [], ◌∷◌, ◌++◌, length, get_or, map, arith}
use Rattle.std.proofs.lemmas.List.{append-nil}
use Rattle.std.specs.List.{AllByRecursion, filter, list_any}
use Rattle.std.specs.Ordering.{is_gt, is_lt}
use Rattle.std.specs.Prelude.{Option}
use Rattle.au_catalog.specs.declared.catalog.Catalog.{Catalog}
use Rattle.au_catalog.specs.Settling.{catalog_after, catalog_after_all, condition_texts, when_texts}
use Rattle.au_base.specs.declared.action.Action.{Action}
use Rattle.au_base.specs.declared.privilege.Privilege.{Privilege}
use Rattle.au_base.specs.declared.table.TableName.{TableName}
use Rattle.au_entries.specs.declared.change.Change.{Change}
use Rattle.au_entries.specs.declared.change.Change.TheVariants as change
use Rattle.au_entries.specs.declared.policy.AuditPolicy.{AuditPolicy}
use Rattle.au_entries.specs.declared.policy.Enabled.{Enabled}
use Rattle.au_entries.specs.declared.policy.Evaluate.{Evaluate}
use Rattle.au_entries.specs.Changing.{by_name, enabled_after, policies_after, with_tree}
use Rattle.au_policy.specs.Asking.{CanBeAsked, IsTruthOverNone}
use Rattle.au_pindex.specs.Changing.{changes_policies}
use Rattle.au_pindex.specs.declared.index.Index.{Index}
use Rattle.au_pindex.specs.declared.staged.IndexEdit.{IndexEdit}
use Rattle.au_pindex.specs.descent.Finding.{with_policy}
use Rattle.au_pindex.specs.Indexing.{IsIndexOf}
use Rattle.au_pindex.specs.descent.Edits.{Keeps, no_edit}
use Rattle.au_pindex.specs.descent.Leading.{Leads}
use Rattle.au_pindex.proofs.Leading.{leads_alone}
use Rattle.au_pindex.proofs.Reserved.{all_kept}
use Rattle.au_pindex.proofs.Stays.{enabled_stay, neither, policies_stay}
use Rattle.sql_ast.specs.declared.expression.Expr.{Expr}

abbrev Entries : Type 0
Entries = List (List ℕ × Enabled)

-- ---- changes that leave policies and enablements

no_edit_same : (enabled : Entries) (policies : List AuditPolicy) → Leads enabled policies enabled policies no_edit
no_edit_same enabled policies = leads_alone enabled policies enabled policies no_edit refl (λ test at. refl) refl

pub no_edit_to : (enabled later : Entries) (policies changed : List AuditPolicy) → later ≡ enabled → changed ≡ policies → Leads enabled policies later changed no_edit
no_edit_to enabled later policies changed one other =
    subst (λ (entries : Entries). Leads enabled policies entries changed no_edit) (sym one) (subst (λ ps. Leads enabled policies enabled ps no_edit) (sym other) (no_edit_same enabled policies))

pub unaffected : (tree : List ℕ → Expr) (change : Change) (enabled : Entries) (policies : List AuditPolicy) → changes_policies change ≡ false → Leads enabled policies (enabled_after change enabled) (policies_after tree change policies) no_edit
unaffected tree change enabled policies is =
    no_edit_to enabled (enabled_after change enabled) policies (policies_after tree change policies) (enabled_stay change enabled is) (policies_stay tree change policies is)

pub policies_all_stay : (tree : List ℕ → Expr) (changes : List Change) (catalog : Catalog) → list_any changes_policies changes ≡ false → (catalog_after_all tree changes catalog).policies ≡ catalog.policies
policies_all_stay tree [] catalog is = refl
policies_all_stay tree (change ∷ changes) catalog is =
    let parts = neither (changes_policies change) (list_any changes_policies changes) is in
    policies_all_stay tree changes (catalog_after tree change catalog) parts.1 ∙ policies_stay tree change catalog.policies parts.0

pub enabled_all_stay : (tree : List ℕ → Expr) (changes : List Change) (catalog : Catalog) → list_any changes_policies changes ≡ false → (catalog_after_all tree changes catalog).enabled ≡ catalog.enabled
enabled_all_stay tree [] catalog is = refl
enabled_all_stay tree (change ∷ changes) catalog is =
    let parts = neither (changes_policies change) (list_any changes_policies changes) is in
    enabled_all_stay tree changes (catalog_after tree change catalog) parts.1 ∙ enabled_stay change catalog.enabled parts.0

-- ---- one of the policies

-- what is so of all policies is so of one that is put among them
middle : {X : Type 0} (P : X → Type 0) (xs ys : List X) (x : X) → AllByRecursion P (xs ++ x ∷ ys) → P x
middle P [] ys x all = all.0
middle P (z ∷ xs) ys x all = middle P xs ys x all.1

pub put_is_truth : (name : List ℕ) (policy : AuditPolicy) (policies : List AuditPolicy) → AllByRecursion (λ (other : AuditPolicy). IsTruthOverNone other.when) (with_policy name policy policies) → IsTruthOverNone policy.when
put_is_truth name policy policies all =
    middle (λ (other : AuditPolicy). IsTruthOverNone other.when) (filter (λ (other : AuditPolicy). is_lt (by_name other.name name)) policies) (filter (λ (other : AuditPolicy). is_gt (by_name other.name name)) policies) policy all

-- ---- a change of a policy

module _ (name : List ℕ) (privileges : List Privilege) (actions : List (Action × Option TableName)) (roles : List (List ℕ)) (when : Option (Evaluate × List ℕ)) (made : Change) (is : made ≡ change.Policy name privileges actions roles when) (tree : List ℕ → Expr) where
  -- the policy, with the tree of its condition
  abbrev pub whole : AuditPolicy
  whole = record { name = name; privileges = privileges; actions = actions; roles = roles; when = with_tree tree when }

  pub policy_texts : (trees : List Expr) → map tree (condition_texts (made ∷ [])) ≡ trees → map tree (when_texts when) ≡ trees
  policy_texts trees read = ap (map tree) (sym (append-nil (when_texts when))) ∙ subst (λ one. map tree (condition_texts (one ∷ [])) ≡ trees) is read

  pub policy_truth : (catalog : Catalog) → CanBeAsked (catalog_after_all tree (made ∷ []) catalog) → IsTruthOverNone (with_tree tree when)
  policy_truth catalog can =
      let known = subst (λ one. CanBeAsked (catalog_after_all tree (one ∷ []) catalog)) is can in
      put_is_truth name whole catalog.policies known.truths

  pub policy_leads : (enabled : Entries) (policies : List AuditPolicy) (edit : IndexEdit) → Leads enabled policies enabled (with_policy name whole policies) edit → Leads enabled policies (enabled_after made enabled) (policies_after tree made policies) edit
  policy_leads enabled policies edit leads = subst (λ one. Leads enabled policies (enabled_after one enabled) (policies_after tree one policies) edit) (sym is) leads

-- ---- an index that keeps what it has

pub keeps_itself : (index : Index) → Keeps index index
keeps_itself index = record { buckets = all_kept index.buckets; conditions = refl }

pub keeps_index : (catalog : Catalog) (old new : Index) → Keeps old new → IsIndexOf catalog old → IsIndexOf catalog new
keeps_index catalog old new keeps is = record {
  buckets = record {
    actions = λ action at. keeps.buckets.actions.places _ at ∙ is.buckets.actions action at;
    tables = λ table at. keeps.buckets.tables.places table at ∙ is.buckets.tables table at;
    privileges = λ privilege at. keeps.buckets.privileges.places _ at ∙ is.buckets.privileges privilege at;
    roles = λ role at. keeps.buckets.roles.places role at ∙ is.buckets.roles role at;
  };
  conditions = keeps.conditions ∙ is.conditions;
}

-- ---- a list of one

pub only_one : {X : Type 0} (xs : List X) (x : X) → length xs ≡ 1 → x ≡ get_or xs 0 x → xs ≡ x ∷ []
only_one [] x one is = absurd (omega (arith, one))
only_one (y ∷ []) x one is = ap (λ z. z ∷ []) (sym is)
only_one (y ∷ z ∷ xs) x one is = absurd (omega (arith, one))
