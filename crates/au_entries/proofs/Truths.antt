-- Conditions stay truths over their tables under each change that goes on.
use Rattle.std.proofs.Common.{◌≡◌, ◌≢◌, ◌∙◌, ℕ, Bool, true, false, not, ◌⊎◌, inl, inr, List, [], ◌∷◌, map, refl, sym, ap, subst}
use Rattle.std.specs.Prelude.{IsTrue, ⊤, Option, Some, None}
use Rattle.std.specs.List.{AllByRecursion, Contains, filter, list_any}
use Rattle.std.specs.Ordering.{is_lt}
use Rattle.std.specs.Str.{bytes_eq}
use Rattle.au_base.specs.declared.table.TableName.{TableName}
use Rattle.au_base.specs.Order.{fields_before, is_in_order}
use Rattle.au_base.specs.OrderLaws.{fields_irreflexive}
use Rattle.au_base.specs.Sameness.{same_table}
use Rattle.au_entries.specs.declared.change.Change.{Change}
use Rattle.au_entries.specs.declared.change.Change.TheVariants.{Table, TableGone, Policy, PolicyGone, Fga, FgaGone}
use Rattle.au_entries.specs.declared.fine_grained.FgaPolicy.{FgaPolicy}
use Rattle.au_entries.specs.declared.kept.Kept.{Kept}
use Rattle.au_entries.specs.declared.policy.AuditPolicy.{AuditPolicy}
use Rattle.au_entries.specs.declared.policy.Condition.{Condition}
use Rattle.au_entries.specs.declared.policy.Evaluate.{Evaluate}
use Rattle.au_entries.specs.declared.table.Table.{Table as AnyTable}
use Rattle.au_entries.specs.Changing.{by_fields, by_name, changed, fga_after, fga_fields, is_fga, policies_after, read_as, table_fields, tables_after, with_tree}
use Rattle.au_entries.specs.Lawful.{AreTruths, IsAuditTruth, IsFgaTruth, IsFounded, IsLawful, IsOrdered}
use Rattle.au_entries.specs.Replaying.{AllGoOn, Conditions, GoesOn, IsFgaCondition, IsKeptTable, IsPolicyCondition, has_table}
use Rattle.au_entries.specs.Changing.{changed_all}
use Rattle.au_entries.proofs.Bounds.{archive_bounded, instance_bounded}
use Rattle.au_entries.proofs.Founded.{NoneCloses, one_founded}
use Rattle.au_entries.proofs.Members.{all_at, all_of, kept, none_pass, put_cases, split}
use Rattle.au_entries.proofs.Ordered.{one_ordered}
use Rattle.au_entries.proofs.Rising.{Before, Rises, rises}
use Rattle.au_entries.proofs.Stays.{is_table_name, same_tables}
use Rattle.au_grants.specs.declared.change.GrantChange.{GrantChange}
use Rattle.au_grants.specs.declared.grants.Grants.{Grants}
use Rattle.au_grants.specs.Changing.{applied}
use Rattle.au_grants.specs.Order.{AreInOrder}
use Rattle.sql_ast.specs.declared.expression.Expr.{Expr}

-- ---- one table of a name

apart_fields : (a b : TableName) → fields_before (table_fields a) (table_fields b) ≡ true → a ≢ b
apart_fields a b before same =
    let e : false ≡ true = sym (fields_irreflexive (table_fields a)) ∙ ap (λ (t : TableName). fields_before (table_fields a) (table_fields t)) same ∙ before in cc

only_table : (tables : List AnyTable) → Rises by_fields (λ (table : AnyTable). table_fields table.name) tables → (a b : AnyTable) → Contains tables a → Contains tables b → a.name ≡ b.name → a ≡ b
only_table [] up a b one two same = absurd (none_at one)
  where
    none_at : Contains {X = AnyTable} [] a → ⊥
    none_at has = none_pass (λ (x : AnyTable). true) [] a refl has refl
only_table (y ∷ ys) up a b one two same = elim (split y ys a one) [
  | inl first ↦ elim (split y ys b two) [
    | inl second ↦ sym first ∙ second
    | inr later ↦ absurd (apart_fields y.name b.name (all_at (λ (x : AnyTable). fields_before (table_fields y.name) (table_fields x.name) ≡ true) ys up.0 b later) (ap (λ (t : AnyTable). t.name) first ∙ same))
  ]
  | inr early ↦ elim (split y ys b two) [
    | inl second ↦ absurd (apart_fields y.name a.name (all_at (λ (x : AnyTable). fields_before (table_fields y.name) (table_fields x.name) ≡ true) ys up.0 a early) (ap (λ (t : AnyTable). t.name) second ∙ sym same))
    | inr later ↦ only_table ys up.1 a b early later same
  ]
]

-- ---- audit policies

new_audit : (conditions : Conditions) (when : Option (Evaluate × List ℕ)) → IsPolicyCondition conditions when → IsAuditTruth conditions (with_tree conditions.tree when)
new_audit conditions None goes = tt
new_audit conditions (Some when) goes = ((goes.0, refl), goes.1)

audit_at : (conditions : Conditions) (image : Bool) (kept : Kept) (change : Change) → GoesOn conditions image kept change
    → ((x : AuditPolicy) → Contains kept.policies x → IsAuditTruth conditions x.when) → (x : AuditPolicy) → Contains (policies_after conditions.tree change kept.policies) x → IsAuditTruth conditions x.when
audit_at conditions image before (Policy name privileges actions roles when) goes old x has =
    elim (put_cases (λ (policy : AuditPolicy). by_name policy.name name) _ before.policies x has) [
      | inl same ↦ subst (λ (policy : AuditPolicy). IsAuditTruth conditions policy.when) same (new_audit conditions when goes.1)
      | inr there ↦ old x there
    ]
audit_at conditions image before (PolicyGone name) goes old x has = old x (kept (λ (policy : AuditPolicy). not (bytes_eq policy.name name)) before.policies x has)
audit_at conditions image before _ goes old x has = old x has

-- ---- fine-grained policies

abbrev IsTruth : Conditions → Kept → FgaPolicy → Type 0
IsTruth conditions kept policy = IsFgaTruth conditions kept policy.name.table policy.condition

new_fga : (conditions : Conditions) (before : Kept) (name : TableName) (table : AnyTable) (condition : Option (List ℕ)) → Rises by_fields (λ (t : AnyTable). table_fields t.name) before.tables
    → IsKeptTable before name table → IsFgaCondition conditions table condition → IsFgaTruth conditions before name (read_as conditions.tree condition)
new_fga conditions before name table None up here is = tt
new_fga conditions before name table (Some text) up here is =
    ((is.0, refl), λ other has. subst (λ (t : AnyTable). IsTrue (conditions.is_truth (Some t) (conditions.tree text))) (only_table before.tables up table other here.0 has.0 (here.1 ∙ sym has.1)) is.1)

-- a condition stays a truth where no other table of its table's name comes
same_truth : (conditions : Conditions) (before after : Kept) (name : TableName) (condition : Option Condition) → ((table : AnyTable) → IsKeptTable after name table → IsKeptTable before name table)
    → IsFgaTruth conditions before name condition → IsFgaTruth conditions after name condition
same_truth conditions before after name None from is = tt
same_truth conditions before after name (Some condition) from is = (is.0, λ table has. is.1 table (from table has))

fga_truth_at : (conditions : Conditions) (image : Bool) (kept : Kept) (change : Change) → IsOrdered kept → GoesOn conditions image kept change
    → ((x : FgaPolicy) → Contains kept.fga x → IsTrue (has_table kept x.name.table)) → ((x : FgaPolicy) → Contains kept.fga x → IsTruth conditions kept x)
    → (x : FgaPolicy) → Contains (fga_after conditions.tree change kept.fga) x → IsTruth conditions (changed conditions.tree change kept) x
fga_truth_at conditions image before (Fga table policy condition columns all types enabled) ordered goes founded old x has =
    elim (put_cases (λ (y : FgaPolicy). by_fields (fga_fields y.name.table y.name.policy) (fga_fields table policy)) _ before.fga x has) [
      | inl same ↦ subst (IsTruth conditions before) same
          (new_fga conditions before table goes.0 condition (rises by_fields (λ (t : AnyTable). table_fields t.name) before.tables ordered.tables) goes.1 goes.2)
      | inr there ↦ old x there
    ]
fga_truth_at conditions image before (FgaGone table policy) ordered goes founded old x has = old x (kept (λ (y : FgaPolicy). not (is_fga table policy y)) before.fga x has)
fga_truth_at conditions image before (Table name columns key) ordered goes founded old x has =
    same_truth conditions before (changed conditions.tree (Table name columns key) before) x.name.table x.condition
    (λ table is. (elim (put_cases (λ (other : AnyTable). by_fields (table_fields other.name) (table_fields name)) (record { name = name; columns = columns; key = key }) before.tables table is.0) [
      | inl same ↦ absurd (absent x.name.table name (ap (λ (t : AnyTable). t.name) same ∙ is.1) goes.0 (founded x has))
      | inr there ↦ (there, is.1)
    ]))
    (old x has)
  where
    absent : (wanted new : TableName) → new ≡ wanted → not (list_any (λ (other : AnyTable). same_table other.name new) before.tables) ≡ true
        → list_any (λ (other : AnyTable). same_table other.name wanted) before.tables ≡ true → ⊥
    absent wanted new same isnt found =
        let e : false ≡ true = sym (ap not (ap (λ (t : TableName). list_any (λ (other : AnyTable). same_table other.name t) before.tables) same ∙ found)) ∙ isnt in cc
fga_truth_at conditions image before (TableGone gone) ordered goes founded old x has =
    same_truth conditions before (changed conditions.tree (TableGone gone) before) x.name.table x.condition
    (λ table is. (kept (λ (other : AnyTable). not (same_table other.name gone)) before.tables table is.0, is.1))
    (old x (kept (λ (y : FgaPolicy). not (same_table y.name.table gone)) before.fga x has))
fga_truth_at conditions image before _ ordered goes founded old x has = old x has

-- ---- all of it

-- what a change leaves of grants: their order, and no circle
pub record KeepsGrants : Type 0 where
  pub order : (grants : Grants) (change : GrantChange) → AreInOrder grants → AreInOrder (applied change grants)
  pub no_circle : NoneCloses

pub one_lawful : KeepsGrants → (conditions : Conditions) (image : Bool) (kept : Kept) (change : Change) → IsLawful conditions kept → GoesOn conditions image kept change → IsLawful conditions (changed conditions.tree change kept)
one_lawful keeps conditions image before change h goes = record {
  ordered = one_ordered keeps.order conditions image before change h.ordered goes;
  founded = one_founded keeps.no_circle conditions image before change h.founded goes;
  truths = record {
    audit = all_of (λ (policy : AuditPolicy). IsAuditTruth conditions policy.when) _ (audit_at conditions image before change goes (all_at (λ (policy : AuditPolicy). IsAuditTruth conditions policy.when) before.policies h.truths.audit));
    fga = all_of (IsTruth conditions (changed conditions.tree change before)) _
        (fga_truth_at conditions image before change h.ordered goes (all_at (λ (policy : FgaPolicy). IsTrue (has_table before policy.name.table)) before.fga h.founded.fga) (all_at (IsTruth conditions before) before.fga h.truths.fga));
  };
  last = h.last;
  archive = archive_bounded conditions image before change h.archive goes;
  instance = instance_bounded conditions image before change h.instance goes;
}

pub all_lawful : KeepsGrants → (conditions : Conditions) (image : Bool) (kept : Kept) (changes : List Change) → IsLawful conditions kept → AllGoOn conditions image kept changes
    → IsLawful conditions (changed_all conditions.tree changes kept)
all_lawful keeps conditions image before [] h goes = h
all_lawful keeps conditions image before (change ∷ changes) h goes =
    all_lawful keeps conditions image (changed conditions.tree change before) changes (one_lawful keeps conditions image before change h goes.0) goes.1
