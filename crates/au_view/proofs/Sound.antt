-- What a keeping has is sound, in the words of a world.
use Rattle.std.proofs.Common.{◌≡◌, ◌≤◌, inl, inr, ℕ, suc, true, false, List, [], ◌∷◌, refl, sym, ap₂, subst, arith}
use Rattle.std.specs.Prelude.{IsTrue, is_none, Option, Some, None}
use Rattle.std.specs.List.{AllByRecursion, Contains, list_any}
use Rattle.std.specs.Str.{bytes_eq}
use Rattle.std.proofs.lemmas.Bool.{and_parts, or_cases}
use Rattle.std.proofs.lemmas.Slice.Eq.{bytes_eq-Decides}
use Rattle.au_base.specs.Limits.{LAST_MOMENT}
use Rattle.au_base.specs.Sameness.{same_table}
use Rattle.au_base.specs.declared.cell.Cell.{Cell}
use Rattle.au_base.specs.declared.cell.Cell.TheVariants.{Null, Num, Text, Moment}
use Rattle.au_base.specs.declared.table.Column.{Column}
use Rattle.au_base.specs.declared.table.ColumnKind.{ColumnKind}
use Rattle.au_base.specs.declared.table.TableName.{TableName}
use Rattle.au_entries.specs.declared.fine_grained.FgaPolicy.{FgaPolicy}
use Rattle.au_entries.specs.declared.kept.Kept.{Kept}
use Rattle.au_entries.specs.declared.trail_record.Record.{Record}
use Rattle.au_entries.specs.Replaying.{has_table}
use Rattle.au_entries.specs.declared.policy.AuditPolicy.{AuditPolicy}
use Rattle.au_entries.specs.declared.policy.Condition.{Condition}
use Rattle.au_entries.specs.declared.policy.Evaluate.{Evaluate}
use Rattle.au_entries.specs.declared.table.Table.{Table}
use Rattle.au_entries.specs.Lawful.{FitColumns, FitsColumn, IsAuditTruth, IsFgaTruth}
use Rattle.au_expr.specs.Rows.{FitsColumns, IsOfKind}
use Rattle.au_kept.specs.OpenChanges.{AreSoundIfThere, FitsIfThere}
use Rattle.au_replay.specs.Reading.{conditions}
use Rattle.au_world.specs.Sound.{FitsIfThere as FitsWorld, IsAuditCondition, IsFgaCondition, IsFgaLawful, IsSoundRecord}

of_kind : (column : Column) (cell : Cell) → FitsColumn column cell → IsOfKind column.kind cell
of_kind column Null fit = tt
of_kind column (Num n) fit = subst (λ (k : ColumnKind). IsOfKind k (Num n)) (sym fit.0) tt
of_kind column (Text t) fit = subst (λ (k : ColumnKind). IsOfKind k (Text t)) (sym fit.0) tt
of_kind column (Moment m) fit = subst (λ (k : ColumnKind). IsOfKind k (Moment m)) (sym fit.0) tt

pub of_kinds : (columns : List Column) (cells : List Cell) → FitColumns columns cells → FitsColumns columns cells
of_kinds [] [] fit = tt
of_kinds [] (cell ∷ cells) fit = absurd fit
of_kinds (column ∷ columns) [] fit = absurd fit
of_kinds (column ∷ columns) (cell ∷ cells) fit = (of_kind column cell fit.0, of_kinds columns cells fit.1)

pub content_fits : (tables : List Table) (name : TableName) (content : Option (List Cell)) → ((table : Table) → Contains tables table → table.name ≡ name → FitsIfThere table.columns content × AreSoundIfThere content) → FitsWorld tables name content
content_fits tables name None each = tt
content_fits tables name (Some cells) each = λ table has named. let both = each table has named in (of_kinds table.columns cells both.0, both.1)

none_is : {X : Type 0} (o : Option X) → is_none o ≡ true → o ≡ None
none_is None is = refl
none_is (Some x) is = absurd (let e : false ≡ true = is in cc)

pub audit_one : (when : Option (Evaluate × Condition)) → IsAuditTruth conditions when → IsAuditCondition when
audit_one None truth = tt
audit_one (Some when) truth = none_is _ truth.1

pub audit_all : (policies : List AuditPolicy) → AllByRecursion (λ (policy : AuditPolicy). IsAuditTruth conditions policy.when) policies → AllByRecursion (λ (policy : AuditPolicy). IsAuditCondition policy.when) policies
audit_all [] all = tt
audit_all (policy ∷ policies) all = (audit_one policy.when all.0, audit_all policies all.1)

-- ---- fine-grained policies

fga_condition : (kept : Kept) (name : TableName) (condition : Option Condition) → IsFgaTruth conditions kept name condition → (table : Table) → Contains kept.tables table → table.name ≡ name → IsFgaCondition table condition
fga_condition kept name None truth table has named = tt
fga_condition kept name (Some condition) truth table has named = none_is _ (truth.1 table (has, named))

same_name : (a b : TableName) → same_table a b ≡ true → a ≡ b
same_name a b same =
    let parts = and_parts (bytes_eq a.owner b.owner) (bytes_eq a.name b.name) same in
    ap₂ (λ (o n : List ℕ). let t : TableName = record { owner = o; name = n } in t) ((bytes_eq-Decides a.owner b.owner).0 parts.0) ((bytes_eq-Decides a.name b.name).0 parts.1)

table_there : (name : TableName) (tables : List Table) → list_any (λ (t : Table). same_table t.name name) tables ≡ true → (table : Table) × Contains tables table × (table.name ≡ name)
table_there name [] is = absurd (let e : false ≡ true = is in cc)
table_there name (t ∷ tables) is = elim (or_cases (same_table t.name name) (list_any (λ (t : Table). same_table t.name name) tables) is) [
  | inl passes ↦ (t, (0, omega arith, refl), same_name t.name name passes)
  | inr later ↦ (let (table, (k, within, at), named) = table_there name tables later in (table, (suc k, omega (arith, within), at), named))
]

pub fga_all : (kept : Kept) (policies : List FgaPolicy) → AllByRecursion (λ (policy : FgaPolicy). IsTrue (has_table kept policy.name.table)) policies
    → AllByRecursion (λ (policy : FgaPolicy). IsFgaTruth conditions kept policy.name.table policy.condition) policies → AllByRecursion (IsFgaLawful kept.tables) policies
fga_all kept [] founded truths = tt
fga_all kept (policy ∷ policies) founded truths = (
  (table_there policy.name.table kept.tables founded.0, fga_condition kept policy.name.table policy.condition truths.0),
  fga_all kept policies founded.1 truths.1,
)

pub all_from : {X : Type 0} (P : X → Type 0) (xs : List X) → ((x : X) → Contains xs x → P x) → AllByRecursion P xs
all_from P [] each = tt
all_from {X} P (x ∷ xs) each = (each x (0, omega arith, refl), all_from P xs (λ (y : X) has. each y (suc has.0, (let within = has.1 in omega (arith, within)), has.2)))

pub entries_all : (trail : List Record) → AllByRecursion (λ (entry : Record). (entry.session.0 ≤ 999_999_999_999_999_999) × (entry.stamp.0 ≤ LAST_MOMENT)) trail → AllByRecursion IsSoundRecord trail
entries_all [] all = tt
entries_all (entry ∷ trail) all = (record { session = all.0.0; stamp = all.0.1 }, entries_all trail all.1)
