-- Fine-grained policies of what is lawful, and of a statement that is refused.
use Rattle.std.proofs.Common.{◌≡◌, ◌≢◌, ◌∙◌, ℕ, zero, suc, Bool, true, false, cond, ◌&&◌, ◌||◌, List, [], ◌∷◌, map, refl, sym, ap, subst, arith}
use Rattle.std.specs.Prelude.{◌==◌, IsTrue, Option, Some, None}
use Rattle.std.specs.List.{AllByRecursion, Contains, filter, list_any}
use Rattle.std.proofs.lemmas.Bool.Decides.{nat_tests}
use Rattle.au_audit.specs.Firing.{RowFacts, fired, fires, in_record_order}
use Rattle.au_base.specs.declared.cell.Cell.{Cell}
use Rattle.au_base.specs.declared.code.Code.{Code}
use Rattle.au_base.specs.declared.table.TableName.{TableName}
use Rattle.au_base.specs.declared.truth.Truth.{Truth}
use Rattle.au_base.specs.Sameness.{same_table}
use Rattle.au_entries.specs.declared.fine_grained.FgaPolicy.{FgaPolicy}
use Rattle.au_entries.specs.declared.kept.Kept.{Kept}
use Rattle.au_entries.specs.declared.policy.Condition.{Condition}
use Rattle.au_entries.specs.declared.table.Table.{Table}
use Rattle.au_entries.specs.Lawful.{IsFgaTruth, IsLawful}
use Rattle.au_entries.specs.Replaying.{Conditions, has_table}
use Rattle.au_expr.specs.Resolving.{IsCondition}
use Rattle.au_fga.specs.Testing.{IsTruthOver, range_of, table_of}
use Rattle.au_fga.proofs.Found.{same_name}
use Rattle.sql_ast.specs.declared.expression.Expr.{Expr}

-- ---- a statement that is refused

not_zero : (n : ℕ) → n ≢ 0 → (n == 0) ≡ false
not_zero n other = grind (arith, nat_tests, other)

unless : (a b : Bool) → a ≡ false → (a && b) ≡ false
unless true b is = absurd (let e : true ≡ false = is in cc)
unless false b is = refl

one_fires : (truth : TableName → Expr → List Cell → Truth) (code : Code) (facts : RowFacts) (policy : FgaPolicy) → (code.0 == 0) ≡ false → fires truth code facts policy ≡ false
one_fires truth code facts policy refused = unless (code.0 == 0) _ refused

none_fires : (truth : TableName → Expr → List Cell → Truth) (code : Code) (facts : RowFacts) (policies : List FgaPolicy) → (code.0 == 0) ≡ false → filter (fires truth code facts) policies ≡ []
none_fires truth code facts [] refused = refl
none_fires truth code facts (policy ∷ policies) refused =
    ap (λ (b : Bool). cond b (policy ∷ filter (fires truth code facts) policies) (filter (fires truth code facts) policies)) (one_fires truth code facts policy refused)
    ∙ none_fires truth code facts policies refused

pub none_fired : (truth : TableName → Expr → List Cell → Truth) (code : Code) (facts : RowFacts) (policies : List FgaPolicy) → code.0 ≢ 0 → fired truth code facts policies ≡ []
none_fired truth code facts policies refused =
    ap (λ (ones : List FgaPolicy). in_record_order (map (λ (policy : FgaPolicy). policy.name) ones)) (none_fires truth code facts policies (not_zero code.0 refused))

-- ---- what is lawful

record Found (tables : List Table) (name : TableName) : Type 0 where
  table : Table
  is : table_of tables name ≡ Some table
  has : Contains tables table
  named : table.name ≡ name

found_at : (x : Table) (tables : List Table) (name : TableName) (b : Bool) → same_table x.name name ≡ b → (b || list_any (λ (table : Table). same_table table.name name) tables) ≡ true
    → (list_any (λ (table : Table). same_table table.name name) tables ≡ true → Found tables name) → Found (x ∷ tables) name
found_at x tables name true is any more = record {
  table = x;
  is = ap (λ (b : Bool). cond b (Some x) (table_of tables name)) is;
  has = (0, omega arith, refl);
  named = same_name x.name name is;
}
found_at x tables name false is any more =
    let later = more any in
    record {
      table = later.table;
      is = ap (λ (b : Bool). cond b (Some x) (table_of tables name)) is ∙ later.is;
      has = (let (k, within, at) = later.has in (suc k, omega arith, at));
      named = later.named;
    }

found : (tables : List Table) (name : TableName) → list_any (λ (table : Table). same_table table.name name) tables ≡ true → Found tables name
found [] name any = absurd (let e : false ≡ true = any in cc)
found (x ∷ tables) name any = found_at x tables name (same_table x.name name) refl any (found tables name)

one_truth : (conditions : Conditions) (kept : Kept) (resolves : (table : Table) (tree : Expr) → IsTrue (conditions.is_truth (Some table) tree) → IsCondition (range_of table ∷ []) tree)
    (name : TableName) (condition : Option Condition) → IsTrue (has_table kept name) → IsFgaTruth conditions kept name condition → IsTruthOver (table_of kept.tables name) condition
one_truth conditions kept resolves name None there truth = at (table_of kept.tables name)
  where
    at : (table : Option Table) → IsTruthOver table None
    at None = tt
    at (Some table) = tt
one_truth conditions kept resolves name (Some condition) there truth =
    let one = found kept.tables name there in
    subst (λ (table : Option Table). IsTruthOver table (Some condition)) (sym one.is) (resolves one.table condition.tree (truth.1 one.table (one.has, one.named)))

pub all_truths : (conditions : Conditions) (kept : Kept) (resolves : (table : Table) (tree : Expr) → IsTrue (conditions.is_truth (Some table) tree) → IsCondition (range_of table ∷ []) tree) (policies : List FgaPolicy)
    → AllByRecursion (λ policy. IsTrue (has_table kept policy.name.table)) policies → AllByRecursion (λ policy. IsFgaTruth conditions kept policy.name.table policy.condition) policies
    → AllByRecursion (λ policy. IsTruthOver (table_of kept.tables policy.name.table) policy.condition) policies
all_truths conditions kept resolves [] there truths = tt
all_truths conditions kept resolves (policy ∷ policies) there truths =
    (one_truth conditions kept resolves policy.name.table policy.condition there.0 truths.0, all_truths conditions kept resolves policies there.1 truths.1)
