-- What a text is as a condition.
use Rattle.std.proofs.Common.{◌≡◌, ◌≢◌, ◌↔◌, ◌∙◌, ℕ, Bool, true, false, List, [], ◌∷◌, Option, Some, None, Result, Ok, Err, refl, sym, ap, subst}
use Rattle.std.specs.Prelude.{IfOk, MatchOption, is_none, is_ok, is_some, IsTrue, if◌then◌else◌}
use Rattle.au_base.specs.declared.code.Code.{Code}
use Rattle.au_base.specs.declared.table.Column.{Column}
use Rattle.au_base.specs.BuiltIn.{ora_mandatory}
use Rattle.au_base.specs.Codes.{WRONG_KIND}
use Rattle.au_entries.specs.declared.policy.Evaluate.{Evaluate}
use Rattle.au_entries.specs.Replaying.{IsFgaCondition, IsPolicyCondition}
use Rattle.au_entries.specs.declared.table.Table.{Table}
use Rattle.au_expr.specs.declared.kind.ExprKind.{ExprKind}
use Rattle.au_expr.specs.declared.placed.Placed.{Placed}
use Rattle.au_expr.specs.Kinds as kinds
use Rattle.au_expr.specs.Names.{name_code, or_code}
use Rattle.au_expr.specs.Resolving.{ResolvesAsCondition, condition_code, kind_code}
use Rattle.au_expr.specs.Rows.{Range}
use Rattle.au_replay.specs.Reading.{IsConditionOver, conditions, ranges_of}
use Rattle.sql_ast.specs.declared.expression.Expr.{Expr}
use Rattle.sql_parse.specs.Conditions.{HasNoCondition, ReadsCondition}
use Rattle.sql_parse.specs.Trees.{or_null, tree_of}

-- what is refused isn't none
refused_at : (code : Option Code) → (code ≡ None → ⊥) → is_none code ≡ true → ⊥
refused_at None refused is = refused refl
refused_at (Some code) refused is = let e : false ≡ true = is in cc

-- a text that is read, and whose tree nothing refuses
stands : (over : Option Table) (text : List ℕ) (x : Expr) → tree_of text ≡ Some x → condition_code (ranges_of over) x ≡ None → IsConditionOver over text
stands over text x read none =
    (ap is_some read, ap (λ (o : Option Expr). is_none (condition_code (ranges_of over) (or_null o))) read ∙ ap is_none none)

refuses : (over : Option Table) (text : List ℕ) (x : Expr) → tree_of text ≡ Some x → (condition_code (ranges_of over) x ≡ None → ⊥) → IsConditionOver over text → ⊥
refuses over text x read refused holds =
    refused_at (condition_code (ranges_of over) x) refused (ap (λ (o : Option Expr). is_none (condition_code (ranges_of over) (or_null o))) (sym read) ∙ holds.1)

pub unread : (over : Option Table) (text : List ℕ) → tree_of text ≡ None → IsConditionOver over text → ⊥
unread over text none holds = let e : false ≡ true = ap is_some (sym none) ∙ holds.0 in cc

-- what is found of a text that is read
pub found : (over : Option Table) (text : List ℕ) (x : Expr) (answer : Option Expr) → tree_of text ≡ Some x
    → MatchOption answer (condition_code (ranges_of over) x ≢ None) (λ same. (condition_code (ranges_of over) x ≡ None) × (same ≡ x))
    → MatchOption answer (¬ IsConditionOver over text) (λ tree. IsConditionOver over text × (tree ≡ conditions.tree text))
found over text x None read refused = refuses over text x read refused
found over text x (Some same) read is = (stands over text x read is.0, is.1 ∙ ap or_null (sym read))

-- and over the range that a table is
pub found_over : (table : Table) (name : List ℕ) (columns : List Column) (text : List ℕ) (x : Expr) (answer : Option Expr) → name ≡ table.name.name → columns ≡ table.columns → tree_of text ≡ Some x
    → MatchOption answer (condition_code ((name, columns) ∷ []) x ≢ None) (λ same. (condition_code ((name, columns) ∷ []) x ≡ None) × (same ≡ x))
    → MatchOption answer (¬ IsConditionOver (Some table) text) (λ tree. IsConditionOver (Some table) text × (tree ≡ conditions.tree text))
found_over table name columns text x answer named listed read is =
    let ranges : List Range → Type 0 = λ ranges. MatchOption answer (condition_code ranges x ≢ None) (λ same. (condition_code ranges x ≡ None) × (same ≡ x)) in
    let half : ranges ((table.name.name, columns) ∷ []) = subst (λ (n : List ℕ). ranges ((n, columns) ∷ [])) named is in
    found (Some table) text x answer read (subst (λ (cs : List Column). ranges ((table.name.name, cs) ∷ [])) listed half)

-- what a test of a text that is read says
pub told : (over : Option Table) (text : List ℕ) (x : Expr) (test : Bool) → tree_of text ≡ Some x → test ≡ is_none (condition_code (ranges_of over) x) → IsTrue test ↔ IsConditionOver over text
told over text x test read is =
    let same : is_none (condition_code (ranges_of over) x) ≡ is_none (condition_code (ranges_of over) (or_null (tree_of text))) = ap (λ (o : Option Expr). is_none (condition_code (ranges_of over) (or_null o))) (sym read) in
    (λ holds. (ap is_some read, sym same ∙ sym is ∙ holds), λ both. is ∙ same ∙ both.1)

pub told_over : (table : Table) (name : List ℕ) (columns : List Column) (text : List ℕ) (x : Expr) (test : Bool) → name ≡ table.name.name → columns ≡ table.columns → tree_of text ≡ Some x
    → test ≡ is_none (condition_code ((name, columns) ∷ []) x) → IsTrue test ↔ IsConditionOver (Some table) text
told_over table name columns text x test named listed read is =
    let half : test ≡ is_none (condition_code ((table.name.name, columns) ∷ []) x) = subst (λ (n : List ℕ). test ≡ is_none (condition_code ((n, columns) ∷ []) x)) named is in
    told (Some table) text x test read (subst (λ (cs : List Column). test ≡ is_none (condition_code ((table.name.name, cs) ∷ []) x)) listed half)

pub told_unread : (over : Option Table) (text : List ℕ) → tree_of text ≡ None → IsTrue false ↔ IsConditionOver over text
told_unread over text none = (λ is. absurd (let e : false ≡ true = is in cc), λ holds. absurd (unread over text none holds))

-- the condition of a fine-grained policy, where it has one
pub fga_text : {E : Type 0} (table : Table) (condition : Option (List ℕ)) (text bytes : List ℕ) (answer : Result Bool E) → condition ≡ Some text → bytes ≡ text
    → IfOk answer (λ holds. IsTrue holds ↔ IsConditionOver (Some table) bytes) → IfOk answer (λ holds. IsTrue holds ↔ IsFgaCondition conditions table condition)
fga_text {E} table condition text bytes answer is same tests =
    let at : IfOk answer (λ holds. IsTrue holds ↔ IsConditionOver (Some table) text) = subst (λ (t : List ℕ). IfOk answer (λ holds. IsTrue holds ↔ IsConditionOver (Some table) t)) same tests in
    subst (λ (c : Option (List ℕ)). IfOk answer (λ holds. IsTrue holds ↔ IsFgaCondition conditions table c)) (sym is) at

-- and that of an audit policy, which hasn't the name of what is mandatory
pub policy_text : {E : Type 0} (name : List ℕ) (when : Option (Evaluate × List ℕ)) (some : Evaluate × List ℕ) (bytes : List ℕ) (answer : Result Bool E) → (name ≡ ora_mandatory → ⊥) → when ≡ Some some → bytes ≡ some.1
    → IfOk answer (λ holds. IsTrue holds ↔ IsConditionOver None bytes) → IfOk answer (λ goes. IsTrue goes ↔ ((name ≢ ora_mandatory) × IsPolicyCondition conditions when))
policy_text {E} name when some bytes answer other is same tests =
    let at : IfOk answer (λ holds. IsTrue holds ↔ IsConditionOver None some.1) = subst (λ (t : List ℕ). IfOk answer (λ holds. IsTrue holds ↔ IsConditionOver None t)) same tests in
    subst (λ (w : Option (Evaluate × List ℕ)). IfOk answer (λ goes. IsTrue goes ↔ ((name ≢ ora_mandatory) × IsPolicyCondition conditions w))) (sym is) (with_name answer at)
  where
    with_name : (answer : Result Bool E) → IfOk answer (λ holds. IsTrue holds ↔ IsConditionOver None some.1) → IfOk answer (λ goes. IsTrue goes ↔ ((name ≢ ora_mandatory) × IsConditionOver None some.1))
    with_name (Ok holds) tests = (λ goes. (other, tests.0 goes), λ both. tests.1 both.1)
    with_name (Err e) tests = tests

-- what holds of an answer for every admin option holds for one
pub at_admin : {E : Type 0} (answer : Result Bool E) (P : Bool → Bool → Type 0) (admin : Bool) → IfOk answer (λ goes. (a : Bool) → P a goes) → IfOk answer (λ goes. P admin goes)
at_admin (Ok goes) P admin all = all admin
at_admin (Err e) P admin all = all

-- ---- the law

read_at : (o : Option Expr) → is_some o ≡ true → o ≡ Some (or_null o)
read_at None is = absurd (let e : false ≡ true = is in cc)
read_at (Some x) is = refl

unread_at : (o : Option Expr) → is_some o ≡ false → o ≡ None
unread_at None is = refl
unread_at (Some x) is = absurd (let e : true ≡ false = is in cc)

pub reads : (text : List ℕ) (tree : Expr) → ((tree_of text ≡ Some tree) ↔ ReadsCondition text tree)
    → ((x : Expr) → (tree_of text ≡ Some x) ↔ ReadsCondition text x) → ReadsCondition text tree ↔ (IsTrue (conditions.is_read text) × (conditions.tree text ≡ tree))
reads text tree law laws = (
  λ reading. (let read = law.1 reading in (ap is_some read, ap or_null read)),
  λ is. (laws tree).0 (read_at (tree_of text) is.0 ∙ ap Some is.1),
)

pub reads_none : (text : List ℕ) → ((tree_of text ≡ None) ↔ HasNoCondition text) → HasNoCondition text ↔ (conditions.is_read text ≡ false)
reads_none text law = (λ none. ap is_some (law.1 none), λ is. law.0 (unread_at (tree_of text) is))

or_none : (a b : Option Code) → or_code a b ≡ None → a ≡ None
or_none None b is = refl
or_none (Some code) b is = is

resolved_at : (ranges : List Range) (x : Expr) (k : ExprKind) → name_code ranges x ≡ None → kinds.kind ranges x ≡ Some k → kinds.is_truth (Some k) ≡ true → condition_code ranges x ≡ None
resolved_at ranges x k named kind truth =
    ap (λ (code : Option Code). or_code code (if kinds.is_truth (kinds.kind ranges x) then None else Some WRONG_KIND)) named
    ∙ ap (λ (b : Bool). if b then None else Some WRONG_KIND) (ap kinds.is_truth kind ∙ truth)

pub resolves : (over : Option Table) (tree : Expr) (answer : Result Placed Code) → ResolvesAsCondition (ranges_of over) tree answer → conditions.is_truth over tree ≡ is_ok answer
resolves over tree (Ok resolved) is =
    ap is_none (resolved_at (ranges_of over) tree (kinds.kind_at resolved) (or_none (name_code (ranges_of over) tree) (kind_code (kinds.kind (ranges_of over) tree)) is.0.unrefused) is.0.kind is.1)
resolves over tree (Err code) is = ap is_none is
