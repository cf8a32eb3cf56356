-- The fine-grained policies that fire stand in the order of their records.
use Rattle.std.proofs.Common.{◌≡◌, ◌≢◌, ◌∙◌, ℕ, Bool, true, false, cond, inl, inr, List, [], ◌∷◌, map, get_or, refl, sym, ap, subst}
use Rattle.std.specs.Prelude.{IsTrue}
use Rattle.std.specs.List.{AllByRecursion, Contains, filter, list_all}
use Rattle.std.specs.Ordering.{is_eq}
use Rattle.std.proofs.lemmas.Bool.{and_parts}
use Rattle.au_base.specs.declared.cell.Cell.{Cell}
use Rattle.au_base.specs.declared.code.Code.{Code}
use Rattle.au_base.specs.declared.table.TableName.{TableName}
use Rattle.au_base.specs.declared.truth.Truth.{Truth}
use Rattle.au_base.specs.Order.{fields_before, is_in_order}
use Rattle.au_base.specs.OrderLaws.{fields_irreflexive}
use Rattle.au_entries.specs.declared.fine_grained.FgaName.{FgaName}
use Rattle.au_entries.specs.declared.fine_grained.FgaPolicy.{FgaPolicy}
use Rattle.au_entries.specs.Changing.{fga_fields}
use Rattle.au_audit.specs.Firing.{RowFacts, fired, fires, in_record_order, record_before, record_fields}
use Rattle.au_audit.proofs.InOrder.{all_from, cmp_by, placed_in_order, same_fields}
use Rattle.au_audit.proofs.Members.{here, kept, mapped, mapped_to, placed_cases, there}
use Rattle.sql_ast.specs.declared.expression.Expr.{Expr}

-- no two of the names are the same
abbrev Apart : List FgaName → Type 0
Apart [] = Unit {0}
Apart (name ∷ names) = ((other : FgaName) → Contains names other → name ≢ other) × Apart names

name_from : (a b : FgaName) → a.policy ≡ b.policy → a.table.owner ≡ b.table.owner → a.table.name ≡ b.table.name → a ≡ b
name_from a b policy owner table = λ i. record { table = record { owner = owner i; name = table i }; policy = policy i }

-- names whose records the order doesn't tell apart are the same
same_record : (a b : FgaName) → is_eq (cmp_by record_fields a b) ≡ true → a ≡ b
same_record a b is =
    let same = same_fields (record_fields a) (record_fields b) is in
    name_from a b (ap (λ (fields : List (List ℕ)). get_or fields 0 []) same) (ap (λ (fields : List (List ℕ)). get_or fields 1 []) same) (ap (λ (fields : List (List ℕ)). get_or fields 2 []) same)

not_tied_at : (b : Bool) → (b ≡ true → ⊥) → b ≡ false
not_tied_at true apart = absurd (apart refl)
not_tied_at false apart = refl

not_tied : (a b : FgaName) → a ≢ b → is_eq (cmp_by record_fields a b) ≡ false
not_tied a b apart = not_tied_at (is_eq (cmp_by record_fields a b)) (λ is. apart (same_record a b is))

-- what stands in the order of records was among the names
ordered_from : (names : List FgaName) (name : FgaName) → Contains (in_record_order names) name → Contains names name
ordered_from [] name has = has
ordered_from (first ∷ names) name has = elim (placed_cases record_before first (in_record_order names) name has) [
  | inl same ↦ subst (Contains (first ∷ names)) same (here first names)
  | inr later ↦ there first names name (ordered_from names name later)
]

ordered : (names : List FgaName) → Apart names → is_in_order record_before (in_record_order names) ≡ true
ordered [] apart = refl
ordered (name ∷ names) apart =
    placed_in_order record_fields name (in_record_order names)
    (λ other has. not_tied other name (λ same. apart.0 other (ordered_from names other has) (sym same))) (ordered names apart.1)

-- ---- names of policies that stand in order are apart

abbrev fields_of : FgaPolicy → List (List ℕ)
fields_of policy = fga_fields policy.name.table policy.name.policy

apart_by_fields : (a b : FgaPolicy) → fields_before (fields_of a) (fields_of b) ≡ true → a.name ≢ b.name
apart_by_fields a b before same =
    let e : false ≡ true = sym (fields_irreflexive (fields_of a)) ∙ ap (λ (name : FgaName). fields_before (fields_of a) (fga_fields name.table name.policy)) same ∙ before in cc

names_apart : (test : FgaPolicy → Bool) (policies : List FgaPolicy) → is_in_order fields_before (map fields_of policies) ≡ true → Apart (map (λ policy. policy.name) (filter test policies))
names_apart test [] up = tt
names_apart test (policy ∷ policies) up =
    let parts = and_parts (list_all (fields_before (fields_of policy)) (map fields_of policies)) (is_in_order fields_before (map fields_of policies)) up in
    one (test policy) parts.0 (names_apart test policies parts.1)
  where
    first_apart : list_all (fields_before (fields_of policy)) (map fields_of policies) ≡ true → (other : FgaName) → Contains (map (λ (p : FgaPolicy). p.name) (filter test policies)) other → policy.name ≢ other
    first_apart all other has =
        let found = mapped (λ (p : FgaPolicy). p.name) (filter test policies) other has in
        λ same. apart_by_fields policy found.0
        (all_from (fields_before (fields_of policy)) (map fields_of policies) all (fields_of found.0) (mapped_to fields_of policies found.0 (kept test policies found.0 found.1))) (same ∙ sym found.2)

    one : (b : Bool) → list_all (fields_before (fields_of policy)) (map fields_of policies) ≡ true → Apart (map (λ (p : FgaPolicy). p.name) (filter test policies))
        → Apart (map (λ (p : FgaPolicy). p.name) (cond b (policy ∷ filter test policies) (filter test policies)))
    one true all rest = (first_apart all, rest)
    one false all rest = rest

pub fired_ordered : (truth : TableName → Expr → List Cell → Truth) (code : Code) (facts : RowFacts) (policies : List FgaPolicy)
    → IsTrue (is_in_order fields_before (map (λ policy. fga_fields policy.name.table policy.name.policy) policies)) → IsTrue (is_in_order record_before (fired truth code facts policies))
fired_ordered truth code facts policies up = ordered (map (λ policy. policy.name) (filter (fires truth code facts) policies)) (names_apart (fires truth code facts) policies up)
