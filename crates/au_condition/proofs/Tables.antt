-- The table that is found is the one that is kept.
use Rattle.std.proofs.Common.{◌≡◌, ◌∙◌, ℕ, zero, suc, Bool, true, false, cond, ◌⊎◌, inl, inr, List, [], ◌∷◌, Option, Some, map, refl, sym, ap, ap₂, arith}
use Rattle.std.specs.List.{Contains, list_all}
use Rattle.std.specs.Ordering.{is_lt, nat_cmp}
use Rattle.std.specs.Cmp.{IsTotalOrder}
use Rattle.std.specs.Cmp.Lexicographic.{slice_cmp}
use Rattle.std.specs.Str.{bytes_eq}
use Rattle.std.proofs.lemmas.Bool.{and_from, and_parts}
use Rattle.std.proofs.lemmas.Cmp.{lists_total, nat_cmp_total, tied_itself}
use Rattle.std.proofs.lemmas.Slice.Eq.{bytes_eq-Decides}
use Rattle.au_base.specs.Order.{fields_before, is_in_order}
use Rattle.au_base.specs.Sameness.{same_table}
use Rattle.au_base.specs.declared.table.TableName.{TableName}
use Rattle.au_condition.specs.Reading.{table_named}
use Rattle.au_entries.specs.declared.table.Table.{Table}
use Rattle.au_entries.specs.Changing.{table_fields}

-- ---- names

same_name : (a b : TableName) → same_table a b ≡ true → a ≡ b
same_name a b is =
    let parts = and_parts (bytes_eq a.owner b.owner) (bytes_eq a.name b.name) is in
    ap₂ (λ (owner name : List ℕ). record { owner = owner; name = name }) ((bytes_eq-Decides a.owner b.owner).0 parts.0) ((bytes_eq-Decides a.name b.name).0 parts.1)

passes : (a b : TableName) → a ≡ b → same_table a b ≡ true
passes a b same =
    and_from (bytes_eq a.owner b.owner) (bytes_eq a.name b.name)
    ((bytes_eq-Decides a.owner b.owner).1 (ap (λ (name : TableName). name.owner) same)) ((bytes_eq-Decides a.name b.name).1 (ap (λ (name : TableName). name.name) same))

fields_total : IsTotalOrder (slice_cmp (slice_cmp nat_cmp))
fields_total = lists_total (lists_total nat_cmp_total)

-- nothing comes before itself
before_itself : (fields : List (List ℕ)) → fields_before fields fields ≡ false
before_itself fields = ap is_lt (tied_itself fields_total fields)

-- ---- elements

-- an element is the first or of the rest
split : (first : Table) (rest : List Table) (table : Table) → Contains (first ∷ rest) table → (first ≡ table) ⊎ Contains rest table
split first rest table (zero, within, is) = inl is
split first rest table (suc k, within, is) = inr (k, omega arith, is)

none : (table : Table) → Contains {X = Table} [] table → ⊥
none table (k, within, is) = omega arith

abbrev fields_of : Table → List (List ℕ)
fields_of table = table_fields table.name

-- fields that come before all of the tables are those of none
apart : (fields : List (List ℕ)) (tables : List Table) (table : Table) → list_all (fields_before fields) (map fields_of tables) ≡ true → Contains tables table → fields ≡ fields_of table → ⊥
apart fields [] table all has same = none table has
apart fields (first ∷ rest) table all has same =
    let parts = and_parts (fields_before fields (fields_of first)) (list_all (fields_before fields) (map fields_of rest)) all in
    elim (split first rest table has) [
      | inl is ↦
          (let here : fields_before fields (fields_of table) ≡ true = ap (λ (t : Table). fields_before fields (fields_of t)) (sym is) ∙ parts.0 in
          let e : true ≡ false = sym here ∙ ap (λ (f : List (List ℕ)). fields_before f (fields_of table)) same ∙ before_itself (fields_of table) in
          cc)
      | inr later ↦ apart fields rest table parts.1 later same
    ]

-- ---- what is found

-- the first where the test passes, and else what is found behind it
at_test : (test : Bool) (first : Table) (behind : Option Table) (table : Table) → (test ≡ true → first ≡ table) → (test ≡ false → behind ≡ Some table) → cond test (Some first) behind ≡ Some table
at_test true first behind table is later = ap Some (is refl)
at_test false first behind table is later = later refl

-- where the tables stand in order, the one of its name that is kept is found
pub found : (tables : List Table) (name : TableName) (table : Table) → is_in_order fields_before (map (λ (table : Table). table_fields table.name) tables) ≡ true
    → Contains tables table → table.name ≡ name → table_named tables name ≡ Some table
found [] name table ordered has named = absurd (none table has)
found (first ∷ rest) name table ordered has named =
    let parts = and_parts (list_all (fields_before (fields_of first)) (map fields_of rest)) (is_in_order fields_before (map fields_of rest)) ordered in
    elim (split first rest table has) [
      | inl same ↦ at_test (same_table first.name name) first (table_named rest name) table (λ is. same)
          (λ fails. absurd (let e : true ≡ false = sym (passes first.name name (ap (λ (t : Table). t.name) same ∙ named)) ∙ fails in cc))
      | inr later ↦ at_test (same_table first.name name) first (table_named rest name) table
          (λ is. absurd (apart (fields_of first) rest table parts.0 later (ap table_fields (same_name first.name name is ∙ sym named))))
          (λ fails. found rest name table parts.1 later named)
    ]
