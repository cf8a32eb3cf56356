-- Tests of what stands of a table in lists by tables.
use Rattle.std.proofs.Common.{◌≡◌, ◌∙◌, Bool, true, false, cond, ◌&&◌, ◌||◌, List, [], ◌∷◌, ◌++◌, map, refl, sym, ap, ap₂}
use Rattle.std.specs.Borrow.{Bor}
use Rattle.std.specs.List.{AllByRecursion, flat_map, list_any}
use Rattle.std.proofs.lemmas.List.Concat.{flat_map-cons}
use Rattle.std.proofs.lemmas.List.Folds.{list_any-append}
use Rattle.std.proofs.lemmas.Bool.{or_left, or_right}
use Rattle.au_audit.specs.Firing.{of_table}
use Rattle.au_base.specs.declared.cell.Cell.{Cell}
use Rattle.au_base.specs.declared.table.TableName.{TableName}
use Rattle.au_base.specs.Sameness.{same_table}
use Rattle.au_fga.specs.Testing.{seen_rows}
use Rattle.au_fga.specs.descent.Rows.{some_lent, some_of}

abbrev entry_of : {X : Type 0} → TableName → TableName × List X → List X
entry_of {X} table entry = cond (same_table entry.0 table) entry.1 []

any_where : {X : Type 0} (test : X → Bool) (xs : List X) (b : Bool) → list_any test (cond b xs []) ≡ (b && list_any test xs)
any_where test xs true = refl
any_where test xs false = refl

-- some of what stands of the table passes exactly where some does in one of its entries
pub any_of : {X : Type 0} (test : X → Bool) (table : TableName) (entries : List (TableName × List X))
    → list_any test (of_table table entries) ≡ list_any (λ (entry : TableName × List X). same_table entry.0 table && list_any test entry.1) entries
any_of test table [] = refl
any_of test table (entry ∷ entries) =
    ap (list_any test) (flat_map-cons (entry_of table) entry entries)
    ∙ (list_any-append test (entry_of table entry) (flat_map (entry_of table) entries)
    ∙ ap₂ (λ (a b : Bool). a || b) (any_where test entry.1 (same_table entry.0 table)) (any_of test table entries))

any_seen : (test : List Cell → Bool) (rows : List (Bor (List Cell))) → list_any test (map (λ (cells : Bor (List Cell)). cells.now) rows) ≡ some_lent test rows
any_seen test [] = refl
any_seen test (row ∷ rows) = ap (λ (b : Bool). test row.now || b) (any_seen test rows)

any_entry : (test : List Cell → Bool) (table : TableName) (touched : List (TableName × List (Bor (List Cell))))
    → list_any (λ (entry : TableName × List (List Cell)). same_table entry.0 table && list_any test entry.1) (map seen_rows touched) ≡ list_any (some_of test table) touched
any_entry test table [] = refl
any_entry test table (entry ∷ touched) =
    ap₂ (λ (a b : Bool). a || b) (ap (λ (b : Bool). same_table entry.0 table && b) (any_seen test entry.1)) (any_entry test table touched)

-- the same of rows that are lent
pub any_touched : (test : List Cell → Bool) (table : TableName) (touched : List (TableName × List (Bor (List Cell))))
    → list_any test (of_table table (map seen_rows touched)) ≡ list_any (some_of test table) touched
any_touched test table touched = any_of test table (map seen_rows touched) ∙ any_entry test table touched

-- tests that agree on all elements find one alike
pub any_same : {X : Type 0} (one other : X → Bool) (xs : List X) → AllByRecursion (λ x. one x ≡ other x) xs → list_any one xs ≡ list_any other xs
any_same one other [] each = refl
any_same one other (x ∷ xs) each = ap₂ (λ (a b : Bool). a || b) each.0 (any_same one other xs each.1)

-- what holds of each element gives another fact of each
pub each_gives : {X : Type 0} (P Q : X → Type 0) → ((x : X) → P x → Q x) → (xs : List X) → AllByRecursion P xs → AllByRecursion Q xs
each_gives P Q gives [] each = tt
each_gives P Q gives (x ∷ xs) each = (gives x each.0, each_gives P Q gives xs each.1)

each_joined : {X : Type 0} (P : X → Type 0) (xs ys : List X) → AllByRecursion P xs → AllByRecursion P ys → AllByRecursion P (xs ++ ys)
each_joined P [] ys one two = two
each_joined P (x ∷ xs) ys one two = (one.0, each_joined P xs ys one.1 two)

each_where : {X : Type 0} (P : X → Type 0) (xs : List X) (b : Bool) → (b ≡ true → AllByRecursion P xs) → AllByRecursion P (cond b xs [])
each_where P xs true each = each refl
each_where P xs false each = tt

-- what holds of all in each entry of the table holds of all that stands of it
pub each_of : {X : Type 0} (P : X → Type 0) (Q : TableName × List X → Type 0) (table : TableName) → ((entry : TableName × List X) → same_table entry.0 table ≡ true → Q entry → AllByRecursion P entry.1)
    → (entries : List (TableName × List X)) → AllByRecursion Q entries → AllByRecursion P (of_table table entries)
each_of P Q table gives [] each = tt
each_of P Q table gives (entry ∷ entries) each =
    each_joined P (entry_of table entry) (of_table table entries)
    (each_where P entry.1 (same_table entry.0 table) (λ same. gives entry same each.0)) (each_of P Q table gives entries each.1)

-- where nothing stands there, nothing passes
pub none_there : {X : Type 0} (test : X → Bool) (xs : List X) → list_any (λ (x : X). true) xs ≡ false → list_any test xs ≡ false
none_there test [] none = refl
none_there test (x ∷ xs) none = absurd (let e : true ≡ false = none in cc)
