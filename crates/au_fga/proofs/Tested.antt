-- Conditions over rows that fit, and policies that are tested one after another.
use Rattle.std.proofs.Common.{◌≡◌, ◌<◌, ◌+◌, ◌∙◌, ℕ, suc, Bool, true, false, cond, ◌&&◌, List, [], ◌∷◌, ◌++◌, map, length, get_or, drop, refl, sym, ap, subst, append_assoc, add-one, drop-cons}
use Rattle.std.specs.Prelude.{Option, Some}
use Rattle.std.specs.List.{AllByRecursion, filter, list_any}
use Rattle.au_audit.specs.Conditions.{is_yes}
use Rattle.au_audit.specs.Firing.{of_table}
use Rattle.au_base.specs.declared.cell.Cell.{Cell}
use Rattle.au_base.specs.declared.table.TableName.{TableName}
use Rattle.au_base.specs.Sameness.{same_table}
use Rattle.au_entries.specs.declared.table.Table.{Table}
use Rattle.au_expr.specs.declared.placed.Placed.{Placed}
use Rattle.au_expr.specs.Expressions.{value}
use Rattle.au_expr.specs.Placing.{value_at}
use Rattle.au_expr.specs.Resolving.{placed}
use Rattle.au_expr.specs.Rows.{FitsColumns, FitsRanges, Range, named}
use Rattle.au_expr.specs.Sessions.{Session}
use Rattle.au_expr.specs.Values.{Value, truth_in}
use Rattle.au_fga.specs.Testing.{FitTable, RowsFit, range_of, table_of, truth_in_table}
use Rattle.au_fga.specs.descent.Comparing.{Decides}
use Rattle.au_fga.specs.descent.Rows.{is_met_at}
use Rattle.au_fga.proofs.Touched.{any_same, each_gives, each_of}
use Rattle.sql_ast.specs.declared.expression.Expr.{Expr}

-- what `names_or_places` says
abbrev pub NamesOrPlaces : Type 0
NamesOrPlaces = (ranges : List Range) (rows : List (List Cell)) (session : Session) (x : Expr) → FitsRanges ranges rows → value_at rows session (placed ranges x) ≡ value (named ranges rows) session x

-- over a row that fits, the condition is met by the places of its columns where it is by their names
pub met_alike : NamesOrPlaces → (table : Table) (x : Expr) (tree : Placed) → tree ≡ placed (range_of table ∷ []) x → Decides table x (λ session. is_met_at session tree)
met_alike law table x tree is session row fits =
    ap (λ (t : Placed). is_yes (truth_in (value_at (row ∷ []) session t))) is
    ∙ ap (λ (given : Value). is_yes (truth_in given)) (law (range_of table ∷ []) (row ∷ []) session x (fits, tt))

-- over rows that fit, what decides as the condition finds one that meets it
pub decided_alike : (table : Table) (x : Expr) (answer : Session → List Cell → Bool) → Decides table x answer
    → (session : Session) (rows : List (List Cell)) → AllByRecursion (FitsColumns table.columns) rows
    → list_any (answer session) rows ≡ list_any (λ (row : List Cell). is_yes (truth_in_table session (Some table) x row)) rows
decided_alike table x answer decides session rows fit =
    any_same (answer session) (λ (row : List Cell). is_yes (truth_in_table session (Some table) x row)) rows
    (each_gives (FitsColumns table.columns) (λ (row : List Cell). answer session row ≡ is_yes (truth_in_table session (Some table) x row)) (decides session) rows fit)

front : {X : Type 0} (xs : List X) (i : ℕ) (x : X) → i < length xs → x ≡ get_or xs i x → drop i xs ≡ x ∷ drop (i + 1) xs
front xs i x within is = rw (add-one, drop-cons xs i x) (ap (λ z. z ∷ drop (suc i) xs) (sym is))

opened : {X Y : Type 0} (f : X → Y) (test : X → Bool) (xs : List X) (i : ℕ) (x : X) (done whole : List Y) (b : Bool) → i < length xs → x ≡ get_or xs i x → test x ≡ b
    → done ++ map f (filter test (drop i xs)) ≡ whole → done ++ map f (cond b (x ∷ filter test (drop (i + 1) xs)) (filter test (drop (i + 1) xs))) ≡ whole
opened f test xs i x done whole b within is tested so_far =
    ap (λ (t : Bool). done ++ map f (cond t (x ∷ filter test (drop (i + 1) xs)) (filter test (drop (i + 1) xs)))) (sym tested)
    ∙ ap (λ rest. done ++ map f (filter test rest)) (sym (front xs i x within is)) ∙ so_far

-- a policy that fires is added
pub step : {X Y : Type 0} (f : X → Y) (test : X → Bool) (xs : List X) (i : ℕ) (x : X) (done whole : List Y) → i < length xs → x ≡ get_or xs i x → test x ≡ true
    → done ++ map f (filter test (drop i xs)) ≡ whole → (done ++ f x ∷ []) ++ map f (filter test (drop (i + 1) xs)) ≡ whole
step f test xs i x done whole within is tested so_far = rw append_assoc (opened f test xs i x done whole true within is tested so_far)

-- and one that doesn't isn't
pub skip : {X Y : Type 0} (f : X → Y) (test : X → Bool) (xs : List X) (i : ℕ) (x : X) (done whole : List Y) → i < length xs → x ≡ get_or xs i x → test x ≡ false
    → done ++ map f (filter test (drop i xs)) ≡ whole → done ++ map f (filter test (drop (i + 1) xs)) ≡ whole
skip f test xs i x done whole within is tested so_far = opened f test xs i x done whole false within is tested so_far

-- the rows that are touched of a table that is found fit it
pub rows_fit : (tables : List Table) (name : TableName) (table : Table) → table_of tables name ≡ Some table
    → ((entry : TableName) → same_table entry name ≡ true → table_of tables entry ≡ table_of tables name)
    → (touched : List (TableName × List (List Cell))) → RowsFit tables touched → AllByRecursion (FitsColumns table.columns) (of_table name touched)
rows_fit tables name table found alike touched fit =
    each_of (FitsColumns table.columns) (λ (entry : TableName × List (List Cell)). FitTable (table_of tables entry.0) entry.1) name
    (λ entry same fits. subst (λ (t : Option Table). FitTable t entry.1) (alike entry.0 same ∙ found) fits) touched fit

-- the fourth test decides where the first three pass
pub where_meant : (a b c d : Bool) → (a && (b && c)) ≡ true → (a && (b && (c && d))) ≡ d
where_meant true true true d is = refl
where_meant true true false d is = absurd (let e : false ≡ true = is in cc)
where_meant true false c d is = absurd (let e : false ≡ true = is in cc)
where_meant false b c d is = absurd (let e : false ≡ true = is in cc)
