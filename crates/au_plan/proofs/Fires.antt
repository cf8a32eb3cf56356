-- The policies that fire by the rows that are asked for are those that fire by all rows that are touched.
use Rattle.std.proofs.Common.{◌≡◌, ◌∙◌, Bool, true, false, cond, ◌&&◌, ◌||◌, List, [], ◌∷◌, ℕ, map, refl, sym, ap, ap₂}
use Rattle.std.specs.Prelude.{◌↔◌}
use Rattle.std.specs.List.{AllByRecursion, Contains, filter, list_any}
use Rattle.std.proofs.lemmas.List.Concat.{flat_map-cons}
use Rattle.std.proofs.lemmas.List.Folds.{list_any-append}
use Rattle.au_audit.specs.Firing.{are_referenced, fired, fires, in_record_order, meets, names_type, of_table}
use Rattle.au_base.specs.declared.action.Action.TheVariants as action
use Rattle.au_base.specs.declared.cell.Cell.{Cell}
use Rattle.au_base.specs.declared.numbers.ClientNo.{ClientNo}
use Rattle.au_base.specs.declared.numbers.RowNo.{RowNo}
use Rattle.au_base.specs.declared.table.TableName.{TableName}
use Rattle.au_base.specs.Codes.{DONE}
use Rattle.au_base.specs.Sameness.{same_table}
use Rattle.au_entries.specs.declared.fine_grained.FgaPolicy.{FgaPolicy}
use Rattle.au_query.specs.Combos.{Line}
use Rattle.au_txn.specs.Desks.{open_of}
use Rattle.au_world.specs.declared.built_in.TableKind.TheVariants.{Created}
use Rattle.au_world.specs.BuiltInTables.{kind_of}
use Rattle.au_world.specs.declared.world.World.{World}
use Rattle.au_world.specs.Plans.{Truths, cells_touched, is_one_of}
use Rattle.au_world.specs.Sights.{rows_by, sight_of}
use Rattle.au_plan.specs.Inside.{asked_entry, asked_rows, contents_of_rows, query_facts, is_watched, watches}
use Rattle.au_plan.proofs.Members.{here, there}
use Rattle.au_plan.proofs.Elements.{any_with, each_at}
use Rattle.au_plan.proofs.Rows.{Viewed, rows_same}

-- ---- what stands of a table in two lists by tables

abbrev entry_of : {X : Type 0} → TableName → TableName × List X → List X
entry_of {X} table entry = cond (same_table entry.0 table) entry.1 []

any_of_table : {A X : Type 0} (test : X → Bool) (table : TableName) (f g : A → TableName × List X)
    → ((a : A) → list_any test (entry_of table (f a)) ≡ list_any test (entry_of table (g a)))
    → (xs : List A) → list_any test (of_table table (map f xs)) ≡ list_any test (of_table table (map g xs))
any_of_table test table f g alike [] = refl
any_of_table test table f g alike (x ∷ xs) =
    ap (list_any test) (flat_map-cons (entry_of table) (f x) (map f xs))
    ∙ list_any-append test (entry_of table (f x)) (of_table table (map f xs))
    ∙ ap₂ (λ (a b : Bool). a || b) (alike x) (any_of_table test table f g alike xs)
    ∙ sym (list_any-append test (entry_of table (g x)) (of_table table (map g xs)))
    ∙ sym (ap (list_any test) (flat_map-cons (entry_of table) (g x) (map g xs)))

-- ---- filters

filter_same : {X : Type 0} (one other : X → Bool) (xs : List X) → ((x : X) → Contains xs x → one x ≡ other x) → filter one xs ≡ filter other xs
filter_same one other [] same = refl
filter_same one other (x ∷ xs) same =
    ap (λ b. cond b (x ∷ filter one xs) (filter one xs)) (same x (here x xs))
    ∙ ap (λ rest. cond (other x) (x ∷ rest) rest) (filter_same one other xs (λ y has. same y (there x xs y has)))

-- the last of four tests is looked at where the first two pass
alike_where : (a b c d e : Bool) → (a ≡ true → b ≡ true → d ≡ e) → (a && (b && (c && d))) ≡ (a && (b && (c && e)))
alike_where true true c d e alike = ap (λ z. c && z) (alike refl refl)
alike_where true false c d e alike = refl
alike_where false b c d e alike = refl

all_three : (a b c : Bool) → a ≡ true → b ≡ true → c ≡ true → (a && (b && c)) ≡ true
all_three true true true x y z = refl
all_three true true false x y z = z
all_three true false c x y z = y
all_three false b c x y z = x

module _ (world : World) (client : ClientNo) (one : (a b : TableName) → same_table a b ≡ true ↔ (a ≡ b)) (viewed : Viewed world.desk.now.rows (open_of world.desk.now client)) where
  -- of a created table that a policy watches, the rows that are asked for pass the tests that those touched pass
  entry_same : (test : List Cell → Bool) (table : TableName) → kind_of table ≡ Created → is_watched world.catalog.now.fga action.Select table ≡ true → (entry : TableName × List RowNo) (b : Bool) → same_table entry.0 table ≡ b
      → list_any test (cond b (asked_rows world.catalog.now.fga world.desk.now client entry.0 entry.1) []) ≡ list_any test (cond b (cells_touched (sight_of world client) entry).1 [])
  entry_same test table created watched entry false is = refl
  entry_same test table created watched entry true is =
      let same = (one entry.0 table).0 is in
      let kind : kind_of entry.0 ≡ Created = ap kind_of same ∙ created in
      let asked : is_watched world.catalog.now.fga action.Select entry.0 ≡ true = ap (is_watched world.catalog.now.fga action.Select) same ∙ watched in
      ap (λ (b : Bool). list_any test (cond b (contents_of_rows world.desk.now client entry.0 entry.1) [])) asked
      ∙ rows_same world.desk.now.rows (open_of world.desk.now client) viewed entry.0 entry.1 test
      ∙ sym (ap (λ k. list_any test (map (λ (line : Line). line.1) (filter (is_one_of entry.1) (rows_by (sight_of world client) entry.0 k)))) kind)

  -- a policy fires by the ones where it does by the others
  fires_same : (truth : Truths) (touched : List (TableName × List RowNo)) (named : List (TableName × List (List ℕ))) (policy : FgaPolicy)
      → kind_of policy.name.table ≡ Created → Contains world.catalog.now.fga policy
      → fires truth DONE (query_facts (map (asked_entry world.catalog.now.fga world.desk.now client) touched) named) policy
      ≡ fires truth DONE (query_facts (map (cells_touched (sight_of world client)) touched) named) policy
  fires_same truth touched named policy created has =
      let name = policy.name.table in
      let fga = world.catalog.now.fga in
      let test = meets truth name policy.condition in
      alike_where policy.enabled (names_type policy.types action.Select) (are_referenced policy.columns policy.all (of_table name named))
      (list_any test (of_table name (map (asked_entry fga world.desk.now client) touched)))
      (list_any test (of_table name (map (cells_touched (sight_of world client)) touched)))
      (λ enabled select.
      let watched = any_with (watches action.Select name) fga policy has (all_three policy.enabled (names_type policy.types action.Select) (same_table name name) enabled select ((one name name).1 refl)) in
      any_of_table test name (asked_entry fga world.desk.now client) (cells_touched (sight_of world client))
      (λ entry. entry_same test name created watched entry (same_table entry.0 name) refl) touched)

  pub fired_same : (truth : Truths) (touched : List (TableName × List RowNo)) (named : List (TableName × List (List ℕ)))
      → AllByRecursion (λ (policy : FgaPolicy). kind_of policy.name.table ≡ Created) world.catalog.now.fga
      → fired truth DONE (query_facts (map (asked_entry world.catalog.now.fga world.desk.now client) touched) named) world.catalog.now.fga
      ≡ fired truth DONE (query_facts (map (cells_touched (sight_of world client)) touched) named) world.catalog.now.fga
  fired_same truth touched named created =
      ap (λ policies. in_record_order (map (λ (policy : FgaPolicy). policy.name) policies))
      (filter_same (fires truth DONE (query_facts (map (asked_entry world.catalog.now.fga world.desk.now client) touched) named))
      (fires truth DONE (query_facts (map (cells_touched (sight_of world client)) touched) named)) world.catalog.now.fga
      (λ policy has. fires_same truth touched named policy (each_at (λ (policy : FgaPolicy). kind_of policy.name.table ≡ Created) world.catalog.now.fga policy created has) has))
