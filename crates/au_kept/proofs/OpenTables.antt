-- The tables that are open for rows and those of the catalogue.
use Rattle.std.proofs.Common.{◌≡◌, ◌∙◌, ℕ, Bool, true, false, not, cond, inl, inr, List, [], ◌∷◌, ◌++◌, map, refl, sym, ap, ap₂, subst}
use Rattle.std.specs.Prelude.{⊤, ◌||◌, if◌then◌else◌}
use Rattle.std.specs.List.{AllByRecursion, Contains, filter, list_all, list_any}
use Rattle.std.specs.declared.cmp.Ordering.{Ordering}
use Rattle.std.specs.declared.cmp.Ordering.TheVariants.{Less, Equal, Greater}
use Rattle.std.specs.Ordering.{is_eq, is_gt, is_lt, nat_cmp, ordering_then}
use Rattle.std.specs.Cmp.Lexicographic.{slice_cmp}
use Rattle.std.specs.Str.{bytes_eq}
use Rattle.std.proofs.lemmas.Bool.{and_from, and_parts}
use Rattle.std.proofs.lemmas.List.{map-append}
use Rattle.std.proofs.lemmas.Map.Text.{is_eq-slice_cmp}
use Rattle.std.proofs.lemmas.Slice.Eq.{bytes_eq-Decides}
use Rattle.au_base.specs.declared.table.TableName.{TableName}
use Rattle.au_base.specs.Order.{fields_before, is_in_order, placed}
use Rattle.au_base.specs.OrderLaws.{fields_irreflexive}
use Rattle.au_base.specs.Sameness.{same_table}
use Rattle.au_entries.specs.declared.change.Change.{Change}
use Rattle.au_entries.specs.declared.change.Change.TheVariants.{User, UserGone, Role, RoleGone, SysGrant, SysRevoke, RoleGrant, RoleRevoke, ObjGrant, ObjRevoke, Table as MakesTable, TableGone, Put, Gone, Policy, PolicyGone, Enable, Fga, FgaGone, Archive, Start}
use Rattle.au_entries.specs.declared.table.Table.{Table}
use Rattle.au_entries.specs.Changing.{by_fields, put_in_order, table_fields, tables_after}
use Rattle.au_image.specs.Image.{open_table}
use Rattle.au_kept.specs.Building.{opened_after}
use Rattle.au_kept.proofs.Among.{each_of, none, split}
use Rattle.au_replay.specs.Sights.{AreOpenKeyed}
use Rattle.au_rows.specs.declared.table.Table.{Table as OpenTable}
use Rattle.au_txn.specs.Desks.{has_name, is_open, key_of as open_key, table_before}

-- ---- a new table stands where the catalogue has it

then_equal : (a b : Ordering) → ordering_then a b ≡ Equal → (a ≡ Equal) × (b ≡ Equal)
then_equal Less b e = absurd (let no : Less ≡ Equal = e in cc)
then_equal Equal b e = (refl, e)
then_equal Greater b e = absurd (let no : Greater ≡ Equal = e in cc)

same_text : (a b : List ℕ) → slice_cmp nat_cmp a b ≡ Equal → bytes_eq a b ≡ true
same_text a b e = sym (is_eq-slice_cmp a b) ∙ ap is_eq e

pub same_at : (a b : TableName) → by_fields (table_fields a) (table_fields b) ≡ Equal → same_table a b ≡ true
same_at a b e =
    let one = then_equal (slice_cmp nat_cmp a.owner b.owner) _ e in
    let two = then_equal (slice_cmp nat_cmp a.name b.name) _ one.1 in
    and_from (bytes_eq a.owner b.owner) (bytes_eq a.name b.name) (same_text a.owner b.owner one.0) (same_text a.name b.name two.0)

behind_at : (o : Ordering) → (o ≡ Equal → ⊥) → not (is_lt o) ≡ is_gt o
behind_at Less apart = refl
behind_at Equal apart = absurd (apart refl)
behind_at Greater apart = refl

map_kept_at : (b : Bool) (t : Table) (left : List Table) (rest : List OpenTable) → rest ≡ map open_table left → cond b (open_table t ∷ rest) rest ≡ map open_table (cond b (t ∷ left) left)
map_kept_at true t left rest same = ap (λ (ts : List OpenTable). open_table t ∷ ts) same
map_kept_at false t left rest same = same

-- the tables that a test keeps, opened
pub kept_open : (test : OpenTable → Bool) (tables : List Table) → filter test (map open_table tables) ≡ map open_table (filter (λ (t : Table). test (open_table t)) tables)
kept_open test [] = refl
kept_open test (t ∷ tables) = map_kept_at (test (open_table t)) t (filter (λ (other : Table). test (open_table other)) tables) _ (kept_open test tables)

filters_same : (p q : Table → Bool) (tables : List Table) → AllByRecursion (λ (t : Table). p t ≡ q t) tables → filter p tables ≡ filter q tables
filters_same p q [] all = refl
filters_same p q (t ∷ tables) all = ap₂ (λ (b : Bool) (ts : List Table). cond b (t ∷ ts) ts) all.0 (filters_same p q tables all.1)

abbrev IsBehind : TableName → Table → Type 0
IsBehind name t = not (is_lt (by_fields (table_fields t.name) (table_fields name))) ≡ is_gt (by_fields (table_fields t.name) (table_fields name))

none_at : (name : TableName) (t : Table) (tables : List Table) (b : Bool) → same_table t.name name ≡ b → (list_any (λ (other : Table). same_table other.name name) tables ≡ false → AllByRecursion (IsBehind name) tables)
    → (b || list_any (λ (other : Table). same_table other.name name) tables) ≡ false → AllByRecursion (IsBehind name) (t ∷ tables)
none_at name t tables true is more = λ absent. absurd (let e : true ≡ false = absent in cc)
none_at name t tables false is more = λ absent.
    (behind_at (by_fields (table_fields t.name) (table_fields name)) (λ e. let same = same_at t.name name e in let clash : true ≡ false = sym same ∙ is in cc), more absent)

none_same : (name : TableName) (tables : List Table) → list_any (λ (t : Table). same_table t.name name) tables ≡ false → AllByRecursion (IsBehind name) tables
none_same name [] none = tt
none_same name (t ∷ tables) none = none_at name t tables (same_table t.name name) refl (none_same name tables) none

pub opened_placed : (table : Table) (tables : List Table) → list_any (λ (t : Table). same_table t.name table.name) tables ≡ false
    → placed table_before (open_table table) (map open_table tables) ≡ map open_table (put_in_order (λ (other : Table). by_fields (table_fields other.name) (table_fields table.name)) table tables)
opened_placed table tables new =
    ap₂ (λ (front behind : List OpenTable). front ++ open_table table ∷ behind)
    (kept_open (λ (other : OpenTable). table_before other (open_table table)) tables)
    (kept_open (λ (other : OpenTable). not (table_before other (open_table table))) tables
    ∙ ap (map open_table) (filters_same _ (λ (other : Table). is_gt (by_fields (table_fields other.name) (table_fields table.name))) tables (none_same table.name tables new)))
    ∙ sym (map-append open_table (filter (λ (other : Table). is_lt (by_fields (table_fields other.name) (table_fields table.name))) tables) _)

-- a table is open exactly where the catalogue has it
pub open_there : (name : TableName) (tables : List Table) → is_open name (map open_table tables) ≡ list_any (λ (t : Table). same_table t.name name) tables
open_there name [] = refl
open_there name (t ∷ tables) = ap (λ (b : Bool). same_table t.name name || b) (open_there name tables)

-- ---- what a change makes of the open tables

-- a new table isn't there
abbrev pub IsNewIn : Change → List Table → Type 0
IsNewIn (MakesTable name columns key) tables = list_any (λ (t : Table). same_table t.name name) tables ≡ false
IsNewIn _ tables = ⊤

pub opened_too : (change : Change) (tables : List Table) → IsNewIn change tables → opened_after change (map open_table tables) ≡ map open_table (tables_after change tables)
opened_too (MakesTable name columns key) tables new = opened_placed (record { name = name; columns = columns; key = key }) tables new
opened_too (TableGone name) tables new = kept_open (λ (other : OpenTable). not (has_name name other)) tables
opened_too (User name verifier) tables new = refl
opened_too (UserGone name) tables new = refl
opened_too (Role name) tables new = refl
opened_too (RoleGone name) tables new = refl
opened_too (SysGrant grantee privilege admin) tables new = refl
opened_too (SysRevoke grantee privilege) tables new = refl
opened_too (RoleGrant grantee role admin) tables new = refl
opened_too (RoleRevoke grantee role) tables new = refl
opened_too (ObjGrant grantee table action) tables new = refl
opened_too (ObjRevoke grantee table action) tables new = refl
opened_too (Put table number cells) tables new = refl
opened_too (Gone table number) tables new = refl
opened_too (Policy name privileges actions roles when) tables new = refl
opened_too (PolicyGone name) tables new = refl
opened_too (Enable policy enabled) tables new = refl
opened_too (Fga table policy condition columns all types enabled) tables new = refl
opened_too (FgaGone table policy) tables new = refl
opened_too (Archive stamp) tables new = refl
opened_too (Start instance) tables new = refl

-- ---- keys

pub same_name : (a b : TableName) → same_table a b ≡ true → a ≡ b
same_name a b same =
    let parts = and_parts (bytes_eq a.owner b.owner) (bytes_eq a.name b.name) same in
    let owner = (bytes_eq-Decides a.owner b.owner).0 parts.0 in
    let name = (bytes_eq-Decides a.name b.name).0 parts.1 in
    ap (λ (o : List ℕ). record { owner = o; name = a.name }) owner ∙ ap (λ (n : List ℕ). record { owner = b.owner; name = n }) name

pub same_name_to : (a b : TableName) → a ≡ b → same_table a b ≡ true
same_name_to a b same =
    and_from _ _ ((bytes_eq-Decides a.owner b.owner).1 (ap (λ (t : TableName). t.owner) same)) ((bytes_eq-Decides a.name b.name).1 (ap (λ (t : TableName). t.name) same))

key_if : (b : Bool) (key rest : List ℕ) → b ≡ true → (if b then key else rest) ≡ key
key_if true key rest is = refl
key_if false key rest is = absurd (let e : false ≡ true = is in cc)

key_else : (b : Bool) (key rest : List ℕ) → b ≡ false → (if b then key else rest) ≡ rest
key_else false key rest is = refl
key_else true key rest is = absurd (let e : true ≡ false = is in cc)

not_true : (b : Bool) → (b ≡ true → ⊥) → b ≡ false
not_true true apart = absurd (apart refl)
not_true false apart = refl

abbrev fields_of : Table → List (List ℕ)
fields_of t = table_fields t.name

-- a table that stands before others has none of their names
other_name : (t table : Table) → fields_before (fields_of t) (fields_of table) ≡ true → same_table t.name table.name ≡ true → ⊥
other_name t table before same =
    let e : true ≡ false = sym before ∙ ap (λ (n : TableName). fields_before (fields_of t) (table_fields n)) (sym (same_name t.name table.name same)) ∙ fields_irreflexive (fields_of t) in
    cc

key_found : (tables : List Table) → is_in_order fields_before (map fields_of tables) ≡ true → (table : Table) → Contains tables table → open_key table.name (map open_table tables) ≡ table.key
key_found [] ordered table has = absurd (none table has)
key_found (t ∷ tables) ordered table has =
    let parts = and_parts (list_all (fields_before (fields_of t)) (map fields_of tables)) _ ordered in
    elim (split t tables table has) [
      | inl same ↦
          key_if (same_table t.name table.name) t.key (open_key table.name (map open_table tables)) (same_name_to t.name table.name (ap (λ (x : Table). x.name) same)) ∙ ap (λ (x : Table). x.key) same
      | inr later ↦
          key_else (same_table t.name table.name) t.key (open_key table.name (map open_table tables))
          (not_true (same_table t.name table.name) (other_name t table (each_of fields_of (fields_before (fields_of t)) tables table parts.0 later)))
          ∙ key_found tables parts.1 table later
    ]

pub open_keyed : (tables : List Table) (opened : List OpenTable) → opened ≡ map open_table tables → is_in_order fields_before (map (λ (table : Table). table_fields table.name) tables) ≡ true → AreOpenKeyed tables opened
open_keyed tables opened are ordered = subst (AreOpenKeyed tables) (sym are) (key_found tables ordered)
