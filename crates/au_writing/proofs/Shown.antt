-- What a client sees, and which tables it may change.
use Rattle.std.proofs.Common.{◌≡◌, ◌∙◌, ℕ, Bool, true, false, cond, if◌then◌else◌, List, [], ◌∷◌, map, refl, ap, ap₂, subst}
use Rattle.std.specs.Prelude.{◌==◌, ◌||◌, ⊤, Option, Some}
use Rattle.std.specs.List.{AllZip, Contains, find}
use Rattle.std.specs.Str.{bytes_eq}
use Rattle.std.proofs.lemmas.Bool.{and_from, and_parts}
use Rattle.std.proofs.lemmas.Slice.Eq.{bytes_eq-Decides}
use Rattle.au_base.specs.declared.action.Action.{Action}
use Rattle.au_base.specs.declared.action.Action.TheVariants as action
use Rattle.au_base.specs.declared.code.Code.{Code}
use Rattle.au_base.specs.declared.numbers.ClientNo.{ClientNo}
use Rattle.au_base.specs.declared.table.TableName.{TableName}
use Rattle.au_base.specs.BuiltIn.{dual, trail}
use Rattle.au_base.specs.Codes.{NO_SUCH_TABLE, PRIVILEGE_MISSING, TRAIL_READ_ONLY}
use Rattle.au_base.specs.Sameness.{same_table}
use Rattle.au_catalog.specs.Settling.{catalog_of}
use Rattle.au_entries.specs.declared.kept.Kept.{Kept}
use Rattle.au_entries.specs.declared.table.Table.{Table}
use Rattle.au_grants.specs.declared.grants.Grants.{Grants}
use Rattle.au_image.specs.Image.{open_table}
use Rattle.au_modify.specs.Keys as modify
use Rattle.au_priv.specs.declared.allowed.Allowed.{Allowed}
use Rattle.au_priv.specs.declared.allowed.Allowed.TheVariants.{Refused}
use Rattle.au_priv.specs.Allowing.{AllowedIs, AllowedOnTrail, dual_answer}
use Rattle.au_txn.specs.Desks.{Contents as Desk, is_open, key_of, open_of}
use Rattle.au_world.specs.declared.built_in.TableKind.{TableKind}
use Rattle.au_world.specs.declared.built_in.TableKind.TheVariants.{Dual, Trail, Created}
use Rattle.au_world.specs.declared.rights.TableRights.{TableRights}
use Rattle.au_world.specs.BuiltInTables.{kind_of}
use Rattle.au_world.specs.Rights.{Answers, AnswersIfThere, AreTableRights, code_or_done, refusal}
use Rattle.au_world.specs.Sights.{Sight, columns_by, columns_in, columns_of, has_table, is_there, is_there_by, table_named}
use Rattle.au_writing.specs.Written.{Shows}
use Rattle.au_writing.proofs.Lists.{first_of}

-- what the client sees, by what is kept and by the desk
abbrev pub shown : Kept → Desk → ClientNo → Sight → Sight
shown kept desk client sight =
    record { catalog = catalog_of kept; grants = sight.grants; rows = desk.rows; own = open_of desk client; transactions = open_of desk; trail = sight.trail }

pub is_shown : (kept : Kept) (desk : Desk) (client : ClientNo) (sight : Sight) → Shows kept desk client sight → sight ≡ shown kept desk client sight
is_shown kept desk client sight s = λ i. record { catalog = s.catalog i; grants = sight.grants; rows = s.rows i; own = s.own i; transactions = λ other. s.transactions other i; trail = sight.trail }

pub same_name : (a b : TableName) → same_table a b ≡ true → a ≡ b
same_name a b same =
    let parts = and_parts (bytes_eq a.owner b.owner) (bytes_eq a.name b.name) same in
    ap₂ (λ (o n : List ℕ). let t : TableName = record { owner = o; name = n } in t) ((bytes_eq-Decides a.owner b.owner).0 parts.0) ((bytes_eq-Decides a.name b.name).0 parts.1)

pub same_name_to : (a b : TableName) → a ≡ b → same_table a b ≡ true
same_name_to a b same =
    and_from (bytes_eq a.owner b.owner) (bytes_eq a.name b.name) ((bytes_eq-Decides a.owner b.owner).1 (ap (λ (t : TableName). t.owner) same)) ((bytes_eq-Decides a.name b.name).1 (ap (λ (t : TableName). t.name) same))

-- ---- a table that a user may change is a created one

-- it changes rows
abbrev pub IsChange : Action → Type 0
IsChange action.Insert = ⊤
IsChange action.Update = ⊤
IsChange action.Delete = ⊤
IsChange _ = ⊥

dual_barred : (what : Action) → IsChange what → dual_answer what ≡ Refused PRIVILEGE_MISSING
dual_barred action.Insert is = refl
dual_barred action.Update is = refl
dual_barred action.Delete is = refl
dual_barred _ is = absurd is

trail_barred : (grants : Grants) (user : List ℕ) (what : Action) (answer : Allowed) → IsChange what → AllowedOnTrail grants user what answer → answer ≡ Refused TRAIL_READ_ONLY
trail_barred grants user action.Insert answer is allowed = allowed
trail_barred grants user action.Update answer is allowed = allowed
trail_barred grants user action.Delete answer is allowed = allowed
trail_barred grants user _ answer is allowed = absurd is

-- what is refused with a code has that code
refused_code : (answer : Allowed) (code : Code) → answer ≡ Refused code → ((code_or_done (refusal (answer ∷ []))).0 == 0) ≡ true → (code.0 == 0) ≡ true
refused_code answer code is zero = subst (λ (a : Allowed). ((code_or_done (refusal (a ∷ []))).0 == 0) ≡ true) is zero

-- the table is one of these, and is created
pub record IsCreated (tables : List Table) (name : TableName) (table : Table) : Type 0 where
  pub has : Contains tables table
  pub named : table.name ≡ name
  pub kind : kind_of name ≡ Created
  pub there : has_table tables name ≡ true
  pub found : table_named tables name ≡ Some table

module _ (tables : List Table) (grants : Grants) (user : List ℕ) (what : Action) (name : TableName) (answer : Allowed) (is : IsChange what) (zero : ((code_or_done (refusal (answer ∷ []))).0 == 0) ≡ true) where
  on_dual : AllowedIs grants user name what answer → same_table name dual ≡ true → ⊥
  on_dual allowed same =
      let e : false ≡ true = refused_code answer PRIVILEGE_MISSING (allowed.on_dual (same_name name dual same) ∙ dual_barred what is) zero in cc

  on_trail : AllowedIs grants user name what answer → same_table name trail ≡ true → ⊥
  on_trail allowed same =
      let e : false ≡ true = refused_code answer TRAIL_READ_ONLY (trail_barred grants user what answer is (allowed.on_trail (same_name name trail same))) zero in cc

  kind_at : AllowedIs grants user name what answer → (b c : Bool) → same_table name dual ≡ b → same_table name trail ≡ c → kind_of name ≡ Created
  kind_at allowed true c one two = absurd (on_dual allowed one)
  kind_at allowed false true one two = absurd (on_trail allowed two)
  kind_at allowed false false one two = ap₂ (λ (b c : Bool). if b then Dual else (if c then Trail else Created)) one two

  there_at : (b : Bool) → is_there tables name ≡ b → AnswersIfThere b grants user what name answer → (table : Table) × IsCreated tables name table
  there_at false there answered = absurd (let e : false ≡ true = refused_code answer NO_SUCH_TABLE answered zero in cc)
  there_at true there allowed =
      let kind = kind_at allowed (same_table name dual) (same_table name trail) refl refl in
      let has : has_table tables name ≡ true = subst (λ (k : TableKind). is_there_by tables name k ≡ true) kind there in
      let (table, first) = first_of (λ (t : Table). same_table t.name name) tables has in
      (table, record { has = first.has; named = same_name table.name name first.passes; kind = kind; there = has; found = first.found })

pub created : (tables : List Table) (grants : Grants) (user : List ℕ) (what : Action) (name : TableName) (rights : TableRights) → IsChange what → AreTableRights tables grants user what (name ∷ []) rights → (rights.code.0 == 0) ≡ true
    → (table : Table) × IsCreated tables name table
created tables grants user what name rights is are allowed = answered are.answers are.each (subst (λ (c : Code). (c.0 == 0) ≡ true) are.code allowed)
  where
    answered : (answers : List Allowed) → AllZip (Answers tables grants user what) (name ∷ []) answers → ((code_or_done (refusal answers)).0 == 0) ≡ true → (table : Table) × IsCreated tables name table
    answered [] each zero = absurd each
    answered (answer ∷ []) each zero = there_at tables grants user what name answer is zero (is_there tables name) refl each.0
    answered (answer ∷ other ∷ answers) each zero = absurd each.1

-- ---- its key is that of the open table

key_at : (b : Bool) (table : Table) (rest : List ℕ) (found : Option Table) → rest ≡ modify.key_of found → (if b then table.key else rest) ≡ modify.key_of (cond b (Some table) found)
key_at true table rest found same = refl
key_at false table rest found same = same

pub key_same : (name : TableName) (tables : List Table) → key_of name (map open_table tables) ≡ modify.key_in tables name
key_same name [] = refl
key_same name (t ∷ tables) = key_at (same_table t.name name) t (key_of name (map open_table tables)) (find (λ (other : Table). same_table other.name name) tables) (key_same name tables)

-- and it is open where it is kept
pub open_there : (name : TableName) (tables : List Table) → is_open name (map open_table tables) ≡ has_table tables name
open_there name [] = refl
open_there name (t ∷ tables) = ap (λ (b : Bool). same_table t.name name || b) (open_there name tables)

-- its columns are those that statements see of it
pub columns_are : (tables : List Table) (name : TableName) (table : Table) → IsCreated tables name table → columns_of tables name ≡ table.columns
columns_are tables name table c = ap (columns_by tables name) c.kind ∙ ap columns_in c.found
