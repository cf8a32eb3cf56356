-- Where the rights to some tables have the code 0, the tables are there; where they are to change a table, it is a created one.
use Rattle.std.proofs.Common.{◌≡◌, ◌≢◌, ◌∙◌, Bool, true, false, inl, inr, List, [], ◌∷◌, refl, sym, ap, subst, arith}
use Rattle.std.specs.Prelude.{◌↔◌, IsTrue, Option, Some, None, if◌then◌else◌}
use Rattle.std.specs.List.{AllByRecursion, AllZip}
use Rattle.au_base.specs.declared.action.Action.{Action}
use Rattle.au_base.specs.declared.action.Action.TheVariants as actions
use Rattle.au_base.specs.declared.code.Code.{Code}
use Rattle.au_base.specs.declared.table.TableName.{TableName}
use Rattle.au_base.specs.BuiltIn.{dual, trail}
use Rattle.au_base.specs.Codes.{NO_SUCH_TABLE, PRIVILEGE_MISSING, TRAIL_READ_ONLY}
use Rattle.au_base.specs.Sameness.{same_table}
use Rattle.au_entries.specs.declared.table.Table.{Table}
use Rattle.au_expr.specs.Names.{or_code}
use Rattle.au_grants.specs.declared.grants.Grants.{Grants}
use Rattle.au_grants.specs.Rights.{Name}
use Rattle.au_priv.specs.declared.allowed.Allowed.{Allowed}
use Rattle.au_priv.specs.declared.allowed.Allowed.TheVariants.{Object, Owner, Refused, System}
use Rattle.au_priv.specs.Allowing.{AllowedIs, AllowedOnTrail, dual_answer}
use Rattle.au_world.specs.declared.rights.TableRights.{TableRights}
use Rattle.au_world.specs.Rights.{Answers, AnswersIfThere, AreTableRights, code_of, code_or_done, refusal}
use Rattle.au_world.specs.declared.built_in.TableKind.{TableKind}
use Rattle.au_world.specs.declared.built_in.TableKind.TheVariants.{Created, Dual, Trail}
use Rattle.au_world.specs.BuiltInTables.{kind_of}
use Rattle.au_world.specs.Sights.{is_there, is_there_by}
use Rattle.au_plan.specs.Inside.{IsOfCatalog}

-- tables that are the same are one, and one is the same as itself
abbrev pub Same : Type 0
Same = (a b : TableName) → same_table a b ≡ true ↔ (a ≡ b)

missing : (code : Code) → code ≡ PRIVILEGE_MISSING → code.0 ≢ 0
missing code is zero = let e : code.0 ≡ 1031 = ap (λ (c : Code). c.0) is in omega arith

no_table : (code : Code) → code ≡ NO_SUCH_TABLE → code.0 ≢ 0
no_table code is zero = let e : code.0 ≡ 942 = ap (λ (c : Code). c.0) is in omega arith

other_name : Same → (a b : TableName) → same_table a b ≡ false → a ≢ b
other_name same a b is equal = let e : true ≡ false = sym ((same a b).1 equal) ∙ is in cc

read_only : (code : Code) → code ≡ TRAIL_READ_ONLY → code.0 ≢ 0
read_only code is zero = let e : code.0 ≡ 46385 = ap (λ (c : Code). c.0) is in omega arith

the_code : (a b : Code) → Refused a ≡ Refused b → a ≡ b
the_code a b is = cc

-- what is refused on a built-in table has a code that isn't 0
pub record RefusesByCode (action : Action) : Type 0 where
  pub on_dual : (code : Code) → Refused code ≡ dual_answer action → code.0 ≢ 0
  pub on_trail : (grants : Grants) (user : Name) (code : Code) → AllowedOnTrail grants user action (Refused code) → code.0 ≢ 0

-- nothing is allowed on a built-in table
pub record RefusesBuiltIn (action : Action) : Type 0 where
  pub on_dual : dual_answer action ≡ Refused PRIVILEGE_MISSING
  pub on_trail : (grants : Grants) (user : Name) (answer : Allowed) → AllowedOnTrail grants user action answer → answer ≡ Refused TRAIL_READ_ONLY

pub selects : RefusesByCode actions.Select
selects = record {
  on_dual = λ code is. absurd (let e : Refused code ≡ Object = is in cc);
  on_trail = λ grants user code is. no_table code is.1;
}

pub by_code : (action : Action) → RefusesBuiltIn action → RefusesByCode action
by_code action built_in = record {
  on_dual = λ code is. missing code (the_code code PRIVILEGE_MISSING (is ∙ built_in.on_dual));
  on_trail = λ grants user code is. read_only code (the_code code TRAIL_READ_ONLY (built_in.on_trail grants user (Refused code) is));
}

pub inserts : RefusesBuiltIn actions.Insert
inserts = record { on_dual = refl; on_trail = λ grants user answer is. is }

pub updates : RefusesBuiltIn actions.Update
updates = record { on_dual = refl; on_trail = λ grants user answer is. is }

pub deletes : RefusesBuiltIn actions.Delete
deletes = record { on_dual = refl; on_trail = λ grants user answer is. is }

module _ (same : Same) (catalog : List Table) (grants : Grants) (user : Name) (action : Action) (refuses : RefusesByCode action) where
  -- a refusal has a code that isn't 0
  refused_on : (table : TableName) (code : Code) (d t : Bool) → same_table table dual ≡ d → same_table table trail ≡ t → AllowedIs grants user table action (Refused code) → code.0 ≢ 0
  refused_on table code true t on_dual on_trail is = refuses.on_dual code (is.on_dual ((same table dual).0 on_dual))
  refused_on table code false true on_dual on_trail is = refuses.on_trail grants user code (is.on_trail ((same table trail).0 on_trail))
  refused_on table code false false on_dual on_trail is =
      elim (is.on_table (other_name same table dual on_dual) (other_name same table trail on_trail)).3 [
        | inl something ↦ missing code something.1
        | inr nothing ↦ no_table code nothing.1
      ]

  -- what an answer says of the code and of whether the table is there
  refused_code : (table : TableName) (t : Bool) (answer : Allowed) (code : Code) → AnswersIfThere t grants user action table answer → code_of answer ≡ Some code → code.0 ≢ 0
  refused_code table t Owner code is coded = absurd (let e : None ≡ Some code = coded in cc)
  refused_code table t Object code is coded = absurd (let e : None ≡ Some code = coded in cc)
  refused_code table t (System privilege) code is coded = absurd (let e : None ≡ Some code = coded in cc)
  refused_code table true (Refused other) code is coded =
      let e : other ≡ code = cc in
      subst (λ (c : Code). c.0 ≢ 0) e (refused_on table other (same_table table dual) (same_table table trail) refl refl is)
  refused_code table false (Refused other) code is coded =
      let e : code ≡ NO_SUCH_TABLE = cc in no_table code e

  pub there_if_allowed : (table : TableName) (t : Bool) (answer : Allowed) → AnswersIfThere t grants user action table answer → code_of answer ≡ None → t ≡ true
  there_if_allowed table true answer is coded = refl
  there_if_allowed table false answer is coded =
      absurd (let e : Some NO_SUCH_TABLE ≡ None = sym (ap code_of is) ∙ coded in cc)

  refused_at : (table : TableName) (answer : Allowed) (code : Code) → Answers catalog grants user action table answer → (found : Option Code) → code_of answer ≡ found → (later : Option Code)
      → (later ≡ Some code → code.0 ≢ 0) → or_code found later ≡ Some code → code.0 ≢ 0
  refused_at table answer code one None coded later more is = more is
  refused_at table answer code one (Some other) coded later more is = refused_code table (is_there catalog table) answer code one (coded ∙ is)

  -- the code of the first refusal isn't 0
  first_refused : (tables : List TableName) (answers : List Allowed) (code : Code) → AllZip (Answers catalog grants user action) tables answers → refusal answers ≡ Some code → code.0 ≢ 0
  first_refused [] [] code each is = absurd (let e : None ≡ Some code = is in cc)
  first_refused [] (answer ∷ answers) code each is = absurd each
  first_refused (table ∷ tables) [] code each is = absurd each
  first_refused (table ∷ tables) (answer ∷ answers) code each is =
      refused_at table answer code each.0 (code_of answer) refl (refusal answers) (first_refused tables answers code each.1) is

  -- where the code is 0, nothing is refused
  pub none_refused : (tables : List TableName) (rights : TableRights) → (are : AreTableRights catalog grants user action tables rights) → rights.code.0 ≡ 0 → refusal are.answers ≡ None
  none_refused tables rights are done = at (refusal are.answers) refl are.code
    where
      at : (found : Option Code) → refusal are.answers ≡ found → rights.code ≡ code_or_done found → refusal are.answers ≡ None
      at None is code = is
      at (Some other) is code = absurd (first_refused tables are.answers other are.each is (ap (λ (c : Code). c.0) (sym code) ∙ done))

  allowed_at : (answer : Allowed) (found : Option Code) → code_of answer ≡ found → (later : Option Code) → or_code found later ≡ None → (code_of answer ≡ None) × (later ≡ None)
  allowed_at answer None coded later is = (coded, is)
  allowed_at answer (Some other) coded later is = absurd (let e : Some other ≡ None = is in cc)

  -- each table is there then
  all_there : (tables : List TableName) (answers : List Allowed) → AllZip (Answers catalog grants user action) tables answers → refusal answers ≡ None → AllByRecursion (λ (table : TableName). IsTrue (is_there catalog table)) tables
  all_there [] answers each is = tt
  all_there (table ∷ tables) [] each is = absurd each
  all_there (table ∷ tables) (answer ∷ answers) each is =
      let at = allowed_at answer (code_of answer) refl (refusal answers) is in
      (there_if_allowed table (is_there catalog table) answer each.0 at.0, all_there tables answers each.1 at.1)

  -- rights with the code 0 are to tables that are there
  pub there_where_done : (tables : List TableName) (rights : TableRights) → AreTableRights catalog grants user action tables rights → rights.code.0 ≡ 0 → AllByRecursion (λ (table : TableName). IsTrue (is_there catalog table)) tables
  there_where_done tables rights are done = all_there tables are.answers are.each (none_refused tables rights are done)

-- ---- the right to change a table

module _ (same : Same) (catalog : List Table) (grants : Grants) (user : Name) (action : Action) (refuses : RefusesBuiltIn action) where
  -- what a user may change is no built-in table
  may_be : (table : TableName) (t d r : Bool) → same_table table dual ≡ d → same_table table trail ≡ r → t ≡ true → (answer : Allowed) → AnswersIfThere t grants user action table answer → code_of answer ≡ None
      → (d ≡ false) × (r ≡ false)
  may_be table false d r on_dual on_trail is answer one coded = absurd (let e : false ≡ true = is in cc)
  may_be table true true r on_dual on_trail is answer one coded =
      absurd (let e : Some PRIVILEGE_MISSING ≡ None = sym (ap code_of (one.on_dual ((same table dual).0 on_dual) ∙ refuses.on_dual)) ∙ coded in cc)
  may_be table true false true on_dual on_trail is answer one coded =
      absurd (let e : Some TRAIL_READ_ONLY ≡ None = sym (ap code_of (refuses.on_trail grants user answer (one.on_trail ((same table trail).0 on_trail)))) ∙ coded in cc)
  may_be table true false false on_dual on_trail is answer one coded = (refl, refl)

  is_created : (table : TableName) (d r : Bool) → same_table table dual ≡ d → same_table table trail ≡ r → d ≡ false → r ≡ false → kind_of table ≡ Created
  is_created table d r on_dual on_trail no_dual no_trail =
      ap (λ (b : Bool). if b then Dual else (if same_table table trail then Trail else Created)) (on_dual ∙ no_dual)
      ∙ ap (λ (b : Bool). if b then Trail else Created) (on_trail ∙ no_trail)

  of_catalog : (table : TableName) (answers : List Allowed) → AllZip (Answers catalog grants user action) (table ∷ []) answers → refusal answers ≡ None → IsOfCatalog catalog table
  of_catalog table [] each is = absurd each
  of_catalog table (answer ∷ answers) each is =
      let at = allowed_at same catalog grants user action (by_code action refuses) answer (code_of answer) refl (refusal answers) is in
      let there : is_there catalog table ≡ true = there_if_allowed same catalog grants user action (by_code action refuses) table (is_there catalog table) answer each.0 at.0 in
      let none = may_be table (is_there catalog table) (same_table table dual) (same_table table trail) refl refl there answer each.0 at.0 in
      let created = is_created table (same_table table dual) (same_table table trail) refl refl none.0 none.1 in
      record { created = created; there = subst (λ (k : TableKind). is_there_by catalog table k ≡ true) created there }

  -- a right to change a table with the code 0 is to a created one that is there
  pub changed_table : (table : TableName) (rights : TableRights) → AreTableRights catalog grants user action (table ∷ []) rights → rights.code.0 ≡ 0 → IsOfCatalog catalog table
  changed_table table rights are done = of_catalog table are.answers are.each (none_refused same catalog grants user action (by_code action refuses) (table ∷ []) rights are done)
