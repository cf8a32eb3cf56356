-- The code of the rights on tables is small, and the privileges that are used stand in the order of their numbers.
use Rattle.std.proofs.Common.{◌≡◌, ◌≢◌, ◌≤◌, ◌<◌, ◌∙◌, ℕ, Bool, true, false, cond, nat_lt, IsTrue, inl, inr, List, [], ◌∷◌, map, filter, Option, Some, None, refl, sym, subst, arith, lt-ltb, ltb-true}
use Rattle.std.proofs.lemmas.Bool.{and_from, and_parts}
use Rattle.std.specs.Prelude.{◌↔◌}
use Rattle.std.specs.List.{AllByRecursion, AllZip, list_any}
use Rattle.au_base.specs.BuiltIn.{dual, trail}
use Rattle.au_base.specs.Privileges.{code_of as number_of, each_privilege}
use Rattle.au_base.specs.Sameness.{same_table}
use Rattle.au_base.specs.declared.action.Action.TheVariants as action
use Rattle.au_base.specs.declared.code.Code.{Code}
use Rattle.au_base.specs.declared.privilege.Privilege.{Privilege}
use Rattle.au_base.specs.declared.table.TableName.{TableName}
use Rattle.au_entries.specs.declared.table.Table.{Table}
use Rattle.au_grants.specs.Rights.{Grants, Name}
use Rattle.au_priv.specs.declared.allowed.Allowed.{Allowed}
use Rattle.au_priv.specs.declared.allowed.Allowed.TheVariants.{Owner, Object, System, Refused}
use Rattle.au_world.specs.declared.rights.TableRights.{TableRights}
use Rattle.au_world.specs.Rights.{Answers, AnswersIfThere, AreTableRights, code_of, code_or_done, refusal, used_unless, uses}
use Rattle.au_world.specs.Sights.{is_there}
use Rattle.au_ruling.proofs.Lists.{all_any, filter_fewer}
use Rattle.rec_parts.specs.Parts.{is_rising, privilege, privileges_in_order}
use Rattle.au_base.specs.declared.action.Action.{Action}
use Rattle.au_base.specs.Codes.{TRAIL_READ_ONLY}
use Rattle.au_priv.specs.Allowing.{AllowedIs, AllowedOnTable, AllowedOnTrail, IsRefusal, dual_answer}
use Rattle.au_ruling.proofs.Codes.{Fits, IsSmall, first_fits}

-- ---- the rights

abbrev pub TablesAreSame : Type 0
TablesAreSame = (a b : TableName) → IsTrue (same_table a b) ↔ (a ≡ b)

refusal_small : (grants : Grants) (user : Name) (table : TableName) (code : Code) → IsRefusal grants user table code → IsSmall code
refusal_small grants user table code (inl has) = subst IsSmall (sym has.1) (omega arith)
refusal_small grants user table code (inr not) = subst IsSmall (sym not.1) (omega arith)

on_table_fits : (asked : Action) (grants : Grants) (user : Name) (table : TableName) (answer : Allowed) → AllowedOnTable grants user table asked answer → Fits (code_of answer)
on_table_fits asked grants user table Owner allowed = tt
on_table_fits asked grants user table Object allowed = tt
on_table_fits asked grants user table (System used) allowed = tt
on_table_fits asked grants user table (Refused code) allowed = refusal_small grants user table code allowed.3

-- who may not write the trail is told so
written_fits : (answer : Allowed) → answer ≡ Refused TRAIL_READ_ONLY → Fits (code_of answer)
written_fits answer is = subst (λ (a : Allowed). Fits (code_of a)) (sym is) (omega arith)

select_fits : (grants : Grants) (user : Name) (answer : Allowed) → AllowedOnTrail grants user action.Select answer → Fits (code_of answer)
select_fits grants user Owner allowed = tt
select_fits grants user Object allowed = tt
select_fits grants user (System used) allowed = tt
select_fits grants user (Refused code) allowed = subst IsSmall (sym allowed.1) (omega arith)

-- an action whose refusals on the two built-in tables have small codes
abbrev pub IsSafe : Action → Type 0
IsSafe asked = ((grants : Grants) (user : Name) (answer : Allowed) → AllowedOnTrail grants user asked answer → Fits (code_of answer)) × Fits (code_of (dual_answer asked))

pub select_safe : IsSafe action.Select
select_safe = (λ grants user answer allowed. select_fits grants user answer allowed, tt)

pub insert_safe : IsSafe action.Insert
insert_safe = (λ grants user answer allowed. written_fits answer allowed, omega arith)

pub update_safe : IsSafe action.Update
update_safe = (λ grants user answer allowed. written_fits answer allowed, omega arith)

pub delete_safe : IsSafe action.Delete
delete_safe = (λ grants user answer allowed. written_fits answer allowed, omega arith)

not_both : (b : Bool) → b ≡ false → b ≡ true → ⊥
not_both b is_false is_true = let e : true ≡ false = sym is_true ∙ is_false in cc

module _ (same : TablesAreSame) (asked : Action) (safe : IsSafe asked) (grants : Grants) (user : Name) (table : TableName) (answer : Allowed) (allowed : AllowedIs grants user table asked answer) where
  beside_dual : (on_trail : Bool) → same_table table trail ≡ on_trail → table ≢ dual → Fits (code_of answer)
  beside_dual true it unlike = safe.0 grants user answer (allowed.on_trail ((same table trail).0 it))
  beside_dual false it unlike = on_table_fits asked grants user table answer (allowed.on_table unlike (λ e. not_both (same_table table trail) it ((same table trail).1 e)))

  by_dual : (on_dual : Bool) → same_table table dual ≡ on_dual → Fits (code_of answer)
  by_dual true it = subst (λ (a : Allowed). Fits (code_of a)) (sym (allowed.on_dual ((same table dual).0 it))) safe.1
  by_dual false it = beside_dual (same_table table trail) refl (λ e. not_both (same_table table dual) it ((same table dual).1 e))

answer_fits : TablesAreSame → (asked : Action) → IsSafe asked → (there : Bool) (grants : Grants) (user : Name) (table : TableName) (answer : Allowed) → AnswersIfThere there grants user asked table answer → Fits (code_of answer)
answer_fits same asked safe true grants user table answer allowed = by_dual same asked safe grants user table answer allowed (same_table table dual) refl
answer_fits same asked safe false grants user table answer refused = subst (λ (a : Allowed). Fits (code_of a)) (sym refused) (omega arith)

answers_fit : TablesAreSame → (asked : Action) → IsSafe asked → (catalog : List Table) (grants : Grants) (user : Name) (tables : List TableName) (answers : List Allowed)
    → AllZip (Answers catalog grants user asked) tables answers → AllByRecursion Fits (map code_of answers)
answers_fit same asked safe catalog grants user tables [] all = tt
answers_fit same asked safe catalog grants user [] (answer ∷ answers) all = absurd all
answers_fit same asked safe catalog grants user (table ∷ tables) (answer ∷ answers) all =
    (answer_fits same asked safe (is_there catalog table) grants user table answer all.0, answers_fit same asked safe catalog grants user tables answers all.1)

or_done_small : (code : Option Code) → Fits code → IsSmall (code_or_done code)
or_done_small None fits = omega arith
or_done_small (Some code) fits = fits

pub rights_small : TablesAreSame → (asked : Action) → IsSafe asked → (catalog : List Table) (grants : Grants) (user : Name) (tables : List TableName) (rights : TableRights)
    → AreTableRights catalog grants user asked tables rights → IsSmall rights.code
rights_small same asked safe catalog grants user tables rights are =
    subst IsSmall (sym are.code) (or_done_small (refusal are.answers) (first_fits (map code_of are.answers) (answers_fit same asked safe catalog grants user tables are.answers are.each)))

-- ---- the privileges

within : (low high n : ℕ) → low ≤ high → high < n → low < n
within low high n le above = omega (arith, le, above)

below : (low high n : ℕ) → low ≤ high → high < n → low ≤ n
below low high n le above = omega (arith, le, above)

rising_at : (keep : Bool) (low high : ℕ) (p : Privilege) (kept : List Privilege) → low ≤ high → high < number_of p → is_rising (number_of p) kept ≡ true → (low ≤ number_of p → is_rising low kept ≡ true)
    → is_rising low (cond keep (p ∷ kept) kept) ≡ true
rising_at true low high p kept le above behind rest = and_from (nat_lt low (number_of p)) (is_rising (number_of p) kept) (lt-ltb low (number_of p) (within low high (number_of p) le above)) behind
rising_at false low high p kept le above behind rest = rest (below low high (number_of p) le above)

rising : (test : Privilege → Bool) (low high : ℕ) (ps : List Privilege) → low ≤ high → is_rising high ps ≡ true → is_rising low (filter test ps) ≡ true
rising test low high [] le it = refl
rising test low high (p ∷ ps) le it =
    let parts = and_parts (nat_lt high (number_of p)) (is_rising (number_of p) ps) it in
    rising_at (test p) low high p (filter test ps) le (ltb-true high (number_of p) parts.0) (rising test (number_of p) (number_of p) ps (omega arith) parts.1)
    (λ lower. rising test low (number_of p) ps lower parts.1)

fewer : {a b : ℕ} → a ≤ b → b < 256 → a < 256
fewer le lt = omega (arith, le, lt)

abbrev pub IsUsable : List Privilege → Type 0
IsUsable used = privileges_in_order.IsSpellable used

filtered_usable : (test : Privilege → Bool) → IsUsable (filter test each_privilege)
unfolding privileges_in_order privilege
filtered_usable test =
    ((fewer (filter_fewer test each_privilege) (omega arith), all_any (filter test each_privilege)), rising test 0 0 each_privilege (omega arith) refl)

pub none_usable : privileges_in_order.IsSpellable []
unfolding privileges_in_order
none_usable = ((omega arith, tt), refl)

pub used_usable : (code : Option Code) (answers : List Allowed) → IsUsable (used_unless code answers)
used_usable None answers = filtered_usable (λ privilege. list_any (uses privilege) answers)
used_usable (Some code) answers = none_usable
