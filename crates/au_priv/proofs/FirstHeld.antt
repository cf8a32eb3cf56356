-- What the first of several rights says of each.
use Rattle.std.proofs.Common.{◌≡◌, ◌↔◌, ◌⊎◌, ℕ, zero, suc, inl, inr, Bool, true, false, List, [], ◌∷◌, Option, Some, None, is_some, refl, sym, subst, ◌∙◌, arith}
use Rattle.std.proofs.lemmas.Option.{same_Some}
use Rattle.au_base.specs.declared.table.TableName.{TableName}
use Rattle.au_grants.specs.declared.grants.Grants.{Grants}
use Rattle.au_grants.specs.declared.right.Sought.{Sought}
use Rattle.au_grants.specs.declared.right.Sought.TheVariants.{AnyTable}
use Rattle.au_grants.specs.Holding.{Holds, HoldsNone, IsFirstHeld}
use Rattle.au_grants.specs.Rights.{Name, HasSomeObjectPrivilege}
use Rattle.au_priv.specs.Allowing.{HasSomething}
use Rattle.au_priv.proofs.Answers.{any_table_held}

-- the first right, where it is held
first_is : (grants : Grants) (user : Name) (right : Sought) (rights : List Sought) (place : ℕ) → place ≡ 0 → IsFirstHeld grants user (right ∷ rights) place → Holds grants user right
first_is grants user right rights zero at ((other, is, holds), none) = subst (λ (r : Sought). Holds grants user r) (sym (same_Some right other is)) holds
first_is grants user right rights (suc place) at is = absurd (omega (arith, at))

-- else a further right is the first of the others
later_is : (grants : Grants) (user : Name) (right : Sought) (rights : List Sought) (place : ℕ) → (place ≡ 0 → ⊥) → IsFirstHeld grants user (right ∷ rights) place
    → (¬ Holds grants user right) × ((k : ℕ) × (place ≡ suc k) × IsFirstHeld grants user rights k)
later_is grants user right rights zero apart is = absurd (apart refl)
later_is grants user right rights (suc k) apart (here, none) = (none 0 right (omega arith) refl, (k, refl, (here, λ j other less at. none (suc j) other (omega (arith, less)) at)))

-- where none is held, the first isn't and none of the others
none_is : (grants : Grants) (user : Name) (right : Sought) (rights : List Sought) → HoldsNone grants user (right ∷ rights) → (¬ Holds grants user right) × HoldsNone grants user rights
none_is grants user right rights none = (none 0 right refl, λ k other at. none (suc k) other at)

-- who holds one of the last two rights has something on the table
pub something : (grants : Grants) (user : Name) (table : TableName) (some : Sought) (place : ℕ) → ((Holds grants user some) → HasSomeObjectPrivilege grants user table)
    → IsFirstHeld grants user (some ∷ AnyTable ∷ []) place → HasSomething grants user table
something grants user table some zero to is = inl (to (first_is grants user some (AnyTable ∷ []) 0 refl is))
something grants user table some (suc zero) to is =
    let later = later_is grants user some (AnyTable ∷ []) 1 (λ same. absurd (omega (arith, same))) is in
    inr ((any_table_held grants user).0 (first_is grants user AnyTable [] later.1.0 (let one = later.1.1 in omega (arith, one)) later.1.2))
something grants user table some (suc (suc k)) to ((other, is, holds), none) = absurd (let e : None ≡ Some other = is in cc)

-- who holds neither has nothing
pub nothing : (grants : Grants) (user : Name) (table : TableName) (some : Sought) → (HasSomeObjectPrivilege grants user table → Holds grants user some)
    → HoldsNone grants user (some ∷ AnyTable ∷ []) → HasSomething grants user table → ⊥
nothing grants user table some from none (inl object) = (none_is grants user some (AnyTable ∷ []) none).0 (from object)
nothing grants user table some from none (inr any) = (none_is grants user AnyTable [] (none_is grants user some (AnyTable ∷ []) none).1).0 ((any_table_held grants user).1 any)

-- whether one of two rights is held
one_of_two : (grants : Grants) (user : Name) (a b : Sought) (place : ℕ) → IsFirstHeld grants user (a ∷ b ∷ []) place → Holds grants user a ⊎ Holds grants user b
one_of_two grants user a b zero is = inl (first_is grants user a (b ∷ []) 0 refl is)
one_of_two grants user a b (suc zero) is =
    let later = later_is grants user a (b ∷ []) 1 (λ same. absurd (omega (arith, same))) is in
    inr (first_is grants user b [] later.1.0 (let one = later.1.1 in omega (arith, one)) later.1.2)
one_of_two grants user a b (suc (suc k)) ((other, is, holds), none) = absurd (let e : None ≡ Some other = is in cc)

pub neither_of_two : (grants : Grants) (user : Name) (a b : Sought) → HoldsNone grants user (a ∷ b ∷ []) → (¬ Holds grants user a) × (¬ Holds grants user b)
neither_of_two grants user a b none = (let one = none_is grants user a (b ∷ []) none in (one.0, (none_is grants user b [] one.1).0))

-- the second of two, where it isn't the first
pub second_is : (grants : Grants) (user : Name) (a b : Sought) (place : ℕ) → (place ≡ 0 → ⊥) → IsFirstHeld grants user (a ∷ b ∷ []) place → (¬ Holds grants user a) × Holds grants user b
second_is grants user a b place apart is =
    let later = later_is grants user a (b ∷ []) place apart is in (
      later.0,
      elim (one_of_two grants user a b place is) [
        | inl first ↦ absurd (later.0 first)
        | inr second ↦ second
      ],
    )

-- whether one of two rights is found
pub found_of_two : (grants : Grants) (user : Name) (a b : Sought) (found : Option ℕ) (r : Bool) → r ≡ is_some found → ((place : ℕ) → (found ≡ Some place) ↔ IsFirstHeld grants user (a ∷ b ∷ []) place)
    → (found ≡ None) ↔ HoldsNone grants user (a ∷ b ∷ []) → (r ≡ true) ↔ (Holds grants user a ⊎ Holds grants user b)
found_of_two grants user a b (Some place) r is some none = (λ _. one_of_two grants user a b place ((some place).0 refl), λ _. is)
found_of_two grants user a b None r is some none = (
  λ yes. absurd (let e : true ≡ false = sym yes ∙ is in cc),
  λ either. (let neither = neither_of_two grants user a b (none.0 refl) in elim either [ inl first ↦ absurd (neither.0 first) | inr second ↦ absurd (neither.1 second) ]),
)

-- a right, and behind it some object privilege on the table and some privilege on any table
pub behind_one : (grants : Grants) (user : Name) (table : TableName) (first some : Sought) (place : ℕ) → (Holds grants user some → HasSomeObjectPrivilege grants user table) → (place ≡ 0 → ⊥)
    → IsFirstHeld grants user (first ∷ some ∷ AnyTable ∷ []) place → (¬ Holds grants user first) × HasSomething grants user table
behind_one grants user table first some place to apart is =
    let later = later_is grants user first (some ∷ AnyTable ∷ []) place apart is in
    (later.0, something grants user table some later.1.0 to later.1.2)

pub none_behind_one : (grants : Grants) (user : Name) (table : TableName) (first some : Sought) → (HasSomeObjectPrivilege grants user table → Holds grants user some)
    → HoldsNone grants user (first ∷ some ∷ AnyTable ∷ []) → (¬ Holds grants user first) × (¬ HasSomething grants user table)
none_behind_one grants user table first some from none =
    let one = none_is grants user first (some ∷ AnyTable ∷ []) none in
    (one.0, nothing grants user table some from one.1)

-- the same behind two rights
pub second_of_four : (grants : Grants) (user : Name) (first second some : Sought) (place : ℕ) → place ≡ 1 → IsFirstHeld grants user (first ∷ second ∷ some ∷ AnyTable ∷ []) place → (¬ Holds grants user first) × Holds grants user second
second_of_four grants user first second some place at is =
    let later = later_is grants user first (second ∷ some ∷ AnyTable ∷ []) place (λ zero_is. absurd (omega (arith, at, zero_is))) is in
    (later.0, first_is grants user second (some ∷ AnyTable ∷ []) later.1.0 (let one = later.1.1 in omega (arith, one, at)) later.1.2)

pub behind_two : (grants : Grants) (user : Name) (table : TableName) (first second some : Sought) (place : ℕ) → (Holds grants user some → HasSomeObjectPrivilege grants user table) → (place ≡ 0 → ⊥) → (place ≡ 1 → ⊥)
    → IsFirstHeld grants user (first ∷ second ∷ some ∷ AnyTable ∷ []) place → (¬ Holds grants user first) × (¬ Holds grants user second) × HasSomething grants user table
behind_two grants user table first second some place to not_first not_second is =
    let later = later_is grants user first (second ∷ some ∷ AnyTable ∷ []) place not_first is in
    let rest = behind_one grants user table second some later.1.0 to (λ same. not_second (let one = later.1.1 in omega (arith, one, same))) later.1.2 in
    (later.0, rest.0, rest.1)

pub none_behind_two : (grants : Grants) (user : Name) (table : TableName) (first second some : Sought) → (HasSomeObjectPrivilege grants user table → Holds grants user some)
    → HoldsNone grants user (first ∷ second ∷ some ∷ AnyTable ∷ []) → (¬ Holds grants user first) × (¬ Holds grants user second) × (¬ HasSomething grants user table)
none_behind_two grants user table first second some from none =
    let one = none_is grants user first (second ∷ some ∷ AnyTable ∷ []) none in
    let rest = none_behind_one grants user table second some from one.1 in
    (one.0, rest.0, rest.1)

-- the first right of two, of three and of four
pub first_of_two : (grants : Grants) (user : Name) (a b : Sought) (place : ℕ) → place ≡ 0 → IsFirstHeld grants user (a ∷ b ∷ []) place → Holds grants user a
first_of_two grants user a b place at is = first_is grants user a (b ∷ []) place at is

pub first_of_three : (grants : Grants) (user : Name) (first some : Sought) (place : ℕ) → place ≡ 0 → IsFirstHeld grants user (first ∷ some ∷ AnyTable ∷ []) place → Holds grants user first
first_of_three grants user first some place at is = first_is grants user first (some ∷ AnyTable ∷ []) place at is

pub first_of_four : (grants : Grants) (user : Name) (first second some : Sought) (place : ℕ) → place ≡ 0 → IsFirstHeld grants user (first ∷ second ∷ some ∷ AnyTable ∷ []) place → Holds grants user first
first_of_four grants user first second some place at is = first_is grants user first (second ∷ some ∷ AnyTable ∷ []) place at is
