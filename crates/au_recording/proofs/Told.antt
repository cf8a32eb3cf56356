-- The parts of a record have spellings.
use Rattle.std.proofs.Common.{◌≡◌, ◌≤◌, ◌∙◌, ◌==◌, ℕ, Bool, true, false, cond, nat_le, nat_lt, List, [], ◌∷◌, length, filter, refl, sym, ap, arith}
use Rattle.std.specs.Prelude.{Option, Some, None}
use Rattle.std.specs.Cmp.Lexicographic.{bytes_decides, nat_list_eq_equiv}
use Rattle.std.specs.List.{AllByRecursion, IsDistinct, list_all, list_any}
use Rattle.std.specs.Set.{distinct_count}
use Rattle.std.specs.Str.{bytes_eq}
use Rattle.std.proofs.lemmas.Bool.{and_from, and_parts}
use Rattle.std.proofs.lemmas.Bool.Decides.{nat_tests}
use Rattle.std.proofs.lemmas.Map.Made.{distinct_count-from_IsDistinct}
use Rattle.au_audit.specs.Records.{in_code_order, name_of, owner_of}
use Rattle.au_audit.specs.Statements.{Object}
use Rattle.au_base.specs.Limits.{RECORD_POLICIES, STATEMENT_BYTES}
use Rattle.au_base.specs.Naming.{IsName}
use Rattle.au_base.specs.Order.{is_in_order, name_before}
use Rattle.au_base.specs.OrderLaws.{names_irreflexive}
use Rattle.au_base.specs.Privileges.{each_privilege}
use Rattle.au_base.specs.Privileges as privileges
use Rattle.au_base.specs.Sameness.{same_privilege}
use Rattle.au_base.specs.declared.privilege.Privilege.{Privilege}
use Rattle.au_recording.specs.Writing.{IsNamed, IsObjectNamed, IsStatementText}
use Rattle.rec_codec.specs.Records.{demanding, statement_text}
use Rattle.rec_parts.specs.Parts.{is_rising, names, privileges_in_order}
use Rattle.rec_parts.specs.Parts as parts
use Rattle.rec_parts.specs.Spelling.{is_without_repeats, option}

-- ---- names

pub name_told : (name : List ℕ) → IsName name → parts.name.IsSpellable name
unfolding parts.name
name_told name is = (let capped = is.0.capped in omega arith, is)

all_told : (names : List (List ℕ)) → AllByRecursion IsName names → AllByRecursion parts.name.IsSpellable names
all_told [] all = tt
all_told (name ∷ names) all = (name_told name all.0, all_told names all.1)

not_same : (a b : List ℕ) (t : Bool) → bytes_eq a b ≡ t → name_before a b ≡ true → t ≡ false
not_same a b false is less = refl
not_same a b true is less =
    let same : a ≡ b = (bytes_decides a b).0 is in
    let e : true ≡ false = sym less ∙ ap (λ (x : List ℕ). name_before x b) same ∙ names_irreflexive b in
    absurd (cc)

all_apart : (name : List ℕ) (names : List (List ℕ)) → list_all (name_before name) names ≡ true → AllByRecursion (λ other. bytes_eq name other ≡ false) names
all_apart name [] all = tt
all_apart name (other ∷ names) all =
    let both = and_parts (name_before name other) (list_all (name_before name) names) all in
    (not_same name other (bytes_eq name other) refl both.0, all_apart name names both.1)

distinct : (names : List (List ℕ)) → is_in_order name_before names ≡ true → IsDistinct bytes_eq names
unfolding IsDistinct
distinct [] ordered = tt
distinct (name ∷ names) ordered =
    let both = and_parts (list_all (name_before name) names) (is_in_order name_before names) ordered in
    (all_apart name names both.0, distinct names both.1)

same_number : (m n : ℕ) → m ≡ n → (m == n) ≡ true
same_number m n same = grind (arith, nat_tests)

at_most : (m n : ℕ) → m ≤ n → nat_le m n ≡ true
at_most m n le = grind (arith, nat_tests)

-- names in order stand once
once : (names : List (List ℕ)) → is_in_order name_before names ≡ true → is_without_repeats bytes_eq names ≡ true
once names ordered = same_number (distinct_count bytes_eq names) (length names) (distinct_count-from_IsDistinct nat_list_eq_equiv names (distinct names ordered))

-- the names of policies that demand a record
pub demanding_told : (policies : List (List ℕ)) → length policies ≤ RECORD_POLICIES → AllByRecursion IsName policies → is_in_order name_before policies ≡ true → demanding.IsSpellable policies
unfolding demanding names
demanding_told policies few each ordered = (((omega arith, all_told policies each), once policies ordered), at_most (length policies) RECORD_POLICIES few)

pub named_told : (name : Option (List ℕ)) → IsNamed name → (option parts.name).IsSpellable name
named_told None is = tt
named_told (Some name) is = name_told name is

pub owner_told : (object : Option Object) → IsObjectNamed object → (option parts.name).IsSpellable (owner_of object)
owner_told None is = tt
owner_told (Some object) is = named_told object.0 is.0

pub object_told : (object : Option Object) → IsObjectNamed object → (option parts.name).IsSpellable (name_of object)
object_told None is = tt
object_told (Some object) is = name_told object.1 is.1

-- ---- the text

pub text_told : (text : Option (List ℕ)) → IsStatementText text → (option statement_text).IsSpellable text
unfolding statement_text parts.text
text_told None is = tt
text_told (Some text) is =
    let some = is.0 in
    let fits = is.1 in
    ((omega arith, is.2), and_from (nat_le 1 (length text)) (nat_le (length text) STATEMENT_BYTES) (at_most 1 (length text) some) (at_most (length text) STATEMENT_BYTES fits))

-- ---- privileges

lower : (low high : ℕ) (used : List Privilege) → low ≤ high → is_rising high used ≡ true → is_rising low used ≡ true
lower low high [] le rising = refl
lower low high (privilege ∷ used) le rising =
    let both = and_parts (nat_lt high (privileges.code_of privilege)) (is_rising (privileges.code_of privilege) used) rising in
    let over : nat_lt low (privileges.code_of privilege) ≡ true = (let more = both.0 in grind (arith, nat_tests)) in
    and_from (nat_lt low (privileges.code_of privilege)) (is_rising (privileges.code_of privilege) used) over both.1

below : (low high : ℕ) → nat_lt low high ≡ true → low ≤ high
below low high less = grind (arith, nat_tests)

rising_at : (low : ℕ) (privilege : Privilege) (used : List Privilege) (b : Bool) → nat_lt low (privileges.code_of privilege) ≡ true → is_rising (privileges.code_of privilege) used ≡ true
    → is_rising low (cond b (privilege ∷ used) used) ≡ true
rising_at low privilege used true over rising = and_from (nat_lt low (privileges.code_of privilege)) (is_rising (privileges.code_of privilege) used) over rising
rising_at low privilege used false over rising = lower low (privileges.code_of privilege) used (below low (privileges.code_of privilege) over) rising

rising_kept : (test : Privilege → Bool) (low : ℕ) (used : List Privilege) → is_rising low used ≡ true → is_rising low (filter test used) ≡ true
rising_kept test low [] rising = refl
rising_kept test low (privilege ∷ used) rising =
    let both = and_parts (nat_lt low (privileges.code_of privilege)) (is_rising (privileges.code_of privilege) used) rising in
    rising_at low privilege (filter test used) (test privilege) both.0 (rising_kept test (privileges.code_of privilege) used both.1)

fewer_at : {X : Type 0} (x : X) (some xs : List X) (b : Bool) → length some ≤ length xs → length (cond b (x ∷ some) some) ≤ length (x ∷ xs)
fewer_at x some xs true few = omega arith
fewer_at x some xs false few = omega arith

-- a filter keeps no more than there are
pub fewer : {X : Type 0} (test : X → Bool) (xs : List X) → length (filter test xs) ≤ length xs
fewer test [] = omega arith
fewer test (x ∷ xs) = fewer_at x (filter test xs) xs (test x) (fewer test xs)

any_privileges : (used : List Privilege) → AllByRecursion parts.privilege.IsSpellable used
unfolding parts.privilege
any_privileges [] = tt
any_privileges (privilege ∷ used) = (tt, any_privileges used)

-- privileges in the order of their numbers
pub used_told : (used : List Privilege) → privileges_in_order.IsSpellable (in_code_order used)
unfolding privileges_in_order
used_told used =
    let test : Privilege → Bool = λ privilege. list_any (same_privilege privilege) used in
    let few = fewer test each_privilege in
    ((omega arith, any_privileges (in_code_order used)), rising_kept test 0 each_privilege refl)

pub none_told : privileges_in_order.IsSpellable []
unfolding privileges_in_order
none_told = ((omega arith, tt), refl)
