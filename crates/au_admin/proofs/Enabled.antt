-- What AUDIT and NOAUDIT make of an enablement that can be written can be written.
use Rattle.std.proofs.Common.{◌≡◌, ◌==◌, ◌∙◌, ◌<◌, ◌≤◌, ℕ, suc, Bool, true, false, not, ◌||◌, cond, inl, inr, List, [], ◌∷◌, ◌++◌, Option, Some, None, Result, Ok, Err, filter, find, length, map, refl, sym, ap, subst, arith}
use Rattle.std.specs.Prelude.{⊤, if◌then◌else◌, nat_le}
use Rattle.std.specs.Cmp.Lexicographic.{nat_list_eq_equiv}
use Rattle.std.specs.List.{AllByRecursion, IsDistinct, list_all, list_any}
use Rattle.std.specs.Set.{distinct_count}
use Rattle.std.specs.Str.{bytes_eq}
use Rattle.std.proofs.lemmas.Bool.{and_from, and_parts, or_cases, or_parts}
use Rattle.std.proofs.lemmas.Bool.Decides.{nat_tests}
use Rattle.std.proofs.lemmas.List.{map-append}
use Rattle.std.proofs.lemmas.Map.Made.{IsDistinct-from_count, length-le_from_is_member}
use Rattle.std.proofs.lemmas.Slice.Eq.{bytes_eq-Decides}
use Rattle.au_admin.specs.Enabling.{enabling, users_of}
use Rattle.au_admin.proofs.Users.{Listed, all_once, all_with, firsts, firsts_new, firsts_widened}
use Rattle.au_base.specs.Limits.{CATALOG_OBJECTS}
use Rattle.au_base.specs.Naming.{IsName}
use Rattle.au_base.specs.declared.code.Code.{Code}
use Rattle.au_calls.specs.Once.{once}
use Rattle.au_admin.proofs.Apart.{all_kept, all_passed, distinct_kept, filter_fewer, no_repeats, once_distinct}
use Rattle.au_admin.proofs.Apart as apart
use Rattle.au_admin.proofs.SpelledNames.{name_spelled, names_spelled}
use Rattle.au_entries.specs.declared.kept.Kept.{Kept}
use Rattle.au_entries.specs.declared.policy.Enabled.{Enabled}
use Rattle.au_entries.specs.declared.policy.Enabled.TheVariants.{Off, By, Except}
use Rattle.au_entries.specs.declared.policy.Outcomes.{Outcomes}
use Rattle.au_entries.specs.Demand.{enablement_found, enablement_of}
use Rattle.au_entries.specs.Enabling.{audit_made, each_once, for_users, is_among, is_listed, newly_listed, noaudit_made, outcomes_named, widened, with_outcomes, with_users, without_users}
use Rattle.au_entries.specs.Imaging.{enablement_change}
use Rattle.au_entries.specs.Replaying.{has_user, named_users}
use Rattle.rec_codec.specs.Changes.{IsChangeSpellable, IsEnabledSpellable, enabled, enablement, users}
use Rattle.rec_parts.specs.Parts.{name, names, outcomes}
use Rattle.rec_parts.specs.Spelling.{is_without_repeats}
use Rattle.sql_ast.specs.declared.administration.AuditedUsers.{AuditedUsers}
use Rattle.sql_ast.specs.declared.administration.AuditedUsers.TheVariants as named
use Rattle.sql_ast.specs.declared.administration.Whenever.{Whenever}
use Rattle.sql_ast.specs.declared.administration.Whenever.TheVariants.{Successful, NotSuccessful}

-- ---- names that count once

once_is : (list : List (List ℕ)) → once bytes_eq list ≡ each_once list
once_is [] = refl
once_is (one ∷ list) = ap (λ (rest : List (List ℕ)). one ∷ filter (λ other. not (bytes_eq other one)) rest) (once_is list)

each_apart : (list : List (List ℕ)) → IsDistinct bytes_eq (each_once list)
each_apart list = subst (λ (l : List (List ℕ)). IsDistinct bytes_eq l) (once_is list) (once_distinct bytes_eq nat_list_eq_equiv.symm list)

each_named : (list : List (List ℕ)) → AllByRecursion IsName list → AllByRecursion IsName (each_once list)
each_named list all = subst (λ (l : List (List ℕ)). AllByRecursion IsName l) (once_is list) (apart.all_once IsName bytes_eq list all)

-- ---- users that differ are no more than there are

same_any : (b c later same : Bool) → b ≡ c → later ≡ same → (b || later) ≡ (c || same)
same_any b c later same is are = ap (λ (t : Bool). t || later) is ∙ ap (λ (t : Bool). c || t) are

user_named : (there : List (List ℕ × List ℕ)) (who : List ℕ) → list_any (λ user. bytes_eq user.0 who) there ≡ list_any (bytes_eq who) (map (λ user. user.0) there)
user_named [] who = refl
user_named (user ∷ there) who =
    same_any (bytes_eq user.0 who) (bytes_eq who user.0) (list_any (λ other. bytes_eq other.0 who) there) (list_any (bytes_eq who) (map (λ other. other.0) there)) (nat_list_eq_equiv.symm user.0 who) (user_named there who)

passes : (test : List ℕ → Bool) (list : List (List ℕ)) (who : List ℕ) → list_all test list ≡ true → list_any (bytes_eq who) list ≡ true → test who ≡ true
passes test [] who all has = absurd (let e : false ≡ true = has in cc)
passes test (one ∷ list) who all has =
    let parts = and_parts (test one) (list_all test list) all in
    elim (or_cases (bytes_eq who one) (list_any (bytes_eq who) list) has) [
      | inl is ↦ ap test ((bytes_eq-Decides who one).0 is) ∙ parts.0
      | inr later ↦ passes test list who parts.1 later
    ]

firsts_long : {X : Type 0} (list : List (List ℕ × X)) → length (map (λ entry. entry.0) list) ≡ length list
firsts_long [] = refl
firsts_long (entry ∷ list) = ap suc (firsts_long list)

users_few : (kept : Kept) (list : List (List ℕ)) → length kept.users ≤ CATALOG_OBJECTS → IsDistinct bytes_eq list → list_all (has_user kept) list ≡ true → length list < 65_536
users_few kept list few differ all =
    let within = length-le_from_is_member nat_list_eq_equiv list (map (λ (user : List ℕ × List ℕ). user.0) kept.users) differ
    (λ who has. sym (user_named kept.users who) ∙ passes (has_user kept) list who all has) in
    let long = firsts_long kept.users in
    omega (arith, few, within, long)

-- ---- outcomes

named_outcomes : (whenever : Option Whenever) → outcomes.IsSpellable (outcomes_named whenever)
unfolding outcomes
named_outcomes None = refl
named_outcomes (Some Successful) = refl
named_outcomes (Some NotSuccessful) = refl

or_wider : (p q r s : Bool) → (q || s) ≡ true → ((p || q) || (r || s)) ≡ true
or_wider true q r s is = refl
or_wider false true r s is = refl
or_wider false false true s is = refl
or_wider false false false s is = is

wider_outcomes : (added standing : Outcomes) → outcomes.IsSpellable added → outcomes.IsSpellable (with_outcomes added standing)
unfolding outcomes
wider_outcomes added standing is = or_wider standing.success added.success standing.failure added.failure is

-- ---- listed users

-- a listed user has a spelling
abbrev IsListedSpelled : Listed → Type 0
IsListedSpelled entry = name.IsSpellable entry.0 × outcomes.IsSpellable entry.1

at_least_one : (entry : Listed) (listed : List Listed) → nat_le 1 (length (entry ∷ listed)) ≡ true
at_least_one entry listed = grind (arith, nat_tests)

for_spelled : (listed : List Listed) → length (firsts listed) < 65_536 → AllByRecursion IsListedSpelled listed → IsDistinct bytes_eq (firsts listed) → IsEnabledSpellable (for_users listed)
unfolding users
for_spelled [] few each differ = tt
for_spelled (entry ∷ listed) few each differ =
    let long = firsts_long (entry ∷ listed) in
    ((omega (arith, few, long), each), and_from (nat_le 1 (length (entry ∷ listed))) _ (at_least_one entry listed) (no_repeats bytes_eq nat_list_eq_equiv (firsts (entry ∷ listed)) differ))

widened_at : (added : Outcomes) (entry : Listed) (b : Bool) → outcomes.IsSpellable added → IsListedSpelled entry → IsListedSpelled (if b then (entry.0, with_outcomes added entry.1) else entry)
widened_at added entry true is each = (each.0, wider_outcomes added entry.1 is)
widened_at added entry false is each = each

widened_spelled : (who : List (List ℕ)) (added : Outcomes) (listed : List Listed) → outcomes.IsSpellable added → AllByRecursion IsListedSpelled listed → AllByRecursion IsListedSpelled (map (widened who added) listed)
widened_spelled who added [] is each = tt
widened_spelled who added (entry ∷ listed) is each = (widened_at added entry (is_among who entry.0) is each.0, widened_spelled who added listed is each.1)

newly_spelled : (added : Outcomes) (list : List (List ℕ)) → outcomes.IsSpellable added → AllByRecursion IsName list → AllByRecursion IsListedSpelled (map (λ user. (user, added)) list)
newly_spelled added [] is all = tt
newly_spelled added (one ∷ list) is all = ((name_spelled one all.0, is), newly_spelled added list is all.1)

all_joined : {X : Type 0} (P : X → Type 0) (xs ys : List X) → AllByRecursion P xs → AllByRecursion P ys → AllByRecursion P (xs ++ ys)
all_joined P [] ys one two = two
all_joined P (x ∷ xs) ys one two = (one.0, all_joined P xs ys one.1 two)

all_weaker : {X : Type 0} (P Q : X → Type 0) → ((x : X) → P x → Q x) → (xs : List X) → AllByRecursion P xs → AllByRecursion Q xs
all_weaker P Q weaker [] all = tt
all_weaker P Q weaker (x ∷ xs) all = (weaker x all.0, all_weaker P Q weaker xs all.1)

-- names that aren't listed stand apart behind those that are
joined_apart : (listed : List Listed) (list : List (List ℕ)) → IsDistinct bytes_eq (firsts listed) → IsDistinct bytes_eq list → AllByRecursion (λ one. is_listed listed one ≡ false) list
    → IsDistinct bytes_eq (firsts listed ++ list)
unfolding IsDistinct
joined_apart [] list differ others new = others
joined_apart (entry ∷ listed) list differ others new = (
  all_joined (λ other. bytes_eq entry.0 other ≡ false) (firsts listed) list differ.0
      (all_weaker (λ one. is_listed (entry ∷ listed) one ≡ false) (λ other. bytes_eq entry.0 other ≡ false)
      (λ other no. nat_list_eq_equiv.symm entry.0 other ∙ (or_parts (bytes_eq other entry.0) (is_listed listed other) no).0) list new),
  joined_apart listed list differ.1 others
      (all_weaker (λ one. is_listed (entry ∷ listed) one ≡ false) (λ one. is_listed listed one ≡ false) (λ one no. (or_parts (bytes_eq one entry.0) (is_listed listed one) no).1) list new),
)

false_of_not : (b : Bool) → not b ≡ true → b ≡ false
false_of_not false is = refl
false_of_not true is = absurd (let e : false ≡ true = is in cc)

-- where an enablement is made, it has a spelling
abbrev pub IsMadeSpelled : Result Enabled Code → Type 0
IsMadeSpelled (Ok made) = IsEnabledSpellable made
IsMadeSpelled (Err code) = ⊤

number_same : (m n : ℕ) → (m == n) ≡ true → m ≡ n
number_same m n same = grind (arith, nat_tests)

-- listed users that have a spelling stand apart, and each has one
listed_apart : (listed : List Listed) → IsEnabledSpellable (By listed) → AllByRecursion IsListedSpelled listed × IsDistinct bytes_eq (firsts listed)
unfolding users
listed_apart listed is =
    let tests = and_parts (nat_le 1 (length listed)) (is_without_repeats bytes_eq (firsts listed)) is.1 in
    (is.0.1, IsDistinct-from_count nat_list_eq_equiv (firsts listed) (number_same (distinct_count bytes_eq (firsts listed)) (length (firsts listed)) tests.1))

no_names : names.IsSpellable []
unfolding names
no_names = ((omega arith, tt), refl)

nobody : IsDistinct bytes_eq (firsts [])
unfolding IsDistinct
nobody = tt

module _ (kept : Kept) (few : length kept.users ≤ CATALOG_OBJECTS) where
  with_spelled : (who : List (List ℕ)) (added : Outcomes) (listed : List Listed) → outcomes.IsSpellable added → AllByRecursion IsName who → list_all (has_user kept) who ≡ true
      → AllByRecursion IsListedSpelled listed → IsDistinct bytes_eq (firsts listed) → list_all (has_user kept) (firsts listed) ≡ true → IsEnabledSpellable (for_users (with_users who added listed))
  with_spelled who added listed is named there each differ stand =
      let wider : List Listed = map (widened who added) listed in
      let news : List (List ℕ) = newly_listed listed who in
      let more : List Listed = map (λ user. (user, added)) news in
      let new : AllByRecursion (λ one. is_listed listed one ≡ false) news =
      all_passed (λ one. is_listed listed one ≡ false) (λ user. not (is_listed listed user)) (λ one isnt. false_of_not (is_listed listed one) isnt) (each_once who) in
      let firsts_are : firsts (with_users who added listed) ≡ firsts listed ++ news =
      map-append (λ (entry : Listed). entry.0) wider more ∙ ap (λ (l : List (List ℕ)). l ++ firsts more) (firsts_widened who added listed) ∙ ap (λ (l : List (List ℕ)). firsts listed ++ l) (firsts_new added news) in
      let differs : IsDistinct bytes_eq (firsts (with_users who added listed)) =
      subst (λ (l : List (List ℕ)). IsDistinct bytes_eq l) (sym firsts_are)
      (joined_apart listed news differ (distinct_kept bytes_eq (λ user. not (is_listed listed user)) (each_once who) (each_apart who)) new) in
      for_spelled (with_users who added listed) (users_few kept (firsts (with_users who added listed)) few differs (all_with (has_user kept) who added listed there stand))
      (all_joined IsListedSpelled wider more (widened_spelled who added listed is each)
      (newly_spelled added news is (all_kept IsName (λ user. not (is_listed listed user)) (each_once who) (each_named who named)))) differs

  excepted : (who : List (List ℕ)) → AllByRecursion IsName who → list_all (has_user kept) who ≡ true → names.IsSpellable (each_once who)
  excepted who named there = names_spelled (each_once who) (users_few kept (each_once who) few (each_apart who) (all_once (has_user kept) who there)) (each_named who named) (each_apart who)

  pub audit_spelled : (who : Option AuditedUsers) (whenever : Option Whenever) (standing : Enabled) → IsEnabledSpellable standing → AllByRecursion IsName (users_of who) → list_all (has_user kept) (users_of who) ≡ true
      → list_all (has_user kept) (named_users standing) ≡ true → IsMadeSpelled (audit_made who whenever standing)
  audit_spelled None whenever Off is named there stand = (named_outcomes whenever, no_names)
  audit_spelled None whenever (By listed) is named there stand = tt
  audit_spelled None whenever (Except others standing) is named there stand = (wider_outcomes (outcomes_named whenever) standing (named_outcomes whenever), no_names)
  audit_spelled (Some (named.Except who)) whenever Off is named there stand = (named_outcomes whenever, excepted who named there)
  audit_spelled (Some (named.Except who)) whenever (By listed) is named there stand = tt
  audit_spelled (Some (named.Except who)) whenever (Except others standing) is named there stand = (wider_outcomes (outcomes_named whenever) standing (named_outcomes whenever), excepted who named there)
  audit_spelled (Some (named.By who)) whenever Off is named there stand = with_spelled who (outcomes_named whenever) [] (named_outcomes whenever) named there tt nobody refl
  audit_spelled (Some (named.By who)) whenever (By listed) is named there stand =
      let parts = listed_apart listed is in
      with_spelled who (outcomes_named whenever) listed (named_outcomes whenever) named there parts.0 parts.1 stand
  audit_spelled (Some (named.By who)) whenever (Except others standing) is named there stand = tt

-- ---- NOAUDIT

firsts_kept_at : (entry : Listed) (left : List Listed) (b : Bool) → AllByRecursion (λ other. bytes_eq entry.0 other ≡ false) (firsts left) → IsDistinct bytes_eq (firsts left) → IsDistinct bytes_eq (firsts (cond b (entry ∷ left) left))
unfolding IsDistinct
firsts_kept_at entry left true first more = (first, more)
firsts_kept_at entry left false first more = more

others_at : (P : List ℕ → Type 0) (entry : Listed) (left : List Listed) (b : Bool) → P entry.0 → AllByRecursion P (firsts left) → AllByRecursion P (firsts (cond b (entry ∷ left) left))
others_at P entry left true here more = (here, more)
others_at P entry left false here more = more

others_kept : (P : List ℕ → Type 0) (test : Listed → Bool) (listed : List Listed) → AllByRecursion P (firsts listed) → AllByRecursion P (firsts (filter test listed))
others_kept P test [] all = tt
others_kept P test (entry ∷ listed) all = others_at P entry (filter test listed) (test entry) all.0 (others_kept P test listed all.1)

firsts_kept : (test : Listed → Bool) (listed : List Listed) → IsDistinct bytes_eq (firsts listed) → IsDistinct bytes_eq (firsts (filter test listed))
unfolding IsDistinct
firsts_kept test [] differ = tt
firsts_kept test (entry ∷ listed) differ =
    firsts_kept_at entry (filter test listed) (test entry) (others_kept (λ other. bytes_eq entry.0 other ≡ false) test listed differ.0) (firsts_kept test listed differ.1)

listed_few : (listed : List Listed) → IsEnabledSpellable (By listed) → length listed < 65_536
unfolding users
listed_few listed is = let count = is.0.0 in omega (arith, count)

without_spelled : (who : List (List ℕ)) (listed : List Listed) → IsEnabledSpellable (By listed) → IsEnabledSpellable (for_users (without_users who listed))
without_spelled who listed is =
    let parts = listed_apart listed is in
    let test : Listed → Bool = λ entry. not (is_among who entry.0) in
    let fewer = filter_fewer test listed in
    let count = listed_few listed is in
    let long = firsts_long (filter test listed) in
    for_spelled (without_users who listed) (omega (arith, fewer, count, long)) (all_kept IsListedSpelled test listed parts.0) (firsts_kept test listed parts.1)

pub noaudit_spelled : (who : Option (List (List ℕ))) (standing : Enabled) → IsEnabledSpellable standing → IsMadeSpelled (noaudit_made who standing)
noaudit_spelled None Off is = tt
noaudit_spelled None (By listed) is = tt
noaudit_spelled None (Except others standing) is = tt
noaudit_spelled (Some who) Off is = tt
noaudit_spelled (Some who) (By listed) is = without_spelled who listed is
noaudit_spelled (Some who) (Except others standing) is = tt

-- ---- the enablement that stands, and the one that is made

standing_at : (entry : List ℕ × Enabled) (later : Option (List ℕ × Enabled)) (b : Bool) → IsEnabledSpellable entry.1 → IsEnabledSpellable (enablement_found later) → IsEnabledSpellable (enablement_found (cond b (Some entry) later))
standing_at entry later true here more = here
standing_at entry later false here more = more

pub standing_spelled : (list : List (List ℕ × Enabled)) (policy : List ℕ) → AllByRecursion IsChangeSpellable (map enablement_change list) → IsEnabledSpellable (enablement_of list policy)
unfolding enablement enabled
standing_spelled [] policy all = tt
standing_spelled (entry ∷ list) policy all =
    standing_at entry (find (λ (other : List ℕ × Enabled). bytes_eq other.0 policy) list) (bytes_eq entry.0 policy) all.0.1 (standing_spelled list policy all.1)

enable_spelled : (policy : List ℕ) (made : Enabled) → IsName policy → IsEnabledSpellable made → enablement.IsSpellable (policy, made)
unfolding enablement enabled
enable_spelled policy made is spelled = (name_spelled policy is, spelled)

pub enabling_spelled : (policy : List ℕ) (same : Bool) (made : Result Enabled Code) → IsName policy → IsMadeSpelled made
    → AllByRecursion IsChangeSpellable (enabling same policy made)
enabling_spelled policy true (Ok made) is spelled = tt
enabling_spelled policy false (Ok made) is spelled = (enable_spelled policy made is spelled, tt)
enabling_spelled policy same (Err code) is spelled = tt
