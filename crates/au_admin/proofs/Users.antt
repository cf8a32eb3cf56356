-- Whom AUDIT and NOAUDIT name: where all users that stand in an enablement and all that the statement names pass a test, all
-- that stand in the enablement that is made do.
use Rattle.std.proofs.Common.{◌≡◌, ◌∙◌, ℕ, Bool, true, false, not, cond, if◌then◌else◌, List, [], ◌∷◌, Option, Some, None, Result, Ok, Err, filter, find, map, refl, ap, ap₂}
use Rattle.std.specs.Prelude.{IsTrue, ⊤}
use Rattle.std.specs.List.{AllByRecursion, list_all}
use Rattle.std.specs.Str.{bytes_eq}
use Rattle.std.proofs.lemmas.Bool.{and_from, and_parts}
use Rattle.std.proofs.lemmas.List.{map-append}
use Rattle.std.proofs.lemmas.List.Folds.{list_all-append}
use Rattle.au_admin.specs.Enabling.{users_of}
use Rattle.au_admin.proofs.Members.{all_kept}
use Rattle.au_base.specs.declared.code.Code.{Code}
use Rattle.au_entries.specs.declared.policy.Enabled.{Enabled}
use Rattle.au_entries.specs.declared.policy.Enabled.TheVariants.{Off, By, Except}
use Rattle.au_entries.specs.declared.policy.Outcomes.{Outcomes}
use Rattle.au_entries.specs.Demand.{enablement_found, enablement_of}
use Rattle.au_entries.specs.Enabling.{audit_made, each_once, for_users, is_among, is_listed, newly_listed, noaudit_made, outcomes_named, widened, with_outcomes, with_users, without_users}
use Rattle.au_entries.specs.Replaying.{named_users}
use Rattle.sql_ast.specs.declared.administration.AuditedUsers.{AuditedUsers}
use Rattle.sql_ast.specs.declared.administration.AuditedUsers.TheVariants as named
use Rattle.sql_ast.specs.declared.administration.Whenever.{Whenever}

abbrev pub Listed : Type 0
Listed = List ℕ × Outcomes

abbrev pub firsts : List Listed → List (List ℕ)
firsts listed = map (λ entry. entry.0) listed

-- where an enablement is made, all whom it names pass
abbrev pub AllNamed : (List ℕ → Bool) → Result Enabled Code → Type 0
AllNamed test (Ok made) = list_all test (named_users made) ≡ true
AllNamed test (Err code) = ⊤

pub all_once : (test : List ℕ → Bool) (names : List (List ℕ)) → list_all test names ≡ true → list_all test (each_once names) ≡ true
all_once test [] all = refl
all_once test (name ∷ names) all =
    let parts = and_parts (test name) (list_all test names) all in
    let rest : List (List ℕ) = filter (λ other. not (bytes_eq other name)) (each_once names) in
    and_from (test name) (list_all test rest) parts.0 (all_kept test (λ other. not (bytes_eq other name)) (each_once names) (all_once test names parts.1))

first_if : (b : Bool) (a other : Listed) → a.0 ≡ other.0 → (if b then a else other).0 ≡ other.0
first_if true a other same = same
first_if false a other same = refl

pub firsts_widened : (users : List (List ℕ)) (outcomes : Outcomes) (listed : List Listed) → firsts (map (widened users outcomes) listed) ≡ firsts listed
firsts_widened users outcomes [] = refl
firsts_widened users outcomes (entry ∷ listed) =
    ap₂ (λ (first : List ℕ) (rest : List (List ℕ)). first ∷ rest)
    (first_if (is_among users entry.0) (entry.0, with_outcomes outcomes entry.1) entry refl) (firsts_widened users outcomes listed)

pub firsts_new : (outcomes : Outcomes) (names : List (List ℕ)) → firsts (map (λ user. (user, outcomes)) names) ≡ names
firsts_new outcomes [] = refl
firsts_new outcomes (name ∷ names) = ap (λ (rest : List (List ℕ)). name ∷ rest) (firsts_new outcomes names)

pub named_for : (listed : List Listed) → named_users (for_users listed) ≡ firsts listed
named_for [] = refl
named_for (entry ∷ listed) = refl

all_for : (test : List ℕ → Bool) (listed : List Listed) → list_all test (firsts listed) ≡ true → list_all test (named_users (for_users listed)) ≡ true
all_for test listed all = ap (list_all test) (named_for listed) ∙ all

pub all_with : (test : List ℕ → Bool) (users : List (List ℕ)) (outcomes : Outcomes) (listed : List Listed) → list_all test users ≡ true → list_all test (firsts listed) ≡ true
    → list_all test (firsts (with_users users outcomes listed)) ≡ true
all_with test users outcomes listed named stand =
    let wider : List Listed = map (widened users outcomes) listed in
    let news : List (List ℕ) = newly_listed listed users in
    let more : List Listed = map (λ user. (user, outcomes)) news in
    ap (list_all test) (map-append (λ (entry : Listed). entry.0) wider more) ∙ list_all-append test (firsts wider) (firsts more)
    ∙ and_from (list_all test (firsts wider)) (list_all test (firsts more))
    (ap (list_all test) (firsts_widened users outcomes listed) ∙ stand)
    (ap (list_all test) (firsts_new outcomes news) ∙ all_kept test (λ user. not (is_listed listed user)) (each_once users) (all_once test users named))

pub audit_names : (test : List ℕ → Bool) (users : Option AuditedUsers) (whenever : Option Whenever) (standing : Enabled) → list_all test (users_of users) ≡ true
    → list_all test (named_users standing) ≡ true → AllNamed test (audit_made users whenever standing)
audit_names test None whenever Off named stand = refl
audit_names test None whenever (By listed) named stand = tt
audit_names test None whenever (Except excepted outcomes) named stand = refl
audit_names test (Some (named.Except users)) whenever Off named stand = all_once test users named
audit_names test (Some (named.Except users)) whenever (By listed) named stand = tt
audit_names test (Some (named.Except users)) whenever (Except excepted outcomes) named stand = all_once test users named
audit_names test (Some (named.By users)) whenever Off named stand =
    all_for test (with_users users (outcomes_named whenever) []) (all_with test users (outcomes_named whenever) [] named refl)
audit_names test (Some (named.By users)) whenever (By listed) named stand =
    all_for test (with_users users (outcomes_named whenever) listed) (all_with test users (outcomes_named whenever) listed named stand)
audit_names test (Some (named.By users)) whenever (Except excepted outcomes) named stand = tt

left_at : (test : List ℕ → Bool) (entry : Listed) (left : List Listed) (b : Bool) → test entry.0 ≡ true → list_all test (firsts left) ≡ true → list_all test (firsts (cond b (entry ∷ left) left)) ≡ true
left_at test entry left true is all = and_from (test entry.0) (list_all test (firsts left)) is all
left_at test entry left false is all = all

all_left : (test : List ℕ → Bool) (users : List (List ℕ)) (listed : List Listed) → list_all test (firsts listed) ≡ true → list_all test (firsts (without_users users listed)) ≡ true
all_left test users [] all = refl
all_left test users (entry ∷ listed) all =
    let parts = and_parts (test entry.0) (list_all test (firsts listed)) all in
    left_at test entry (without_users users listed) (not (is_among users entry.0)) parts.0 (all_left test users listed parts.1)

pub noaudit_names : (test : List ℕ → Bool) (users : Option (List (List ℕ))) (standing : Enabled) → list_all test (named_users standing) ≡ true → AllNamed test (noaudit_made users standing)
noaudit_names test None Off stand = tt
noaudit_names test None (By listed) stand = tt
noaudit_names test None (Except excepted outcomes) stand = refl
noaudit_names test (Some users) Off stand = tt
noaudit_names test (Some users) (By listed) stand = all_for test (without_users users listed) (all_left test users listed stand)
noaudit_names test (Some users) (Except excepted outcomes) stand = tt

-- ---- the enablement that stands

stands_at : (test : List ℕ → Bool) (entry : List ℕ × Enabled) (later : Option (List ℕ × Enabled)) (b : Bool) → list_all test (named_users entry.1) ≡ true
    → list_all test (named_users (enablement_found later)) ≡ true → list_all test (named_users (enablement_found (cond b (Some entry) later))) ≡ true
stands_at test entry later true is more = is
stands_at test entry later false is more = more

pub standing_names : (test there : List ℕ → Bool) (enabled : List (List ℕ × Enabled)) (name : List ℕ)
    → AllByRecursion (λ entry. IsTrue (there entry.0) × IsTrue (list_all test (named_users entry.1))) enabled → list_all test (named_users (enablement_of enabled name)) ≡ true
standing_names test there [] name all = refl
standing_names test there (entry ∷ enabled) name all =
    stands_at test entry (find (λ (other : List ℕ × Enabled). bytes_eq other.0 name) enabled) (bytes_eq entry.0 name) all.0.1 (standing_names test there enabled name all.1)
