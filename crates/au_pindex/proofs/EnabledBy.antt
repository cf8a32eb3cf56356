-- What enablements are found after one changes, or a user is gone.
use Rattle.std.proofs.Common.{◌≡◌, ◌∙◌, refl, sym, ap, subst, ℕ, Bool, true, false, not, cond, ◌||◌, ◌&&◌, List, [], ◌∷◌, ◌++◌, map}
use Rattle.std.proofs.lemmas.Bool.{and_parts}
use Rattle.std.proofs.lemmas.Map.Text.{is_eq-slice_cmp}
use Rattle.std.specs.Cmp.Lexicographic.{bytes_decides}
use Rattle.std.specs.List.{filter, list_all, list_any}
use Rattle.std.specs.Ordering.{is_eq, is_gt, is_lt}
use Rattle.std.specs.Prelude.{Option, Some, None, find}
use Rattle.std.specs.Str.{bytes_eq}
use Rattle.std.specs.declared.cmp.Ordering.{Ordering}
use Rattle.std.specs.declared.cmp.Ordering.TheVariants.{Less, Equal, Greater}
use Rattle.au_base.specs.Order.{is_in_order, name_before}
use Rattle.au_base.specs.OrderLaws.{names_irreflexive}
use Rattle.au_entries.specs.declared.change.Change.TheVariants as change
use Rattle.au_entries.specs.declared.policy.Enabled.{Enabled}
use Rattle.au_entries.specs.declared.policy.Enabled.TheVariants.{Off, By, Except}
use Rattle.au_entries.specs.declared.policy.Outcomes.{Outcomes}
use Rattle.au_entries.specs.Changing.{by_name, enabled_after, for_users, is_on, put_in_order, with_enablement, without_user}
use Rattle.au_entries.specs.Demand.{enablement_found, enablement_of}
use Rattle.au_grants.specs.Changing.{without}
use Rattle.au_pindex.specs.descent.Edits.{is_left_by}
use Rattle.au_pindex.proofs.Found.{behind_other}

abbrev Entry : Type 0
Entry = List ℕ × Enabled

abbrev has_name : List ℕ → Entry → Bool
has_name name entry = bytes_eq entry.0 name

pub same_turned : (a b : List ℕ) → bytes_eq a b ≡ bytes_eq b a
same_turned a b = in_case (bytes_eq a b) (bytes_eq b a) refl refl
  where
    in_case : (s t : Bool) → bytes_eq a b ≡ s → bytes_eq b a ≡ t → s ≡ t
    in_case true true one other = refl
    in_case true false one other = (let same : a ≡ b = (bytes_decides a b).0 one in sym ((bytes_decides b a).1 (sym same)) ∙ other)
    in_case false true one other = (let same : b ≡ a = (bytes_decides b a).0 other in sym one ∙ (bytes_decides a b).1 (sym same))
    in_case false false one other = refl

cond_same : {X : Type 0} (b : Bool) (x : X) → cond b x x ≡ x
cond_same true x = refl
cond_same false x = refl

-- ---- what is found among the entries that a filter keeps

found_kept : (name : List ℕ) (test : Entry → Bool) (b : Bool) (xs : List Entry) → ((x : Entry) → x.0 ≡ name → test x ≡ b) → find (has_name name) (filter test xs) ≡ cond b (find (has_name name) xs) None
found_kept name test b [] alike = sym (cond_same b None)
found_kept name test b (x ∷ xs) alike = in_case (has_name name x) refl (found_kept name test b xs alike)
  where
    skipped : (c : Bool) → has_name name x ≡ false → find (has_name name) (cond c (x ∷ filter test xs) (filter test xs)) ≡ find (has_name name) (filter test xs)
    skipped true other = ap (λ t. cond t (Some x) (find (has_name name) (filter test xs))) other
    skipped false other = refl

    kept_here : (c : Bool) → has_name name x ≡ true → find (has_name name) (filter test xs) ≡ cond c (find (has_name name) xs) None
        → find (has_name name) (cond c (x ∷ filter test xs) (filter test xs)) ≡ cond c (Some x) None
    kept_here true same rest = ap (λ t. cond t (Some x) (find (has_name name) (filter test xs))) same
    kept_here false same rest = rest

    in_case : (t : Bool) → has_name name x ≡ t → find (has_name name) (filter test xs) ≡ cond b (find (has_name name) xs) None
        → find (has_name name) (cond (test x) (x ∷ filter test xs) (filter test xs)) ≡ cond b (cond (has_name name x) (Some x) (find (has_name name) xs)) None
    in_case true is rest =
        let said = alike x ((bytes_decides x.0 name).0 is) in
        ap (λ c. find (has_name name) (cond c (x ∷ filter test xs) (filter test xs))) said ∙ kept_here b is rest
        ∙ sym (ap (λ t. cond b (cond t (Some x) (find (has_name name) xs)) None) is)
    in_case false is rest = skipped (test x) is ∙ rest ∙ sym (ap (λ t. cond b (cond t (Some x) (find (has_name name) xs)) None) is)

abbrev or_else : {X : Type 0} → Option X → Option X → Option X
or_else None o = o
or_else (Some x) o = Some x

found_joined : (test : Entry → Bool) (xs ys : List Entry) → find test (xs ++ ys) ≡ or_else (find test xs) (find test ys)
found_joined test [] ys = refl
found_joined test (x ∷ xs) ys = in_case (test x) (found_joined test xs ys)
  where
    in_case : (t : Bool) → find test (xs ++ ys) ≡ or_else (find test xs) (find test ys) → cond t (Some x) (find test (xs ++ ys)) ≡ or_else (cond t (Some x) (find test xs)) (find test ys)
    in_case true rest = refl
    in_case false rest = rest

or_else_none : {X : Type 0} (o : Option X) → or_else o None ≡ o
or_else_none None = refl
or_else_none (Some x) = refl

-- ---- one enablement that changes

one_side : (F : Option Entry) (o : Ordering) → is_eq o ≡ false → or_else (cond (is_lt o) F None) (cond (is_gt o) F None) ≡ F
one_side F Less other = or_else_none F
one_side F Equal other = absurd (let e : true ≡ false = other in cc)
one_side F Greater other = refl

pub put_found : (name policy : List ℕ) (enabled : Enabled) (xs : List Entry)
    → find (has_name name) (put_in_order (λ entry. by_name entry.0 policy) (policy, enabled) xs) ≡ cond (bytes_eq policy name) (Some (policy, enabled)) (find (has_name name) xs)
put_found name policy enabled xs =
    found_joined (has_name name) (filter (λ (entry : Entry). is_lt (by_name entry.0 policy)) xs) ((policy, enabled) ∷ filter (λ (entry : Entry). is_gt (by_name entry.0 policy)) xs)
    ∙ ap (λ o. or_else o (cond (bytes_eq policy name) (Some (policy, enabled)) (find (has_name name) (filter (λ (entry : Entry). is_gt (by_name entry.0 policy)) xs))))
    (found_kept name (λ (entry : Entry). is_lt (by_name entry.0 policy)) (is_lt (by_name name policy)) xs (λ x is. ap (λ n. is_lt (by_name n policy)) is))
    ∙ ap (λ o. or_else (cond (is_lt (by_name name policy)) (find (has_name name) xs) None) (cond (bytes_eq policy name) (Some (policy, enabled)) o))
    (found_kept name (λ (entry : Entry). is_gt (by_name entry.0 policy)) (is_gt (by_name name policy)) xs (λ x is. ap (λ n. is_gt (by_name n policy)) is))
    ∙ in_case (bytes_eq policy name) refl
  where
    in_case : (t : Bool) → bytes_eq policy name ≡ t
        → or_else (cond (is_lt (by_name name policy)) (find (has_name name) xs) None) (cond t (Some (policy, enabled)) (cond (is_gt (by_name name policy)) (find (has_name name) xs) None)) ≡ cond t (Some (policy, enabled)) (find (has_name name) xs)
    in_case true is =
        let same : policy ≡ name = (bytes_decides policy name).0 is in
        ap (λ b. or_else (cond b (find (has_name name) xs) None) (Some (policy, enabled))) (ap (λ n. is_lt (by_name name n)) same ∙ names_irreflexive name)
    in_case false is = one_side (find (has_name name) xs) (by_name name policy) (is_eq-slice_cmp name policy ∙ same_turned name policy ∙ is)

turned_cond : {X : Type 0} (t : Bool) (x y : X) → cond (not t) x y ≡ cond t y x
turned_cond true x y = refl
turned_cond false x y = refl

pub without_found : (name policy : List ℕ) (xs : List Entry) → find (has_name name) (without (λ (entry : Entry). bytes_eq entry.0 policy) xs) ≡ cond (bytes_eq policy name) None (find (has_name name) xs)
without_found name policy xs =
    found_kept name (λ (entry : Entry). not (bytes_eq entry.0 policy)) (not (bytes_eq name policy)) xs (λ x is. ap (λ n. not (bytes_eq n policy)) is)
    ∙ turned_cond (bytes_eq name policy) (find (has_name name) xs) None
    ∙ ap (λ t. cond t None (find (has_name name) xs)) (same_turned name policy)

-- whether the policy of a name is on, once one is enabled so
pub on_after : (name policy : List ℕ) (enabled : Enabled) (xs : List Entry)
    → is_on (enablement_of (with_enablement policy enabled xs) name) ≡ cond (bytes_eq policy name) (is_on enabled) (is_on (enablement_of xs name))
on_after name policy enabled xs = by_on (is_on enabled) refl
  where
    through : (t : Bool) (a b : Option Entry) → is_on (enablement_found (cond t a b)) ≡ cond t (is_on (enablement_found a)) (is_on (enablement_found b))
    through true a b = refl
    through false a b = refl

    by_on : (on : Bool) → is_on enabled ≡ on
        → is_on (enablement_of (cond on (put_in_order (λ (entry : Entry). by_name entry.0 policy) (policy, enabled) xs) (without (λ (entry : Entry). bytes_eq entry.0 policy) xs)) name)
        ≡ cond (bytes_eq policy name) on (is_on (enablement_of xs name))
    by_on true is =
        ap (λ o. is_on (enablement_found o)) (put_found name policy enabled xs) ∙ through (bytes_eq policy name) (Some (policy, enabled)) (find (has_name name) xs)
        ∙ ap (λ on. cond (bytes_eq policy name) on (is_on (enablement_of xs name))) is
    by_on false is = ap (λ o. is_on (enablement_found o)) (without_found name policy xs) ∙ through (bytes_eq policy name) None (find (has_name name) xs)

-- ---- a user who is gone

abbrev left_of : List ℕ → Entry → Entry
left_of user entry = (entry.0, without_user user entry.1)

-- the entries without the user, where they then are for somebody
abbrev left_on : List ℕ → List Entry → List Entry
left_on user xs = filter (λ (entry : Entry). is_on entry.1) (map (left_of user) xs)

none_behind : (first name user : List ℕ) (xs : List Entry) → first ≡ name → list_all (name_before first) (map (λ (entry : Entry). entry.0) xs) ≡ true
    → find (has_name name) (left_on user xs) ≡ None
none_behind first name user [] is all = refl
none_behind first name user (x ∷ xs) is all =
    let parts = and_parts (name_before first x.0) (list_all (name_before first) (map (λ (entry : Entry). entry.0) xs)) all in
    let other : bytes_eq x.0 name ≡ false = subst (λ n. bytes_eq x.0 n ≡ false) is (behind_other first x.0 parts.0) in
    skipped (is_on (without_user user x.1)) other ∙ none_behind first name user xs is parts.1
  where
    skipped : (c : Bool) → bytes_eq x.0 name ≡ false → find (has_name name) (cond c (left_of user x ∷ left_on user xs) (left_on user xs)) ≡ find (has_name name) (left_on user xs)
    skipped true other = ap (λ t. cond t (Some (left_of user x)) (find (has_name name) (left_on user xs))) other
    skipped false other = refl

-- whether the policy of a name is on, once the user is gone
pub on_without : (user name : List ℕ) (xs : List Entry) → is_in_order name_before (map (λ (entry : Entry). entry.0) xs) ≡ true
    → is_on (enablement_of (enabled_after (change.UserGone user) xs) name) ≡ is_on (without_user user (enablement_of xs name))
on_without user name [] ordered = refl
on_without user name (x ∷ xs) ordered =
    let parts = and_parts (list_all (name_before x.0) (map (λ (entry : Entry). entry.0) xs)) (is_in_order name_before (map (λ (entry : Entry). entry.0) xs)) ordered in
    in_case (bytes_eq x.0 name) refl parts.0 (on_without user name xs parts.1)
  where
    here : (c : Bool) → is_on (without_user user x.1) ≡ c → bytes_eq x.0 name ≡ true → find (has_name name) (left_on user xs) ≡ None
        → is_on (enablement_found (find (has_name name) (cond c (left_of user x ∷ left_on user xs) (left_on user xs)))) ≡ c
    here true on same none = ap (λ t. is_on (enablement_found (cond t (Some (left_of user x)) (find (has_name name) (left_on user xs))))) same ∙ on
    here false on same none = ap (λ o. is_on (enablement_found o)) none

    skipped : (c : Bool) → bytes_eq x.0 name ≡ false → find (has_name name) (cond c (left_of user x ∷ left_on user xs) (left_on user xs)) ≡ find (has_name name) (left_on user xs)
    skipped true other = ap (λ t. cond t (Some (left_of user x)) (find (has_name name) (left_on user xs))) other
    skipped false other = refl

    in_case : (t : Bool) → bytes_eq x.0 name ≡ t → list_all (name_before x.0) (map (λ (entry : Entry). entry.0) xs) ≡ true
        → is_on (enablement_of (left_on user xs) name) ≡ is_on (without_user user (enablement_of xs name))
        → is_on (enablement_found (find (has_name name) (cond (is_on (without_user user x.1)) (left_of user x ∷ left_on user xs) (left_on user xs)))) ≡ is_on (without_user user (enablement_found (cond (bytes_eq x.0 name) (Some x) (find (has_name name) xs))))
    in_case true is all later =
        here (is_on (without_user user x.1)) refl is (none_behind x.0 name user xs ((bytes_decides x.0 name).0 is) all)
        ∙ sym (ap (λ t. is_on (without_user user (enablement_found (cond t (Some x) (find (has_name name) xs))))) is)
    in_case false is all later =
        ap (λ o. is_on (enablement_found o)) (skipped (is_on (without_user user x.1)) is) ∙ later
        ∙ sym (ap (λ t. is_on (without_user user (enablement_found (cond t (Some x) (find (has_name name) xs))))) is)

and_none : (a : Bool) → (a && false) ≡ false
and_none true = refl
and_none false = refl

and_all : (a : Bool) → (a && true) ≡ a
and_all true = refl
and_all false = refl

or_none : (a : Bool) → (a || false) ≡ a
or_none true = refl
or_none false = refl

no_more : (test : Enabled → Bool) (first name : List ℕ) (xs : List Entry) → first ≡ name → list_all (name_before first) (map (λ (entry : Entry). entry.0) xs) ≡ true
    → list_any (λ (entry : Entry). test entry.1 && bytes_eq name entry.0) xs ≡ false
no_more test first name [] is all = refl
no_more test first name (x ∷ xs) is all =
    let parts = and_parts (name_before first x.0) (list_all (name_before first) (map (λ (entry : Entry). entry.0) xs)) all in
    ap (λ b. (test x.1 && b) || list_any (λ (entry : Entry). test entry.1 && bytes_eq name entry.0) xs) (same_turned name x.0 ∙ subst (λ n. bytes_eq x.0 n ≡ false) is (behind_other first x.0 parts.0))
    ∙ ap (λ b. b || list_any (λ (entry : Entry). test entry.1 && bytes_eq name entry.0) xs) (and_none (test x.1)) ∙ no_more test first name xs is parts.1

-- an enablement of the name passes a test where the one that is found does
-- an entry of the name passes the test
abbrev any_entry : (Enabled → Bool) → List ℕ → List Entry → Bool
any_entry test name xs = list_any (λ (entry : Entry). test entry.1 && bytes_eq name entry.0) xs

pub some_passes : (test : Enabled → Bool) → test Off ≡ false → (name : List ℕ) (xs : List Entry) → is_in_order name_before (map (λ (entry : Entry). entry.0) xs) ≡ true
    → list_any (λ (entry : Entry). test entry.1 && bytes_eq name entry.0) xs ≡ test (enablement_of xs name)
some_passes test off name [] ordered = sym off
some_passes test off name (x ∷ xs) ordered =
    let parts = and_parts (list_all (name_before x.0) (map (λ (entry : Entry). entry.0) xs)) (is_in_order name_before (map (λ (entry : Entry). entry.0) xs)) ordered in
    in_case (bytes_eq x.0 name) refl parts.0 (some_passes test off name xs parts.1)
  where
    in_case : (t : Bool) → bytes_eq x.0 name ≡ t → list_all (name_before x.0) (map (λ (entry : Entry). entry.0) xs) ≡ true → any_entry test name xs ≡ test (enablement_of xs name)
        → ((test x.1 && bytes_eq name x.0) || any_entry test name xs) ≡ test (enablement_found (cond (bytes_eq x.0 name) (Some x) (find (has_name name) xs)))
    in_case true is all rest =
        ap (λ b. (test x.1 && b) || any_entry test name xs) (same_turned name x.0 ∙ is) ∙ ap (λ b. b || any_entry test name xs) (and_all (test x.1))
        ∙ ap (λ b. test x.1 || b) (no_more test x.0 name xs ((bytes_decides x.0 name).0 is) all) ∙ or_none (test x.1)
        ∙ sym (ap (λ t. test (enablement_found (cond t (Some x) (find (has_name name) xs)))) is)
    in_case false is all rest =
        ap (λ b. (test x.1 && b) || any_entry test name xs) (same_turned name x.0 ∙ is) ∙ ap (λ b. b || any_entry test name xs) (and_none (test x.1)) ∙ rest
        ∙ sym (ap (λ t. test (enablement_found (cond t (Some x) (find (has_name name) xs)))) is)

-- ---- an enablement for listed users

nobody : (test : List ℕ × Outcomes → Bool) (users : List (List ℕ × Outcomes)) → not (is_on (for_users (without test users))) ≡ list_all test users
nobody test [] = refl
nobody test (user ∷ users) = in_case (test user) (nobody test users)
  where
    in_case : (t : Bool) → not (is_on (for_users (without test users))) ≡ list_all test users → not (is_on (for_users (cond (not t) (user ∷ without test users) (without test users)))) ≡ (t && list_all test users)
    in_case true rest = rest
    in_case false rest = refl

pub left_by : (user : List ℕ) (users : List (List ℕ × Outcomes)) → (users ≡ [] → ⊥) → is_left_by user (By users) ≡ list_all (λ (other : List ℕ × Outcomes). bytes_eq other.0 user) users
left_by user [] some = absurd (some refl)
left_by user (listed ∷ users) some = nobody (λ (other : List ℕ × Outcomes). bytes_eq other.0 user) (listed ∷ users)

-- who is enabled without a user is enabled
stays_on : (user : List ℕ) (enabled : Enabled) → is_on (without_user user enabled) ≡ true → is_on enabled ≡ true
stays_on user Off on = on
stays_on user (By []) on = on
stays_on user (By (listed ∷ users)) on = refl
stays_on user (Except users outcomes) on = refl

pub still_on : (user : List ℕ) (enabled : Enabled) → is_on (without_user user enabled) ≡ (is_on enabled && not (is_left_by user enabled))
still_on user enabled = in_case (is_on enabled) (is_on (without_user user enabled)) refl refl
  where
    in_case : (a b : Bool) → is_on enabled ≡ a → is_on (without_user user enabled) ≡ b → b ≡ (a && not (a && not b))
    in_case true true was is = refl
    in_case true false was is = refl
    in_case false true was is = sym (stays_on user enabled is) ∙ was
    in_case false false was is = refl
