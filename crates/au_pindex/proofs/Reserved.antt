-- Buckets that get room, and places that use it up, one key after another.
use Rattle.std.proofs.Common.{◌≡◌, ◌∙◌, ◌≤◌, ◌<◌, ◌+◌, inl, inr, refl, sym, ap, ℕ, zero, suc, Bool, true, false, ◌||◌, ◌&&◌, List, [], ◌∷◌, ◌++◌, Vec, Global, BTreeMap, length, get_or, take, arith}
use Rattle.std.proofs.lemmas.Bool.{or_cases, or_left, or_right}
use Rattle.std.proofs.lemmas.List.{take_more}
use Rattle.std.proofs.lemmas.List.Folds.{list_any-append}
use Rattle.std.specs.Cmp.Lexicographic.{slice_cmp}
use Rattle.std.specs.List.{list_any}
use Rattle.std.specs.Ordering.{nat_cmp}
use Rattle.std.specs.Prelude.{◌==◌}
use Rattle.std.specs.declared.cmp.Ordering.{Ordering}
use Rattle.au_base.specs.Actions as actions
use Rattle.au_base.specs.Privileges as privileges
use Rattle.au_entries.specs.declared.policy.AuditPolicy.{AuditPolicy}
use Rattle.au_pindex.specs.declared.bucketed.Bucketed.{Bucketed}
use Rattle.au_pindex.specs.descent.Adding.{AddsPolicy}
use Rattle.au_pindex.specs.descent.Rooms.{KeepAllPlaces, KeepPlaces}
use Rattle.au_pindex.specs.Indexing.{table_cmp}
use Rattle.au_pindex.specs.Naming.{has_action_part, has_object_part, has_privilege_part, has_role_part}

pub keep_on : {K : Type 0} (cmp : K → K → Ordering) (a b c : BTreeMap K (Vec ℕ Global)) → KeepPlaces cmp a b → KeepPlaces cmp b c → KeepPlaces cmp a c
keep_on cmp a b c one two = record { places = λ key at. two.places key at ∙ one.places key at; rooms = λ key. omega (arith, one.rooms key, two.rooms key) }

pub keep_same : {K : Type 0} (cmp : K → K → Ordering) (buckets : BTreeMap K (Vec ℕ Global)) → KeepPlaces cmp buckets buckets
keep_same cmp buckets = record { places = λ key at. refl; rooms = λ key. omega arith }

pub all_kept : (buckets : Bucketed) → KeepAllPlaces buckets buckets
all_kept buckets = record {
  actions = keep_same nat_cmp buckets.actions;
  tables = keep_same table_cmp buckets.tables;
  privileges = keep_same nat_cmp buckets.privileges;
  roles = keep_same (slice_cmp nat_cmp) buckets.roles;
}

-- what stands at a place, whatever stands for what isn't there
pub reread : {X : Type 0} (xs : List X) (i : ℕ) (d e : X) → i < length xs → get_or xs i d ≡ get_or xs i e
reread [] i d e within = absurd (omega arith)
reread (x ∷ xs) zero d e within = refl
reread (x ∷ xs) (suc i) d e within = reread xs i d e (omega arith)

none_left : (b : Bool) → (b || false) ≡ true → b ≡ true
none_left true is = refl
none_left false is = is

module _ {X : Type 0} (test : X → Bool) (xs : List X) (i : ℕ) (x : X) (within : i < length xs) (is : x ≡ get_or xs i x) where
  one_more : take (i + 1) xs ≡ take i xs ++ x ∷ []
  one_more = take_more xs i x within ∙ ap (λ y. take i xs ++ y ∷ []) (sym is)

  -- one more key has room, and those before it no less
  pub next_room : (old new : ℕ) → (list_any test (take i xs) ≡ true → 0 < old) → old ≤ new → (test x ≡ true → 0 < new) → list_any test (take (i + 1) xs) ≡ true → 0 < new
  next_room old new before more now passes =
      let either : (list_any test (take i xs) || (test x || false)) ≡ true = sym (ap (list_any test) one_more ∙ list_any-append test (take i xs) (x ∷ [])) ∙ passes in
      elim (or_cases (list_any test (take i xs)) (test x || false) either) [ inl a ↦ omega (arith, before a, more) | inr b ↦ now (none_left (test x) b) ]

-- a key of these passes the test, where the one that stands at the place does
pub any_here : {X : Type 0} (test : X → Bool) (xs : List X) (i : ℕ) (x : X) → i < length xs → x ≡ get_or xs i x → test x ≡ true → list_any test xs ≡ true
any_here test [] i x within is passes = absurd (omega (arith, within))
any_here test (y ∷ ys) zero x within is passes = or_left (test y) (list_any test ys) (ap test (sym is) ∙ passes)
any_here test (y ∷ ys) (suc i) x within is passes = or_right (test y) (list_any test ys) (any_here test ys i x (omega (arith, within)) is passes)

-- ---- a policy whose place joins buckets once they have room for it

pub adds_from : (policy : AuditPolicy) (place : ℕ) (old between new : Bucketed) → KeepAllPlaces old between → AddsPolicy true policy place between new → AddsPolicy true policy place old new
adds_from policy place old between new keeps adds = record {
  actions = λ action at. adds.actions action at ∙ ap (λ was. (has_action_part action policy && (place == at)) || was) (keeps.actions.places (actions.code_of action) at);
  tables = λ table at. adds.tables table at ∙ ap (λ was. (has_object_part table policy && (place == at)) || was) (keeps.tables.places table at);
  privileges = λ privilege at. adds.privileges privilege at ∙ ap (λ was. (has_privilege_part privilege policy && (place == at)) || was) (keeps.privileges.places (privileges.code_of privilege) at);
  roles = λ role at. adds.roles role at ∙ ap (λ was. (has_role_part role policy && (place == at)) || was) (keeps.roles.places role at);
}
