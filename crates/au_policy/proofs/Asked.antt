-- Lists that are made of those that pass a test, one after another.
use Rattle.std.proofs.Common.{◌≡◌, ◌<◌, ◌+◌, ◌∙◌, ℕ, Bool, true, false, cond, ◌&&◌, List, [], ◌∷◌, ◌++◌, map, length, get_or, drop, suc, refl, sym, ap, append_assoc, add-one, drop-cons}
use Rattle.std.specs.Prelude.{if◌then◌else◌}
use Rattle.std.specs.List.{filter}
use Rattle.std.proofs.lemmas.List.{append-nil}
use Rattle.au_audit.specs.Conditions.{is_new, learns, learnt, when_of}
use Rattle.au_base.specs.declared.numbers.SessionNo.{SessionNo}
use Rattle.au_base.specs.declared.truth.Truth.{Truth}
use Rattle.au_entries.specs.declared.facts.Facts.{Facts}
use Rattle.au_entries.specs.declared.policy.AuditPolicy.{AuditPolicy}
use Rattle.au_entries.specs.declared.policy.Enabled.{Enabled}
use Rattle.au_entries.specs.declared.results.KeptResults.{KeptResults}
use Rattle.au_entries.specs.Demand.{demanding, demands, is_enabled_in}
use Rattle.au_entries.specs.Matching.{parts_match}
use Rattle.au_grants.specs.declared.grants.Grants.{Grants}
use Rattle.sql_ast.specs.declared.expression.Expr.{Expr}

front : {X : Type 0} (xs : List X) (i : ℕ) (x : X) → i < length xs → x ≡ get_or xs i x → drop i xs ≡ x ∷ drop (i + 1) xs
front xs i x within is = rw (add-one, drop-cons xs i x) (ap (λ z. z ∷ drop (suc i) xs) (sym is))

opened : {X Y : Type 0} (f : X → Y) (test : X → Bool) (xs : List X) (i : ℕ) (x : X) (done whole : List Y) (b : Bool) → i < length xs → x ≡ get_or xs i x → test x ≡ b
    → done ++ map f (filter test (drop i xs)) ≡ whole → done ++ map f (cond b (x ∷ filter test (drop (i + 1) xs)) (filter test (drop (i + 1) xs))) ≡ whole
opened f test xs i x done whole b within is tested so_far =
    ap (λ (t : Bool). done ++ map f (cond t (x ∷ filter test (drop (i + 1) xs)) (filter test (drop (i + 1) xs)))) (sym tested)
    ∙ ap (λ rest. done ++ map f (filter test rest)) (sym (front xs i x within is)) ∙ so_far

closed : {X Y : Type 0} (f : X → Y) (x : X) (kept : List X) (done whole : List Y) (b : Bool) → done ++ map f (cond b (x ∷ kept) kept) ≡ whole → (done ++ cond b (f x ∷ []) []) ++ map f kept ≡ whole
closed f x kept done whole true h = rw append_assoc h
closed f x kept done whole false h = rw append-nil h

-- the next one is added where it passes
pub step : {X Y : Type 0} (f : X → Y) (test : X → Bool) (xs : List X) (i : ℕ) (x : X) (done whole : List Y) (b : Bool) → i < length xs → x ≡ get_or xs i x → test x ≡ b
    → done ++ map f (filter test (drop i xs)) ≡ whole → (done ++ cond b (f x ∷ []) []) ++ map f (filter test (drop (i + 1) xs)) ≡ whole
step f test xs i x done whole b within is tested so_far = closed f x (filter test (drop (i + 1) xs)) done whole b (opened f test xs i x done whole b within is tested so_far)

-- and not where it doesn't
pub skip : {X Y : Type 0} (f : X → Y) (test : X → Bool) (xs : List X) (i : ℕ) (x : X) (done whole : List Y) → i < length xs → x ≡ get_or xs i x → test x ≡ false
    → done ++ map f (filter test (drop i xs)) ≡ whole → done ++ map f (filter test (drop (i + 1) xs)) ≡ whole
skip f test xs i x done whole within is tested so_far = opened f test xs i x done whole false within is tested so_far

-- the third test decides where the first two pass
pub where_meant : (a b t : Bool) → (a && b) ≡ true → (a && (b && t)) ≡ t
where_meant true true t is = refl
where_meant true false t is = absurd (let e : false ≡ true = is in cc)
where_meant false b t is = absurd (let e : false ≡ true = is in cc)

pub unless_meant : (a b t : Bool) → (a && b) ≡ false → (a && (b && t)) ≡ false
unless_meant true true t is = absurd (let e : true ≡ false = is in cc)
unless_meant true false t is = refl
unless_meant false b t is = refl

-- ---- the names and the results of a policy that is asked, and of one that isn't

-- the policy's parts meet the statement, and it is enabled for it
abbrev pub is_meant : Grants → List (List ℕ × Enabled) → Facts → AuditPolicy → Bool
is_meant grants enabled facts policy = parts_match grants facts policy && is_enabled_in enabled policy.name facts

pub names_step : (when : AuditPolicy → Bool) (grants : Grants) (enabled : List (List ℕ × Enabled)) (policies : List AuditPolicy) (facts : Facts) (i : ℕ) (policy : AuditPolicy) (done whole : List (List ℕ))
    → i < length policies → policy ≡ get_or policies i policy → is_meant grants enabled facts policy ≡ true
    → done ++ demanding when grants enabled (drop i policies) facts ≡ whole
    → (done ++ (if when policy then policy.name ∷ [] else [])) ++ demanding when grants enabled (drop (i + 1) policies) facts ≡ whole
names_step when grants enabled policies facts i policy done whole within is meant so_far =
    step (λ (policy : AuditPolicy). policy.name) (demands when grants enabled facts) policies i policy done whole (when policy) within is
    (where_meant (parts_match grants facts policy) (is_enabled_in enabled policy.name facts) (when policy) meant) so_far

pub names_skip : (when : AuditPolicy → Bool) (grants : Grants) (enabled : List (List ℕ × Enabled)) (policies : List AuditPolicy) (facts : Facts) (i : ℕ) (policy : AuditPolicy) (done whole : List (List ℕ))
    → i < length policies → policy ≡ get_or policies i policy → is_meant grants enabled facts policy ≡ false
    → done ++ demanding when grants enabled (drop i policies) facts ≡ whole
    → done ++ demanding when grants enabled (drop (i + 1) policies) facts ≡ whole
names_skip when grants enabled policies facts i policy done whole within is meant so_far =
    skip (λ (policy : AuditPolicy). policy.name) (demands when grants enabled facts) policies i policy done whole within is
    (unless_meant (parts_match grants facts policy) (is_enabled_in enabled policy.name facts) (when policy) meant) so_far

abbrev result_of : (Expr → Truth) → SessionNo → KeptResults → AuditPolicy → List ℕ × Bool
result_of truth number kept policy = (policy.name, when_of truth number kept policy)

pub results_step : (truth : Expr → Truth) (number : SessionNo) (grants : Grants) (enabled : List (List ℕ × Enabled)) (kept : KeptResults) (policies : List AuditPolicy) (facts : Facts) (i : ℕ) (policy : AuditPolicy) (done whole : List (List ℕ × Bool))
    → i < length policies → policy ≡ get_or policies i policy → is_meant grants enabled facts policy ≡ true
    → done ++ learnt truth number grants enabled kept (drop i policies) facts ≡ whole
    → (done ++ (if is_new number kept policy.name policy.when then (policy.name, when_of truth number kept policy) ∷ [] else [])) ++ learnt truth number grants enabled kept (drop (i + 1) policies) facts ≡ whole
results_step truth number grants enabled kept policies facts i policy done whole within is meant so_far =
    step (result_of truth number kept) (learns number grants enabled kept facts) policies i policy done whole (is_new number kept policy.name policy.when) within is
    (where_meant (parts_match grants facts policy) (is_enabled_in enabled policy.name facts) (is_new number kept policy.name policy.when) meant) so_far

pub results_skip : (truth : Expr → Truth) (number : SessionNo) (grants : Grants) (enabled : List (List ℕ × Enabled)) (kept : KeptResults) (policies : List AuditPolicy) (facts : Facts) (i : ℕ) (policy : AuditPolicy) (done whole : List (List ℕ × Bool))
    → i < length policies → policy ≡ get_or policies i policy → is_meant grants enabled facts policy ≡ false
    → done ++ learnt truth number grants enabled kept (drop i policies) facts ≡ whole
    → done ++ learnt truth number grants enabled kept (drop (i + 1) policies) facts ≡ whole
results_skip truth number grants enabled kept policies facts i policy done whole within is meant so_far =
    skip (result_of truth number kept) (learns number grants enabled kept facts) policies i policy done whole within is
    (unless_meant (parts_match grants facts policy) (is_enabled_in enabled policy.name facts) (is_new number kept policy.name policy.when) meant) so_far
