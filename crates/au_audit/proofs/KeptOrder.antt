-- The results of conditions that are kept stand in order.
use Rattle.std.proofs.Common.{◌≡◌, ◌∙◌, ◌⊎◌, ℕ, Bool, true, false, not, ◌&&◌, ◌||◌, cond, if◌then◌else◌, inl, inr, List, [], ◌∷◌, map, refl, sym, ap, subst}
use Rattle.std.specs.Prelude.{IsTrue, Option, Some, None, find, is_none, option_map}
use Rattle.std.specs.List.{Contains, filter, list_all, list_any}
use Rattle.std.specs.Str.{bytes_eq}
use Rattle.std.specs.declared.cmp.Ordering.{Ordering}
use Rattle.std.specs.declared.cmp.Ordering.TheVariants.{Less, Equal, Greater}
use Rattle.std.specs.Ordering.{is_eq, is_lt, nat_cmp, ordering_reverse}
use Rattle.std.specs.Cmp.{IsTotalOrder}
use Rattle.std.specs.Cmp.Lexicographic.{bytes_decides, slice_cmp, texts_ties}
use Rattle.std.proofs.lemmas.Bool.{and_parts}
use Rattle.std.proofs.lemmas.Cmp.{lists_total, nat_cmp_total}
use Rattle.au_base.specs.declared.numbers.SessionNo.{SessionNo}
use Rattle.au_base.specs.declared.truth.Truth.{Truth}
use Rattle.au_base.specs.Order.{is_in_order, name_before, placed}
use Rattle.au_base.specs.OrderLaws.{names_irreflexive, names_transitive}
use Rattle.au_entries.specs.declared.facts.Demanded.{Demanded}
use Rattle.au_entries.specs.declared.facts.Facts.{Facts}
use Rattle.au_entries.specs.declared.policy.AuditPolicy.{AuditPolicy}
use Rattle.au_entries.specs.declared.policy.Condition.{Condition}
use Rattle.au_entries.specs.declared.policy.Enabled.{Enabled}
use Rattle.au_entries.specs.declared.policy.Evaluate.{Evaluate}
use Rattle.au_entries.specs.declared.policy.Evaluate.TheVariants.{Statement, Session, Instance}
use Rattle.au_entries.specs.declared.results.KeptResults.{KeptResults}
use Rattle.au_entries.specs.Demand.{demanded, is_enabled_in}
use Rattle.au_entries.specs.Matching.{parts_match}
use Rattle.au_audit.specs.Conditions.{Result, demanded_of, forgetting, has_session, is_evaluated_per, is_new, is_unrecorded, learns, learnt, nothing_demanded, of_evaluation, result_before, result_in, results_after, when_of, with_results}
use Rattle.au_audit.proofs.InOrder.{all_from, kept_in_order, mapped_order, passes, placed_new}
use Rattle.au_audit.proofs.Members.{here, kept, mapped, none, placed_cases, split, there}
use Rattle.au_grants.specs.declared.grants.Grants.{Grants}
use Rattle.sql_ast.specs.declared.expression.Expr.{Expr}

-- ---- names

names_total : IsTotalOrder (slice_cmp nat_cmp)
names_total = lists_total nat_cmp_total

apart_at : (a b : List ℕ) (o : Ordering) → slice_cmp nat_cmp a b ≡ o → bytes_eq a b ≡ false → (name_before a b ≡ true) ⊎ (name_before b a ≡ true)
apart_at a b Less is other = inl (ap is_lt is)
apart_at a b Equal is other = absurd (let e : false ≡ true = sym other ∙ texts_ties a b ∙ ap is_eq is in cc)
apart_at a b Greater is other = inr (ap is_lt (names_total.antisymm b a ∙ ap ordering_reverse is))

-- of two names that differ one comes before the other
apart : (a b : List ℕ) → bytes_eq a b ≡ false → (name_before a b ≡ true) ⊎ (name_before b a ≡ true)
apart a b other = apart_at a b (slice_cmp nat_cmp a b) refl other

results_transitive : (a b c : Result) → IsTrue (result_before a b) → IsTrue (result_before b c) → IsTrue (result_before a c)
results_transitive a b c one two = names_transitive a.0 b.0 c.0 one two

-- ---- results with new ones

-- what stands among results with others is one of either
with_cases : (results kept_ones : List Result) (x : Result) → Contains (with_results results kept_ones) x → Contains results x ⊎ Contains kept_ones x
with_cases [] kept_ones x has = inr has
with_cases (result ∷ results) kept_ones x has = elim (placed_cases result_before result (with_results results kept_ones) x has) [
  | inl same ↦ inl (subst (λ z. Contains (result ∷ results) z) same (here result results))
  | inr later ↦ elim (with_cases results kept_ones x later) [
    | inl one ↦ inl (there result results x one)
    | inr other ↦ inr other
  ]
]

-- results in order, none of whose names is kept yet, leave those that are kept in order
with_ordered : (results kept_ones : List Result) → is_in_order result_before results ≡ true → is_in_order result_before kept_ones ≡ true
    → ((x k : Result) → Contains results x → Contains kept_ones k → bytes_eq k.0 x.0 ≡ false) → is_in_order result_before (with_results results kept_ones) ≡ true
with_ordered [] kept_ones up ordered new = ordered
with_ordered (result ∷ results) kept_ones up ordered new =
    let parts = and_parts (list_all (result_before result) results) (is_in_order result_before results) up in
    placed_new result_before results_transitive result (with_results results kept_ones)
    (λ x has. elim (with_cases results kept_ones x has) [
      | inl one ↦ inr (all_from (result_before result) results parts.0 x one)
      | inr other ↦ apart x.0 result.0 (new result x (here result results) other)
    ])
    (with_ordered results kept_ones parts.1 ordered (λ x k has. new x k (there result results x has)))

-- ---- what is learnt

abbrev named : AuditPolicy → List ℕ
named policy = policy.name

-- policies in order that have one name are one
one_named : (policies : List AuditPolicy) → is_in_order (λ a b. name_before (named a) (named b)) policies ≡ true → (p q : AuditPolicy) → Contains policies p → Contains policies q → q.name ≡ p.name → q ≡ p
one_named [] up p q is_p is_q same = absurd (none p is_p)
one_named (policy ∷ policies) up p q is_p is_q same =
    let parts = and_parts (list_all (λ other. name_before policy.name other.name) policies) (is_in_order (λ a b. name_before (named a) (named b)) policies) up in
    let first : (x y : AuditPolicy) → policy ≡ x → Contains policies y → x.name ≡ y.name → ⊥ =
    λ x y is later one. (let before = all_from (λ (other : AuditPolicy). name_before policy.name other.name) policies parts.0 y later in
    let e : false ≡ true = sym (names_irreflexive policy.name) ∙ ap (λ (name : List ℕ). name_before policy.name name) (ap named is ∙ one) ∙ before in cc) in
    elim (split policy policies p is_p) [
      | inl at_p ↦ elim (split policy policies q is_q) [
        | inl at_q ↦ sym at_q ∙ at_p
        | inr later ↦ absurd (first p q at_p later (sym same))
      ]
      | inr later_p ↦ elim (split policy policies q is_q) [
        | inl at_q ↦ absurd (first q p at_q later_p same)
        | inr later_q ↦ one_named policies parts.1 p q later_p later_q same
      ]
    ]

any_at : {X : Type 0} (test : X → Bool) (y : X) (xs : List X) (b : Bool) → test y ≡ b → (b || list_any test xs) ≡ true → (list_any test xs ≡ true → (x : X) × Contains xs x × (test x ≡ true)) → (x : X) × Contains (y ∷ xs) x × (test x ≡ true)
any_at test y xs true is any more = (y, here y xs, is)
any_at test y xs false is any more = (let found = more any in (found.0, there y xs found.0 found.1, found.2))

-- one of a list passes the test
some_passes : {X : Type 0} (test : X → Bool) (xs : List X) → list_any test xs ≡ true → (x : X) × Contains xs x × (test x ≡ true)
some_passes test [] any = absurd (let e : false ≡ true = any in cc)
some_passes test (y ∷ xs) any = any_at test y xs (test y) refl any (some_passes test xs)

none_at : (name : List ℕ) (y k : Result) (ys : List Result) (b : Bool) → bytes_eq y.0 name ≡ b → is_none (option_map (λ (result : Result). result.1) (if b then Some y else find (λ (result : Result). bytes_eq result.0 name) ys)) ≡ true
    → (is_none (result_in ys name) ≡ true → Contains ys k → bytes_eq k.0 name ≡ false) → Contains (y ∷ ys) k → bytes_eq k.0 name ≡ false
none_at name y k ys true is absent more has = absurd (let e : false ≡ true = absent in cc)
none_at name y k ys false is absent more has = elim (split y ys k has) [
  | inl same ↦ ap (λ (z : Result). bytes_eq z.0 name) (sym same) ∙ is
  | inr later ↦ more absent later
]

-- where none of the results is the policy's, each is another's
none_named : (results : List Result) (name : List ℕ) (k : Result) → is_none (result_in results name) ≡ true → Contains results k → bytes_eq k.0 name ≡ false
none_named [] name k absent has = absurd (none k has)
none_named (y ∷ ys) name k absent has = none_at name y k ys (bytes_eq y.0 name) refl absent (none_named ys name k) has

new_session_at : (number : SessionNo) (kept_ones : KeptResults) (name : List ℕ) (b : Bool) → has_session number ≡ b → (b && is_none (result_in (if b then kept_ones.session else []) name)) ≡ true → is_none (result_in kept_ones.session name) ≡ true
new_session_at number kept_ones name true is new = new
new_session_at number kept_ones name false is new = absurd (let e : false ≡ true = new in cc)

new_session : (number : SessionNo) (kept_ones : KeptResults) (name : List ℕ) (when : Option (Evaluate × Condition)) → is_new number kept_ones name when ≡ true → is_evaluated_per Session when ≡ true → is_none (result_in kept_ones.session name) ≡ true
new_session number kept_ones name None new per = absurd (let e : false ≡ true = new in cc)
new_session number kept_ones name (Some (Statement, condition)) new per = absurd (let e : false ≡ true = per in cc)
new_session number kept_ones name (Some (Session, condition)) new per = new_session_at number kept_ones name (has_session number) refl new
new_session number kept_ones name (Some (Instance, condition)) new per = absurd (let e : false ≡ true = per in cc)

new_instance : (number : SessionNo) (kept_ones : KeptResults) (name : List ℕ) (when : Option (Evaluate × Condition)) → is_new number kept_ones name when ≡ true → is_evaluated_per Instance when ≡ true → is_none (result_in kept_ones.instance name) ≡ true
new_instance number kept_ones name None new per = absurd (let e : false ≡ true = new in cc)
new_instance number kept_ones name (Some (Statement, condition)) new per = absurd (let e : false ≡ true = per in cc)
new_instance number kept_ones name (Some (Session, condition)) new per = absurd (let e : false ≡ true = per in cc)
new_instance number kept_ones name (Some (Instance, condition)) new per = new

-- what is learnt at a statement, of one evaluation, beside results of that evaluation
module _ (truth : Expr → Truth) (number : SessionNo) (grants : Grants) (policies : List AuditPolicy) (enabled : List (List ℕ × Enabled)) (kept_ones : KeptResults) (facts : Facts)
    (evaluate : Evaluate) (old : List Result) (fresh : (name : List ℕ) (when : Option (Evaluate × Condition)) → is_new number kept_ones name when ≡ true → is_evaluated_per evaluate when ≡ true → is_none (result_in old name) ≡ true)
    (up : is_in_order name_before (map named policies) ≡ true) (ordered : is_in_order result_before old ≡ true) where
  abbrev test : AuditPolicy → Bool
  test = learns number grants enabled kept_ones facts

  abbrev result : AuditPolicy → Result
  result policy = (policy.name, when_of truth number kept_ones policy)

  rises : is_in_order (λ a b. name_before (named a) (named b)) policies ≡ true
  rises = sym (mapped_order name_before named policies) ∙ up

  learnt_ordered : is_in_order result_before (map result (filter test policies)) ≡ true
  learnt_ordered = mapped_order result_before result (filter test policies) ∙ kept_in_order (λ a b. name_before (named a) (named b)) test policies rises

  is_fresh : (p : AuditPolicy) → test p ≡ true → is_new number kept_ones p.name p.when ≡ true
  is_fresh p learns_it =
      (and_parts (is_enabled_in enabled p.name facts) _ (and_parts (parts_match grants facts p) _ learns_it).1).1

  others : (x k : Result) → Contains (of_evaluation evaluate policies (map result (filter test policies))) x → Contains old k → bytes_eq k.0 x.0 ≡ false
  others x k has old_one =
      let of_it : Result → Bool = λ r. list_any (λ policy. bytes_eq policy.name r.0 && is_evaluated_per evaluate policy.when) policies in
      let from = mapped result (filter test policies) x (kept of_it (map result (filter test policies)) x has) in
      let p = from.0 in
      let is_p = kept test policies p from.1 in
      let found = some_passes (λ policy. bytes_eq policy.name x.0 && is_evaluated_per evaluate policy.when) policies (passes of_it (map result (filter test policies)) x has) in
      let q = found.0 in
      let parts = and_parts (bytes_eq q.name x.0) (is_evaluated_per evaluate q.when) found.2 in
      let name : p.name ≡ x.0 = ap (λ (r : Result). r.0) from.2 in
      let same = one_named policies rises p q is_p found.1 ((bytes_decides q.name x.0).0 parts.0 ∙ sym name) in
      let per = ap (λ (policy : AuditPolicy). is_evaluated_per evaluate policy.when) (sym same) ∙ parts.1 in
      let absent = fresh p.name p.when (is_fresh p (passes test policies p from.1)) per in
      ap (bytes_eq k.0) (sym name) ∙ none_named old p.name k absent old_one

  pub merged : is_in_order result_before (with_results (of_evaluation evaluate policies (learnt truth number grants enabled kept_ones policies facts)) old) ≡ true
  merged =
      with_ordered (of_evaluation evaluate policies (map result (filter test policies))) old
      (kept_in_order result_before (λ r. list_any (λ policy. bytes_eq policy.name r.0 && is_evaluated_per evaluate policy.when) policies) (map result (filter test policies)) learnt_ordered)
      ordered others

-- ---- what is kept after a statement

-- results but those of some policies stand in order
pub left_ordered : (forgets : List (List ℕ)) (results : List Result) → is_in_order result_before results ≡ true → is_in_order result_before (forgetting forgets results) ≡ true
left_ordered forgets results ordered = kept_in_order result_before (λ (result : Result). not (list_any (bytes_eq result.0) forgets)) results ordered

at_code : (evaluate : Evaluate) (policies : List AuditPolicy) (old : List Result) (b : Bool) (some : Demanded) → is_in_order result_before old ≡ true
    → is_in_order result_before (with_results (of_evaluation evaluate policies some.learnt) old) ≡ true
    → is_in_order result_before (with_results (of_evaluation evaluate policies (if b then nothing_demanded else some).learnt) old) ≡ true
at_code evaluate policies old true some ordered more = ordered
at_code evaluate policies old false some ordered more = more

abbrev recorded : (Expr → Truth) → SessionNo → Grants → List AuditPolicy → List (List ℕ × Enabled) → KeptResults → Facts → Demanded
recorded truth number grants policies enabled kept_ones facts =
    record { names = demanded (when_of truth number kept_ones) grants enabled policies facts; learnt = learnt truth number grants enabled kept_ones policies facts }

pub session_ordered : (truth : Expr → Truth) (number : SessionNo) (grants : Grants) (policies : List AuditPolicy) (enabled : List (List ℕ × Enabled)) (kept_ones : KeptResults) (facts : Facts) (forgets : List (List ℕ))
    → IsTrue (is_in_order name_before (map (λ policy. policy.name) policies)) → IsTrue (is_in_order result_before kept_ones.session)
    → IsTrue (is_in_order result_before (results_after policies (demanded_of truth number grants policies enabled kept_ones facts).learnt forgets kept_ones).session)
session_ordered truth number grants policies enabled kept_ones facts forgets up ordered =
    left_ordered forgets (with_results (of_evaluation Session policies (demanded_of truth number grants policies enabled kept_ones facts).learnt) kept_ones.session)
    (at_code Session policies kept_ones.session (is_unrecorded facts.code) (recorded truth number grants policies enabled kept_ones facts) ordered
    (merged truth number grants policies enabled kept_ones facts Session kept_ones.session (new_session number kept_ones) up ordered))

pub instance_ordered : (truth : Expr → Truth) (number : SessionNo) (grants : Grants) (policies : List AuditPolicy) (enabled : List (List ℕ × Enabled)) (kept_ones : KeptResults) (facts : Facts) (forgets : List (List ℕ))
    → IsTrue (is_in_order name_before (map (λ policy. policy.name) policies)) → IsTrue (is_in_order result_before kept_ones.instance)
    → IsTrue (is_in_order result_before (results_after policies (demanded_of truth number grants policies enabled kept_ones facts).learnt forgets kept_ones).instance)
instance_ordered truth number grants policies enabled kept_ones facts forgets up ordered =
    left_ordered forgets (with_results (of_evaluation Instance policies (demanded_of truth number grants policies enabled kept_ones facts).learnt) kept_ones.instance)
    (at_code Instance policies kept_ones.instance (is_unrecorded facts.code) (recorded truth number grants policies enabled kept_ones facts) ordered
    (merged truth number grants policies enabled kept_ones facts Instance kept_ones.instance (new_instance number kept_ones) up ordered))
