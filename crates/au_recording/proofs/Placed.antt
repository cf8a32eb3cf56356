-- Results that rise, one more among them, and results that are placed among others one after another.
use Rattle.std.proofs.Common.{◌≡◌, ◌∙◌, ℕ, Bool, true, false, not, inl, inr, if◌then◌else◌, List, [], ◌∷◌, ◌++◌, get_or, filter, refl, sym, ap, subst, arith}
use Rattle.std.specs.Prelude.{IsTrue}
use Rattle.std.specs.List.{list_all}
use Rattle.std.specs.List.Sorted.{IsPartitionedBy}
use Rattle.std.specs.declared.cmp.Ordering.{Ordering}
use Rattle.std.specs.declared.cmp.Ordering.TheVariants.{Less, Equal, Greater}
use Rattle.std.specs.Ordering.{is_eq, is_lt, nat_cmp, ordering_reverse}
use Rattle.std.specs.Cmp.{IsTotalOrder}
use Rattle.std.specs.Cmp.Lexicographic.{bytes_decides, slice_cmp, texts_ties}
use Rattle.std.proofs.lemmas.Bool.{and_from, and_parts, cases_lt}
use Rattle.std.proofs.lemmas.Cmp.{lists_total, nat_cmp_total}
use Rattle.std.proofs.lemmas.List.Elements.{filter-append}
use Rattle.std.proofs.lemmas.List.Folds.{list_all-append}
use Rattle.au_audit.specs.Conditions.{Result, of_evaluation, result_before, with_results}
use Rattle.au_base.specs.Order.{is_in_order, name_before, placed}
use Rattle.au_base.specs.OrderLaws.{names_irreflexive, names_transitive}
use Rattle.au_entries.specs.declared.policy.AuditPolicy.{AuditPolicy}
use Rattle.au_entries.specs.declared.policy.Evaluate.{Evaluate}
use Rattle.au_recording.proofs.Members.{all_weaker, before_later, kept_in_order, passes}
use Rattle.au_recording.specs.Keeping.{AreRising, is_at_most, is_of}

-- ---- names

names_total : IsTotalOrder (slice_cmp nat_cmp)
names_total = lists_total nat_cmp_total

not_true : (b : Bool) → not b ≡ true → b ≡ true → ⊥
not_true true is holds = let e : false ≡ true = is in cc
not_true false is holds = let e : false ≡ true = holds in cc

not_false : (b : Bool) → (b ≡ true → ⊥) → not b ≡ true
not_false true never = absurd (never refl)
not_false false never = refl

joined_at : (a b c : List ℕ) (o : Ordering) → slice_cmp nat_cmp a b ≡ o → not (name_before b a) ≡ true → name_before b c ≡ true → name_before a c ≡ true
joined_at a b c Less is most less = names_transitive a b c (ap is_lt is) less
joined_at a b c Equal is most less = ap (λ (x : List ℕ). name_before x c) ((bytes_decides a b).0 (texts_ties a b ∙ ap is_eq is)) ∙ less
joined_at a b c Greater is most less = absurd (not_true (name_before b a) most (ap is_lt (names_total.antisymm b a ∙ ap ordering_reverse is)))

-- what isn't behind a name that comes before another comes before that other
joined : (a b c : List ℕ) → not (name_before b a) ≡ true → name_before b c ≡ true → name_before a c ≡ true
joined a b c most less = joined_at a b c (slice_cmp nat_cmp a b) refl most less

-- ---- places

-- what `partition_point` asks
pub parted_results : (name : List ℕ) (results : List Result) → AreRising results → IsPartitionedBy (λ (result : Result). name_before result.0 name) results
parted_results name results rising i j d le within passes = elim (cases_lt i j) [
  | inl less ↦ joined (get_or results i d).0 (get_or results j d).0 name (before_later is_at_most results i j d rising less within) passes
  | inr more ↦ (let same : j ≡ i = omega arith in subst (λ k. name_before (get_or results k d).0 name ≡ true) same passes)
]

-- ---- one more result

-- of two results of which the first comes before a third and the second doesn't, the second doesn't come before the first
across_at : (fresh x y : Result) → result_before x fresh ≡ true → not (result_before y fresh) ≡ true → is_at_most x y ≡ true
across_at fresh x y first last = not_false (result_before y x) (λ behind. not_true (result_before y fresh) last (names_transitive y.0 x.0 fresh.0 behind first))

-- a result that comes before another doesn't come behind it
ahead : (x y : Result) → result_before x y ≡ true → is_at_most x y ≡ true
ahead x y less = not_false (result_before y x) (λ behind. (let e : false ≡ true = sym (names_irreflexive x.0) ∙ names_transitive x.0 y.0 x.0 less behind in cc))

-- results that come before a new one, the new one, and results that don't
joined_rising : (fresh : Result) (front rest : List Result) → AreRising front → AreRising rest → list_all (λ other. result_before other fresh) front ≡ true → list_all (is_at_most fresh) rest ≡ true
    → AreRising (front ++ fresh ∷ rest)
joined_rising fresh [] rest one two first last = and_from (list_all (is_at_most fresh) rest) (is_in_order is_at_most rest) last two
joined_rising fresh (x ∷ front) rest one two first last =
    let parts = and_parts (list_all (is_at_most x) front) (is_in_order is_at_most front) one in
    let firsts = and_parts (result_before x fresh) (list_all (λ other. result_before other fresh) front) first in
    let others = all_weaker (is_at_most fresh) (is_at_most x) (λ y later. across_at fresh x y firsts.0 later) rest last in
    and_from (list_all (is_at_most x) (front ++ fresh ∷ rest)) (is_in_order is_at_most (front ++ fresh ∷ rest))
    (list_all-append (is_at_most x) front (fresh ∷ rest)
    ∙ and_from (list_all (is_at_most x) front) (list_all (is_at_most x) (fresh ∷ rest)) parts.0 (and_from (is_at_most x fresh) (list_all (is_at_most x) rest) (ahead x fresh firsts.0) others))
    (joined_rising fresh front rest parts.1 two firsts.1 last)

-- results rise with one more
pub placed_rising : (fresh : Result) (results : List Result) → AreRising results → AreRising (placed result_before fresh results)
placed_rising fresh results rising =
    joined_rising fresh (filter (λ other. result_before other fresh) results) (filter (is_at_most fresh) results)
    (kept_in_order is_at_most (λ other. result_before other fresh) results rising) (kept_in_order is_at_most (is_at_most fresh) results rising)
    (passes (λ other. result_before other fresh) results) (passes (is_at_most fresh) results)

rising_at : (fresh : Result) (results : List Result) (b : Bool) → AreRising results → AreRising (if b then placed result_before fresh results else results)
rising_at fresh results true rising = placed_rising fresh results rising
rising_at fresh results false rising = rising

-- and where it is placed or isn't
pub kept_rising : (fresh : Result) (before after : List Result) (b : Bool) → after ≡ (if b then placed result_before fresh before else before) → AreRising before → AreRising after
kept_rising fresh before after b is rising = subst AreRising (sym is) (rising_at fresh before b rising)

-- ordered results rise
pub ordered_rising : (results : List Result) → IsTrue (is_in_order result_before results) → AreRising results
ordered_rising [] ordered = refl
ordered_rising (x ∷ results) ordered =
    let parts = and_parts (list_all (result_before x) results) (is_in_order result_before results) ordered in
    and_from (list_all (is_at_most x) results) (is_in_order is_at_most results) (all_weaker (result_before x) (is_at_most x) (ahead x) results parts.0) (ordered_rising results parts.1)

-- ---- results among others

with_last : (results : List Result) (last : Result) (before : List Result) → with_results (results ++ last ∷ []) before ≡ with_results results (placed result_before last before)
with_last [] last before = refl
with_last (result ∷ results) last before = ap (placed result_before result) (with_last results last before)

with_last_at : (results : List Result) (last : Result) (before : List Result) (b : Bool) → with_results (results ++ (if b then last ∷ [] else [])) before ≡ with_results results (if b then placed result_before last before else before)
with_last_at results last before true = with_last results last before
with_last_at [] last before false = refl
with_last_at (result ∷ results) last before false = ap (placed result_before result) (with_last_at results last before false)

-- the last result goes to its place first
pub kept_last : (evaluate : Evaluate) (policies : List AuditPolicy) (rest all : List Result) (last : Result) (before after : List Result) (found : Bool) → all ≡ rest ++ last ∷ []
    → is_of evaluate policies last.0 ≡ found → after ≡ (if found then placed result_before last before else before)
    → with_results (of_evaluation evaluate policies rest) after ≡ with_results (of_evaluation evaluate policies all) before
kept_last evaluate policies rest all last before after found whole finds places =
    let test : Result → Bool = λ result. is_of evaluate policies result.0 in
    ap (with_results (filter test rest)) places
    ∙ sym (with_last_at (filter test rest) last before found)
    ∙ ap (λ (b : Bool). with_results (filter test rest ++ (if b then last ∷ [] else [])) before) (sym finds)
    ∙ ap (λ (results : List Result). with_results results before) (sym (filter-append test rest (last ∷ [])))
    ∙ ap (λ (results : List Result). with_results (filter test results) before) (sym whole)
