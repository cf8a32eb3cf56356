-- The place of a policy among those that stand in the order of their names.
use Rattle.std.proofs.Common.{◌≡◌, ◌∙◌, ◌≤◌, ◌<◌, ◌+◌, refl, sym, ap, subst, inl, inr, ◌⊎◌, ℕ, zero, suc, Bool, true, false, not, cond, List, [], ◌∷◌, ◌++◌, length, get_or, map, take, drop, arith}
use Rattle.std.proofs.lemmas.Bool.{and_parts, cases_lt}
use Rattle.std.proofs.lemmas.Bool.Decides.{eqb_tells}
use Rattle.std.proofs.lemmas.Map.Text.{is_eq-slice_cmp}
use Rattle.std.proofs.lemmas.Option.{slice_get-get_or, slice_get_past}
use Rattle.std.specs.Cmp.Lexicographic.{bytes_decides}
use Rattle.std.specs.List.{filter, list_all}
use Rattle.std.specs.List.Sorted.{IsPartitionedBy, IsPartitionPoint}
use Rattle.std.specs.Ordering.{is_eq, is_gt, is_lt}
use Rattle.std.specs.Prelude.{◌==◌}
use Rattle.std.specs.Str.{bytes_eq}
use Rattle.std.specs.declared.cmp.Ordering.{Ordering}
use Rattle.std.specs.declared.cmp.Ordering.TheVariants.{Less, Equal, Greater}
use Rattle.au_base.specs.Order.{is_in_order, name_before}
use Rattle.au_base.specs.OrderLaws.{names_irreflexive, names_transitive}
use Rattle.au_entries.specs.declared.policy.AuditPolicy.{AuditPolicy}
use Rattle.au_entries.specs.Changing.{by_name}
use Rattle.au_grants.specs.Changing.{without}
use Rattle.au_pindex.specs.descent.Finding.{BelongsAt, StandsAt, is_named}
use Rattle.au_pindex.specs.Places.{passes, passes_at}

abbrev name_of : AuditPolicy → List ℕ
name_of policy = policy.name

abbrev Ordered : List AuditPolicy → Type 0
Ordered policies = is_in_order name_before (map name_of policies) ≡ true

-- the place behind the policies whose names come before this one
abbrev pub IsPlace : List ℕ → List AuditPolicy → ℕ → Type 0
IsPlace name policies place = IsPartitionPoint (λ (policy : AuditPolicy). name_before policy.name name ≡ true) (λ (policy : AuditPolicy). name_before policy.name name ≡ false) policies place

-- ---- names in order

firsts : (first : List ℕ) (xs : List AuditPolicy) (j : ℕ) (d : AuditPolicy) → list_all (name_before first) (map name_of xs) ≡ true → j < length xs → name_before first (get_or xs j d).name ≡ true
firsts first [] j d all within = absurd (omega arith)
firsts first (x ∷ xs) zero d all within = (and_parts (name_before first x.name) (list_all (name_before first) (map name_of xs)) all).0
firsts first (x ∷ xs) (suc j) d all within = firsts first xs j d (and_parts (name_before first x.name) (list_all (name_before first) (map name_of xs)) all).1 (omega arith)

behind_first : (x : AuditPolicy) (xs : List AuditPolicy) → Ordered (x ∷ xs) → list_all (name_before x.name) (map name_of xs) ≡ true
behind_first x xs ordered = (and_parts (list_all (name_before x.name) (map name_of xs)) (is_in_order name_before (map name_of xs)) ordered).0

behind_in_order : (x : AuditPolicy) (xs : List AuditPolicy) → Ordered (x ∷ xs) → Ordered xs
behind_in_order x xs ordered = (and_parts (list_all (name_before x.name) (map name_of xs)) (is_in_order name_before (map name_of xs)) ordered).1

pub order_at : (xs : List AuditPolicy) (i j : ℕ) (d : AuditPolicy) → Ordered xs → i < j → j < length xs → name_before (get_or xs i d).name (get_or xs j d).name ≡ true
order_at [] i j d ordered less within = absurd (omega arith)
order_at (x ∷ xs) i zero d ordered less within = absurd (omega arith)
order_at (x ∷ xs) zero (suc j) d ordered less within = firsts x.name xs j d (behind_first x xs ordered) (omega arith)
order_at (x ∷ xs) (suc i) (suc j) d ordered less within = order_at xs i j d (behind_in_order x xs ordered) (omega arith) (omega arith)

-- what `partition_point` asks
pub parted : (name : List ℕ) (xs : List AuditPolicy) → Ordered xs → IsPartitionedBy (λ (x : AuditPolicy). name_before x.name name) xs
parted name xs ordered i j d le within passes = elim (cases_lt i j) [
  | inl less ↦ names_transitive (get_or xs i d).name (get_or xs j d).name name (order_at xs i j d ordered less within) passes
  | inr more ↦ (let same : j ≡ i = omega arith in subst (λ k. name_before (get_or xs k d).name name ≡ true) same passes)
]

-- ---- how a name stands to another

not_same : (a b : List ℕ) (t : Bool) → bytes_eq a b ≡ t → name_before a b ≡ true → t ≡ false
not_same a b false is less = refl
not_same a b true is less =
    let same : a ≡ b = (bytes_decides a b).0 is in
    let e : true ≡ false = sym less ∙ ap (λ (x : List ℕ). name_before x b) same ∙ names_irreflexive b in
    absurd (cc)

pub before_other : (a b : List ℕ) → name_before a b ≡ true → bytes_eq a b ≡ false
before_other a b less = not_same a b (bytes_eq a b) refl less

not_same_back : (a b : List ℕ) (t : Bool) → bytes_eq b a ≡ t → name_before a b ≡ true → t ≡ false
not_same_back a b false is less = refl
not_same_back a b true is less =
    let same : b ≡ a = (bytes_decides b a).0 is in
    let e : true ≡ false = sym less ∙ ap (λ (x : List ℕ). name_before a x) same ∙ names_irreflexive a in
    absurd (cc)

pub behind_other : (a b : List ℕ) → name_before a b ≡ true → bytes_eq b a ≡ false
behind_other a b less = not_same_back a b (bytes_eq b a) refl less

is_behind : (o : Ordering) → is_lt o ≡ false → is_eq o ≡ false → is_gt o ≡ true
is_behind Less isnt other = absurd (let e : true ≡ false = isnt in cc)
is_behind Equal isnt other = absurd (let e : true ≡ false = other in cc)
is_behind Greater isnt other = refl

not_behind : (o : Ordering) → is_lt o ≡ true → is_gt o ≡ false
not_behind Less is = refl
not_behind Equal is = absurd (let e : false ≡ true = is in cc)
not_behind Greater is = absurd (let e : false ≡ true = is in cc)

same_not_behind : (o : Ordering) → is_eq o ≡ true → is_gt o ≡ false
same_not_behind Less is = absurd (let e : false ≡ true = is in cc)
same_not_behind Equal is = refl
same_not_behind Greater is = absurd (let e : false ≡ true = is in cc)

-- what stands behind a name that doesn't come before this one comes behind it
not_before : (a b name : List ℕ) (t : Bool) → name_before b name ≡ t → name_before a b ≡ true → name_before a name ≡ false → t ≡ false
not_before a b name false is less isnt = refl
not_before a b name true is less isnt = (let e : true ≡ false = sym (names_transitive a b name less is) ∙ isnt in absurd (cc))

differs : (a b name : List ℕ) (t : Bool) → bytes_eq b name ≡ t → name_before a b ≡ true → name_before a name ≡ false → t ≡ false
differs a b name false is less isnt = refl
differs a b name true is less isnt =
    let same : b ≡ name = (bytes_decides b name).0 is in
    let e : true ≡ false = sym less ∙ ap (λ (x : List ℕ). name_before a x) same ∙ isnt in
    absurd (cc)

pub other_behind : (a b name : List ℕ) → name_before a b ≡ true → name_before a name ≡ false → bytes_eq b name ≡ false
other_behind a b name less isnt = differs a b name (bytes_eq b name) refl less isnt

behind : (a b name : List ℕ) → name_before a b ≡ true → name_before a name ≡ false → is_gt (by_name b name) ≡ true
behind a b name less isnt = is_behind (by_name b name) (not_before a b name (name_before b name) refl less isnt) (is_eq-slice_cmp b name ∙ other_behind a b name less isnt)

-- ---- what a filter keeps

all_behind : (a name : List ℕ) (xs : List AuditPolicy) → list_all (name_before a) (map name_of xs) ≡ true → name_before a name ≡ false → filter (λ policy. is_gt (by_name policy.name name)) xs ≡ xs
all_behind a name [] all isnt = refl
all_behind a name (x ∷ xs) all isnt =
    let parts = and_parts (name_before a x.name) (list_all (name_before a) (map name_of xs)) all in
    ap (λ b. cond b (x ∷ filter (λ policy. is_gt (by_name policy.name name)) xs) (filter (λ policy. is_gt (by_name policy.name name)) xs)) (behind a x.name name parts.0 isnt)
    ∙ ap (λ ys. x ∷ ys) (all_behind a name xs parts.1 isnt)

all_others : (a name : List ℕ) (xs : List AuditPolicy) → list_all (name_before a) (map name_of xs) ≡ true → name_before a name ≡ false → without (is_named name) xs ≡ xs
all_others a name [] all isnt = refl
all_others a name (x ∷ xs) all isnt =
    let parts = and_parts (name_before a x.name) (list_all (name_before a) (map name_of xs)) all in
    ap (λ b. cond (not b) (x ∷ without (is_named name) xs) (without (is_named name) xs)) (other_behind a x.name name parts.0 isnt)
    ∙ ap (λ ys. x ∷ ys) (all_others a name xs parts.1 isnt)

none_before : (a name : List ℕ) (xs : List AuditPolicy) → list_all (name_before a) (map name_of xs) ≡ true → name_before a name ≡ false → filter (λ policy. is_lt (by_name policy.name name)) xs ≡ []
none_before a name [] all isnt = refl
none_before a name (x ∷ xs) all isnt =
    let parts = and_parts (name_before a x.name) (list_all (name_before a) (map name_of xs)) all in
    ap (λ b. cond b (x ∷ filter (λ policy. is_lt (by_name policy.name name)) xs) (filter (λ policy. is_lt (by_name policy.name name)) xs)) (not_before a x.name name (name_before x.name name) refl parts.0 isnt)
    ∙ none_before a name xs parts.1 isnt

shifted : (name : List ℕ) (x : AuditPolicy) (xs : List AuditPolicy) (k : ℕ) → IsPlace name (x ∷ xs) (suc k) → IsPlace name xs k
shifted name x xs k place = (λ i d low high. place.0 (suc i) d (omega arith) (omega arith), λ i d low high. place.1 (suc i) d (omega arith) (omega arith))

module _ (name : List ℕ) where
  abbrev lower : AuditPolicy → Bool
  lower policy = is_lt (by_name policy.name name)

  abbrev higher : AuditPolicy → Bool
  higher policy = is_gt (by_name policy.name name)

  first_before : (x : AuditPolicy) (xs : List AuditPolicy) (k : ℕ) → IsPlace name (x ∷ xs) (suc k) → name_before x.name name ≡ true
  first_before x xs k place = place.0 zero x (omega arith) (omega arith)

  first_not_before : (x : AuditPolicy) (xs : List AuditPolicy) → IsPlace name (x ∷ xs) zero → name_before x.name name ≡ false
  first_not_before x xs place = place.1 zero x (omega arith) (omega arith)

  pub front : (xs : List AuditPolicy) (k : ℕ) → Ordered xs → IsPlace name xs k → filter lower xs ≡ take k xs
  front [] zero ordered place = refl
  front [] (suc k) ordered place = refl
  front (x ∷ xs) zero ordered place =
      ap (λ b. cond b (x ∷ filter lower xs) (filter lower xs)) (first_not_before x xs place) ∙ none_before x.name name xs (behind_first x xs ordered) (first_not_before x xs place)
  front (x ∷ xs) (suc k) ordered place =
      ap (λ b. cond b (x ∷ filter lower xs) (filter lower xs)) (first_before x xs k place) ∙ ap (λ ys. x ∷ ys) (front xs k (behind_in_order x xs ordered) (shifted name x xs k place))

  -- where none has the name at its place
  pub rest : (xs : List AuditPolicy) (k : ℕ) → Ordered xs → IsPlace name xs k → ((d : AuditPolicy) → k < length xs → bytes_eq (get_or xs k d).name name ≡ false) → filter higher xs ≡ drop k xs
  rest [] zero ordered place other = refl
  rest [] (suc k) ordered place other = refl
  rest (x ∷ xs) zero ordered place other =
      ap (λ b. cond b (x ∷ filter higher xs) (filter higher xs)) (is_behind (by_name x.name name) (first_not_before x xs place) (is_eq-slice_cmp x.name name ∙ other x (omega arith)))
      ∙ ap (λ ys. x ∷ ys) (all_behind x.name name xs (behind_first x xs ordered) (first_not_before x xs place))
  rest (x ∷ xs) (suc k) ordered place other =
      ap (λ b. cond b (x ∷ filter higher xs) (filter higher xs)) (not_behind (by_name x.name name) (first_before x xs k place))
      ∙ rest xs k (behind_in_order x xs ordered) (shifted name x xs k place) (λ d within. other d (omega arith))

  pub others_rest : (xs : List AuditPolicy) (k : ℕ) → Ordered xs → IsPlace name xs k → ((d : AuditPolicy) → k < length xs → bytes_eq (get_or xs k d).name name ≡ false) → without (is_named name) xs ≡ xs
  others_rest [] k ordered place other = refl
  others_rest (x ∷ xs) zero ordered place other =
      ap (λ b. cond (not b) (x ∷ without (is_named name) xs) (without (is_named name) xs)) (other x (omega arith))
      ∙ ap (λ ys. x ∷ ys) (all_others x.name name xs (behind_first x xs ordered) (first_not_before x xs place))
  others_rest (x ∷ xs) (suc k) ordered place other =
      ap (λ b. cond (not b) (x ∷ without (is_named name) xs) (without (is_named name) xs)) (before_other x.name name (first_before x xs k place))
      ∙ ap (λ ys. x ∷ ys) (others_rest xs k (behind_in_order x xs ordered) (shifted name x xs k place) (λ d within. other d (omega arith)))

  next : (x : AuditPolicy) (xs : List AuditPolicy) (k : ℕ) → drop (k + 1) xs ≡ drop (suc k + 1) (x ∷ xs)
  next x xs k = ap (λ n. drop n (x ∷ xs)) (let e : suc (k + 1) ≡ suc k + 1 = omega arith in e)

  -- where one has it
  pub rest_behind : (xs : List AuditPolicy) (k : ℕ) (d : AuditPolicy) → Ordered xs → IsPlace name xs k → k < length xs → bytes_eq (get_or xs k d).name name ≡ true → filter higher xs ≡ drop (k + 1) xs
  rest_behind [] k d ordered place within same = absurd (omega arith)
  rest_behind (x ∷ xs) zero d ordered place within same =
      ap (λ b. cond b (x ∷ filter higher xs) (filter higher xs)) (same_not_behind (by_name x.name name) (is_eq-slice_cmp x.name name ∙ same))
      ∙ all_behind x.name name xs (behind_first x xs ordered) (first_not_before x xs place)
  rest_behind (x ∷ xs) (suc k) d ordered place within same =
      ap (λ b. cond b (x ∷ filter higher xs) (filter higher xs)) (not_behind (by_name x.name name) (first_before x xs k place))
      ∙ rest_behind xs k d (behind_in_order x xs ordered) (shifted name x xs k place) (omega arith) same ∙ next x xs k

  pub others_behind : (xs : List AuditPolicy) (k : ℕ) (d : AuditPolicy) → Ordered xs → IsPlace name xs k → k < length xs → bytes_eq (get_or xs k d).name name ≡ true
      → without (is_named name) xs ≡ take k xs ++ drop (k + 1) xs
  others_behind [] k d ordered place within same = absurd (omega arith)
  others_behind (x ∷ xs) zero d ordered place within same =
      ap (λ b. cond (not b) (x ∷ without (is_named name) xs) (without (is_named name) xs)) same ∙ all_others x.name name xs (behind_first x xs ordered) (first_not_before x xs place)
  others_behind (x ∷ xs) (suc k) d ordered place within same =
      ap (λ b. cond (not b) (x ∷ without (is_named name) xs) (without (is_named name) xs)) (before_other x.name name (first_before x xs k place))
      ∙ ap (λ ys. x ∷ ys) (others_behind xs k d (behind_in_order x xs ordered) (shifted name x xs k place) (omega arith) same)
      ∙ ap (λ ys. x ∷ (take k xs ++ ys)) (next x xs k)

  -- ---- which place has the name

  at_or_past : (xs : List AuditPolicy) (at : ℕ) → (at < length xs) ⊎ (length xs ≤ at)
  at_or_past xs at = elim (cases_lt at (length xs)) [ inl less ↦ inl less | inr more ↦ inr (omega (arith, more)) ]

  read : (xs : List AuditPolicy) (at : ℕ) (d : AuditPolicy) → at < length xs → passes_at (is_named name) xs at ≡ bytes_eq (get_or xs at d).name name
  read xs at d within = ap (passes (is_named name)) (slice_get-get_or xs at d within)

  -- the names at two places differ
  apart : (xs : List AuditPolicy) (k at : ℕ) (d : AuditPolicy) → Ordered xs → k < length xs → at < length xs → bytes_eq (get_or xs k d).name name ≡ true → (k ≡ at → ⊥) → bytes_eq (get_or xs at d).name name ≡ false
  apart xs k at d ordered one other same differ =
      let is : (get_or xs k d).name ≡ name = (bytes_decides (get_or xs k d).name name).0 same in
      elim (cases_lt k at) [
        | inl less ↦ subst (λ n. bytes_eq (get_or xs at d).name n ≡ false) is (behind_other (get_or xs k d).name (get_or xs at d).name (order_at xs k at d ordered less other))
        | inr more ↦ subst (λ n. bytes_eq (get_or xs at d).name n ≡ false) is (before_other (get_or xs at d).name (get_or xs k d).name (order_at xs at k d ordered (omega (arith, more, differ)) one))
      ]

  pub alone : (xs : List AuditPolicy) (k : ℕ) (d : AuditPolicy) → Ordered xs → k < length xs → bytes_eq (get_or xs k d).name name ≡ true → (at : ℕ) → passes_at (is_named name) xs at ≡ (k == at)
  alone xs k d ordered within same at = elim (eqb_tells k at) [
    | inl e ↦ ap (passes_at (is_named name) xs) (sym e.1) ∙ read xs k d within ∙ same ∙ sym e.0
    | inr e ↦ elim (at_or_past xs at) [
      | inl less ↦ read xs at d less ∙ apart xs k at d ordered within less same e.1 ∙ sym e.0
      | inr past ↦ ap (passes (is_named name)) (slice_get_past xs at past) ∙ sym e.0
    ]
  ]

  pub nowhere : (xs : List AuditPolicy) (k : ℕ) → Ordered xs → IsPlace name xs k → ((d : AuditPolicy) → k < length xs → bytes_eq (get_or xs k d).name name ≡ false) → (at : ℕ) → passes_at (is_named name) xs at ≡ false
  nowhere [] k ordered place other at = refl
  nowhere (x ∷ xs) zero ordered place other zero = other x (omega arith)
  nowhere (x ∷ xs) zero ordered place other (suc at) =
      elim (at_or_past xs at) [
        | inl less ↦ read xs at x less ∙ other_behind x.name (get_or xs at x).name name (firsts x.name xs at x (behind_first x xs ordered) less) (first_not_before x xs place)
        | inr past ↦ ap (passes (is_named name)) (slice_get_past xs at past)
      ]
  nowhere (x ∷ xs) (suc k) ordered place other zero = before_other x.name name (first_before x xs k place)
  nowhere (x ∷ xs) (suc k) ordered place other (suc at) = nowhere xs k (behind_in_order x xs ordered) (shifted name x xs k place) (λ d within. other d (omega arith)) at

  -- ---- the two answers

  pub stands_at : (xs : List AuditPolicy) (k : ℕ) (d : AuditPolicy) → Ordered xs → IsPlace name xs k → k < length xs → bytes_eq (get_or xs k d).name name ≡ true → StandsAt name xs k
  stands_at xs k d ordered place within same = record {
    within = within;
    alone = alone xs k d ordered within same;
    others = others_behind xs k d ordered place within same;
    replaced = λ policy. ap (λ ys. ys ++ policy ∷ filter higher xs) (front xs k ordered place) ∙ ap (λ ys. take k xs ++ policy ∷ ys) (rest_behind xs k d ordered place within same);
  }

  pub belongs_at : (xs : List AuditPolicy) (k : ℕ) → Ordered xs → IsPlace name xs k → k ≤ length xs → ((d : AuditPolicy) → k < length xs → bytes_eq (get_or xs k d).name name ≡ false) → BelongsAt name xs k
  belongs_at xs k ordered place within other = record {
    within = within;
    none = nowhere xs k ordered place other;
    others = others_rest xs k ordered place other;
    added = λ policy. ap (λ ys. ys ++ policy ∷ filter higher xs) (front xs k ordered place) ∙ ap (λ ys. take k xs ++ policy ∷ ys) (rest xs k ordered place other);
  }

-- one answer to what stands at a place is all answers
pub any_answer : (name : List ℕ) (xs : List AuditPolicy) (k : ℕ) (e d : AuditPolicy) (b : Bool) → k < length xs → bytes_eq (get_or xs k e).name name ≡ b → bytes_eq (get_or xs k d).name name ≡ b
any_answer name [] k e d b within is = absurd (omega arith)
any_answer name (x ∷ xs) zero e d b within is = is
any_answer name (x ∷ xs) (suc k) e d b within is = any_answer name xs k e d b (omega arith) is
