-- The place of an entry among those that stand in the order of their keys, and what stands there.
use Rattle.std.proofs.Common.{◌≡◌, ◌≤◌, ◌<◌, ◌∙◌, ℕ, zero, suc, Bool, true, false, not, cond, List, [], ◌∷◌, ◌++◌, length, get_or, take, drop, map, remove, refl, sym, ap, subst, arith}
use Rattle.std.specs.List.{AllByRecursion, filter, list_all}
use Rattle.std.specs.List.Sorted.{IsPartitionedBy}
use Rattle.std.specs.declared.cmp.Ordering.{Ordering}
use Rattle.std.specs.declared.cmp.Ordering.TheVariants.{Less, Equal, Greater}
use Rattle.std.specs.Ordering.{is_eq, is_gt, is_lt, ordering_reverse}
use Rattle.std.specs.Cmp.{IsTotalOrder}
use Rattle.std.proofs.lemmas.Bool.{and_from}
use Rattle.au_base.specs.Order.{IsTransitive, is_in_order}
use Rattle.au_base.specs.OrderLaws.{total_transitive}
use Rattle.au_catalog.proofs.Halving.{parted}
use Rattle.au_catalog.proofs.AllOf.{passes}
use Rattle.au_catalog.proofs.Rising.{Before, Rises, kept_rises, rises}
use Rattle.au_catalog.specs.descent.Editing.{IsPlace}

-- entries whose keys stand in an order stand so themselves
all_direct : {K X : Type 0} (cmp : K → K → Ordering) (key : X → K) (x : X) (xs : List X) → AllByRecursion (λ y. Before cmp (key x) (key y) ≡ true) xs → list_all (λ y. Before cmp (key x) (key y)) xs ≡ true
all_direct cmp key x [] all = refl
all_direct cmp key x (y ∷ xs) all = and_from (Before cmp (key x) (key y)) _ all.0 (all_direct cmp key x xs all.1)

direct : {K X : Type 0} (cmp : K → K → Ordering) (key : X → K) (xs : List X) → Rises cmp key xs → is_in_order (λ a b. Before cmp (key a) (key b)) xs ≡ true
direct cmp key [] up = refl
direct cmp key (x ∷ xs) up = and_from (list_all (λ y. Before cmp (key x) (key y)) xs) _ (all_direct cmp key x xs up.0) (direct cmp key xs up.1)

-- what `partition_point` asks
pub parted_by : {K X : Type 0} (cmp : K → K → Ordering) → IsTotalOrder cmp → (key : X → K) (entry : X) (xs : List X) → is_in_order (λ a b. is_lt (cmp a b)) (map key xs) ≡ true
    → IsPartitionedBy (λ x. is_lt (cmp (key x) (key entry))) xs
parted_by cmp total key entry xs ordered =
    parted (λ a b. is_lt (cmp (key a) (key b))) (λ a b c. total_transitive cmp total (key a) (key b) (key c)) entry xs (direct cmp key xs (rises cmp key xs ordered))

less : (o : Ordering) → is_lt o ≡ true → o ≡ Less
less Less is = refl
less Equal is = absurd (let e : false ≡ true = is in cc)
less Greater is = absurd (let e : false ≡ true = is in cc)

-- what stands behind a key that isn't less than another is greater than the other
behind_at : {K : Type 0} (cmp : K → K → Ordering) → IsTotalOrder cmp → (a b e : K) → is_lt (cmp a b) ≡ true → (o : Ordering) → cmp a e ≡ o → is_lt o ≡ false → is_gt (cmp b e) ≡ true
behind_at cmp total a b e before Less is not_less = absurd (let f : true ≡ false = not_less in cc)
behind_at cmp total a b e before Equal is not_less =
    ap is_gt (total.antisymm b e ∙ ap ordering_reverse (sym (total.congr a e b is) ∙ less _ before))
behind_at cmp total a b e before Greater is not_less =
    ap is_gt (total.antisymm b e ∙ ap ordering_reverse (total.trans e a b (total.antisymm e a ∙ ap ordering_reverse is) (less _ before)))

all_behind : {K X : Type 0} (cmp : K → K → Ordering) → IsTotalOrder cmp → (key : X → K) (entry x : X) (xs : List X) → AllByRecursion (λ y. Before cmp (key x) (key y) ≡ true) xs
    → is_lt (cmp (key x) (key entry)) ≡ false → filter (λ y. is_gt (cmp (key y) (key entry))) xs ≡ xs
all_behind cmp total key entry x [] all at = refl
all_behind cmp total key entry x (y ∷ xs) all at =
    ap (λ b. cond b (y ∷ filter (λ z. is_gt (cmp (key z) (key entry))) xs) (filter (λ z. is_gt (cmp (key z) (key entry))) xs)) (behind_at cmp total (key x) (key y) (key entry) all.0 (cmp (key x) (key entry)) refl at)
    ∙ ap (λ ys. y ∷ ys) (all_behind cmp total key entry x xs all.1 at)

-- the greater entries are those that are greater among those that aren't less
greater_last_at : {X : Type 0} (x : X) (xs more : List X) (o : Ordering) → xs ≡ more → cond (is_gt o) (x ∷ xs) xs ≡ cond (not (is_lt o)) (cond (is_gt o) (x ∷ more) more) more
greater_last_at x xs more Less same = same
greater_last_at x xs more Equal same = same
greater_last_at x xs more Greater same = ap (λ ys. x ∷ ys) same

through : {X : Type 0} (test : X → Bool) (x : X) (xs : List X) (b : Bool) → cond b (cond (test x) (x ∷ filter test xs) (filter test xs)) (filter test xs) ≡ filter test (cond b (x ∷ xs) xs)
through test x xs true = refl
through test x xs false = refl

greater_last : {X : Type 0} (order : X → Ordering) (xs : List X) → filter (λ y. is_gt (order y)) xs ≡ filter (λ y. is_gt (order y)) (filter (λ y. not (is_lt (order y))) xs)
greater_last order [] = refl
greater_last order (x ∷ xs) =
    greater_last_at x _ _ (order x) (greater_last order xs) ∙ through (λ y. is_gt (order y)) x (filter (λ y. not (is_lt (order y))) xs) (not (is_lt (order x)))

-- of such entries all but one with the same key are greater
first_equal : {X : Type 0} (x : X) (xs ys : List X) (o : Ordering) → is_eq o ≡ true → ys ≡ xs → cond (is_gt o) (x ∷ ys) ys ≡ xs
first_equal x xs ys Less is same = absurd (let e : false ≡ true = is in cc)
first_equal x xs ys Equal is same = same
first_equal x xs ys Greater is same = absurd (let e : false ≡ true = is in cc)

first_other : {X : Type 0} (x : X) (xs ys : List X) (o : Ordering) → is_eq o ≡ false → not (is_lt o) ≡ true → ys ≡ xs → cond (is_gt o) (x ∷ ys) ys ≡ x ∷ xs
first_other x xs ys Less isnt not_less same = absurd (let e : false ≡ true = not_less in cc)
first_other x xs ys Equal isnt not_less same = absurd (let e : true ≡ false = isnt in cc)
first_other x xs ys Greater isnt not_less same = ap (λ zs. x ∷ zs) same

is_false : (b : Bool) → not b ≡ true → b ≡ false
is_false true is = absurd (let e : false ≡ true = is in cc)
is_false false is = refl

drop_at : {X : Type 0} (xs : List X) (k : ℕ) (d : X) → k < length xs → drop k xs ≡ get_or xs k d ∷ drop (suc k) xs
drop_at [] k d within = absurd (omega arith)
drop_at (x ∷ xs) zero d within = refl
drop_at (x ∷ xs) (suc k) d within = drop_at xs k d (omega arith)

drop_end : {X : Type 0} (xs : List X) (k : ℕ) → length xs ≤ k → drop k xs ≡ []
drop_end [] zero end = refl
drop_end [] (suc k) end = refl
drop_end (x ∷ xs) zero end = absurd (omega arith)
drop_end (x ∷ xs) (suc k) end = drop_end xs k (omega arith)

drop_front : {X : Type 0} (xs ys : List X) (k : ℕ) → k ≤ length xs → drop k (take k xs ++ ys) ≡ ys
drop_front xs ys zero within = refl
drop_front [] ys (suc k) within = absurd (omega arith)
drop_front (x ∷ xs) ys (suc k) within = drop_front xs ys k (omega arith)

-- the entries that aren't less, the one at the place in front
module _ {K X : Type 0} (cmp : K → K → Ordering) (total : IsTotalOrder cmp) (key : X → K) (entry : X) (xs : List X) (ordered : is_in_order (λ a b. is_lt (cmp a b)) (map key xs) ≡ true) where
  abbrev order : X → Ordering
  order other = cmp (key other) (key entry)

  behind : {y : X} {zs : List X} → filter (λ other. not (is_lt (order other))) xs ≡ y ∷ zs → (not (is_lt (order y)) ≡ true) × (filter (λ other. is_gt (order other)) zs ≡ zs)
  behind {y} {zs} are =
      let up : Rises cmp key (y ∷ zs) = subst (λ ys. Rises cmp key ys) are (kept_rises cmp key (λ other. not (is_lt (order other))) xs (rises cmp key xs ordered)) in
      let all : AllByRecursion (λ other. not (is_lt (order other)) ≡ true) (y ∷ zs) = subst (λ ys. AllByRecursion (λ other. not (is_lt (order other)) ≡ true) ys) are (passes (λ other. not (is_lt (order other))) xs) in
      (all.0, all_behind cmp total key entry y zs up.0 (is_false _ all.0))

  -- the entry at the place goes, where it has the key
  pub gone : (now : List X) (k : ℕ) (read : X) (b : Bool) → IsPlace order xs k → k < length xs → read ≡ get_or xs k read → b ≡ is_eq (order read) → b ≡ true → now ≡ remove xs k
      → drop k now ≡ filter (λ other. is_gt (order other)) xs
  gone now k read b place within is tested equal makes =
      let are : filter (λ other. not (is_lt (order other))) xs ≡ read ∷ drop (suc k) xs = sym place.rest ∙ drop_at xs k read within ∙ ap (λ y. y ∷ drop (suc k) xs) (sym is) in
      ap (drop k) makes ∙ drop_front xs (drop (suc k) xs) k place.within
      ∙ sym (greater_last order xs ∙ ap (filter (λ other. is_gt (order other))) are ∙ first_equal read (drop (suc k) xs) _ (order read) (sym tested ∙ equal) (behind are).1)

  -- and else stays
  pub stays : (k : ℕ) (read : X) (b : Bool) → IsPlace order xs k → k < length xs → read ≡ get_or xs k read → b ≡ is_eq (order read) → b ≡ false
      → drop k xs ≡ filter (λ other. is_gt (order other)) xs
  stays k read b place within is tested other =
      let cons : drop k xs ≡ read ∷ drop (suc k) xs = drop_at xs k read within ∙ ap (λ y. y ∷ drop (suc k) xs) (sym is) in
      let are : filter (λ other. not (is_lt (order other))) xs ≡ read ∷ drop (suc k) xs = sym place.rest ∙ cons in
      cons ∙ sym (greater_last order xs ∙ ap (filter (λ other. is_gt (order other))) are ∙ first_other read (drop (suc k) xs) _ (order read) (sym tested ∙ other) (behind are).0 (behind are).1)

  pub ends : (k : ℕ) → IsPlace order xs k → length xs ≤ k → drop k xs ≡ filter (λ other. is_gt (order other)) xs
  ends k place end =
      let none : drop k xs ≡ [] = drop_end xs k end in
      none ∙ sym (greater_last order xs ∙ ap (filter (λ other. is_gt (order other))) (sym place.rest ∙ none))
