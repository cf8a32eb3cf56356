-- What is an element of a list, and tests that all elements pass.
use Rattle.std.proofs.Common.{◌≡◌, ◌<◌, ◌⊎◌, ℕ, suc, zero, Bool, true, false, cond, inl, inr, List, [], ◌∷◌, filter, length, get_or, refl, arith}
use Rattle.std.specs.List.{Contains, list_all}
use Rattle.std.proofs.lemmas.Bool.{and_from, and_parts}
use Rattle.au_base.specs.Order.{is_in_order}

-- the first element
pub here : {X : Type 0} (x : X) (xs : List X) → Contains (x ∷ xs) x
here x xs = (0, omega arith, refl)

-- an element of the rest
pub there : {X : Type 0} (y : X) (xs : List X) (x : X) → Contains xs x → Contains (y ∷ xs) x
there y xs x (k, within, is) = (suc k, omega arith, is)

-- an element is the first or of the rest
pub split : {X : Type 0} (y : X) (xs : List X) (x : X) → Contains (y ∷ xs) x → (y ≡ x) ⊎ Contains xs x
split y xs x (zero, within, is) = inl is
split y xs x (suc k, within, is) = inr (k, omega arith, is)

-- nothing is an element of the empty list
pub none : {X : Type 0} (x : X) → Contains {X = X} [] x → ⊥
none x (k, within, is) = omega arith

-- what passes one test passes another
pub all_weaker : {X : Type 0} (one other : X → Bool) → ((x : X) → one x ≡ true → other x ≡ true) → (xs : List X) → list_all one xs ≡ true → list_all other xs ≡ true
all_weaker one other weaker [] all = refl
all_weaker one other weaker (x ∷ xs) all =
    let parts = and_parts (one x) (list_all one xs) all in
    and_from (other x) (list_all other xs) (weaker x parts.0) (all_weaker one other weaker xs parts.1)

all_at : {X : Type 0} (test : X → Bool) (xs : List X) (k : ℕ) (d : X) → list_all test xs ≡ true → k < length xs → test (get_or xs k d) ≡ true
all_at test [] k d all within = absurd (omega arith)
all_at test (x ∷ xs) zero d all within = (and_parts (test x) (list_all test xs) all).0
all_at test (x ∷ xs) (suc k) d all within = all_at test xs k d (and_parts (test x) (list_all test xs) all).1 (omega arith)

-- each element of a list in order comes before each later one
pub before_later : {X : Type 0} (before : X → X → Bool) (xs : List X) (i j : ℕ) (d : X) → is_in_order before xs ≡ true → i < j → j < length xs → before (get_or xs i d) (get_or xs j d) ≡ true
before_later before [] i j d ordered less within = absurd (omega arith)
before_later before (x ∷ xs) i zero d ordered less within = absurd (omega arith)
before_later before (x ∷ xs) zero (suc j) d ordered less within = all_at (before x) xs j d (and_parts (list_all (before x) xs) (is_in_order before xs) ordered).0 (omega arith)
before_later before (x ∷ xs) (suc i) (suc j) d ordered less within = before_later before xs i j d (and_parts (list_all (before x) xs) (is_in_order before xs) ordered).1 (omega arith) (omega arith)

-- ---- filters

passes_at : {X : Type 0} (test : X → Bool) (x : X) (some : List X) (b : Bool) → test x ≡ b → list_all test some ≡ true → list_all test (cond b (x ∷ some) some) ≡ true
passes_at test x some true is all = and_from (test x) (list_all test some) is all
passes_at test x some false is all = all

-- what a filter keeps passes its test
pub passes : {X : Type 0} (test : X → Bool) (xs : List X) → list_all test (filter test xs) ≡ true
passes test [] = refl
passes test (x ∷ xs) = passes_at test x (filter test xs) (test x) refl (passes test xs)

kept_at : {X : Type 0} (all : X → Bool) (x : X) (some : List X) (b : Bool) → all x ≡ true → list_all all some ≡ true → list_all all (cond b (x ∷ some) some) ≡ true
kept_at all x some true one more = and_from (all x) (list_all all some) one more
kept_at all x some false one more = more

all_kept : {X : Type 0} (all test : X → Bool) (xs : List X) → list_all all xs ≡ true → list_all all (filter test xs) ≡ true
all_kept all test [] each = refl
all_kept all test (x ∷ xs) each =
    let parts = and_parts (all x) (list_all all xs) each in
    kept_at all x (filter test xs) (test x) parts.0 (all_kept all test xs parts.1)

order_at : {X : Type 0} (before : X → X → Bool) (x : X) (some : List X) (b : Bool) → list_all (before x) some ≡ true → is_in_order before some ≡ true → is_in_order before (cond b (x ∷ some) some) ≡ true
order_at before x some true first more = and_from (list_all (before x) some) (is_in_order before some) first more
order_at before x some false first more = more

-- what a filter keeps stands in order
pub kept_in_order : {X : Type 0} (before : X → X → Bool) (test : X → Bool) (xs : List X) → is_in_order before xs ≡ true → is_in_order before (filter test xs) ≡ true
kept_in_order before test [] ordered = refl
kept_in_order before test (x ∷ xs) ordered =
    let parts = and_parts (list_all (before x) xs) (is_in_order before xs) ordered in
    order_at before x (filter test xs) (test x) (all_kept (before x) test xs parts.0) (kept_in_order before test xs parts.1)
