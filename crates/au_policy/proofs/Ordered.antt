-- What stands in order by its names does so where some are left out.
use Rattle.std.proofs.Common.{◌≡◌, Bool, true, false, cond, List, [], ◌∷◌, map, refl}
use Rattle.std.specs.List.{filter, list_all}
use Rattle.std.proofs.lemmas.Bool.{and_from, and_parts}
use Rattle.au_base.specs.Order.{is_in_order}

all_at : {X Y : Type 0} (passes : Y → Bool) (f : X → Y) (x : X) (kept : List X) (b : Bool) → passes (f x) ≡ true → list_all passes (map f kept) ≡ true → list_all passes (map f (cond b (x ∷ kept) kept)) ≡ true
all_at passes f x kept true one more = and_from (passes (f x)) (list_all passes (map f kept)) one more
all_at passes f x kept false one more = more

all_kept : {X Y : Type 0} (passes : Y → Bool) (f : X → Y) (test : X → Bool) (xs : List X) → list_all passes (map f xs) ≡ true → list_all passes (map f (filter test xs)) ≡ true
all_kept passes f test [] all = refl
all_kept passes f test (x ∷ xs) all =
    let parts = and_parts (passes (f x)) (list_all passes (map f xs)) all in
    all_at passes f x (filter test xs) (test x) parts.0 (all_kept passes f test xs parts.1)

order_at : {X Y : Type 0} (before : Y → Y → Bool) (f : X → Y) (x : X) (kept : List X) (b : Bool) → list_all (before (f x)) (map f kept) ≡ true → is_in_order before (map f kept) ≡ true → is_in_order before (map f (cond b (x ∷ kept) kept)) ≡ true
order_at before f x kept true first more = and_from (list_all (before (f x)) (map f kept)) (is_in_order before (map f kept)) first more
order_at before f x kept false first more = more

pub order_kept : {X Y : Type 0} (before : Y → Y → Bool) (f : X → Y) (test : X → Bool) (xs : List X) → is_in_order before (map f xs) ≡ true → is_in_order before (map f (filter test xs)) ≡ true
order_kept before f test [] ordered = refl
order_kept before f test (x ∷ xs) ordered =
    let parts = and_parts (list_all (before (f x)) (map f xs)) (is_in_order before (map f xs)) ordered in
    order_at before f x (filter test xs) (test x) (all_kept (before (f x)) f test xs parts.0) (order_kept before f test xs parts.1)
