-- What is an element of a list, and what a test finds there.
use Rattle.std.proofs.Common.{◌≡◌, ◌∙◌, suc, zero, Bool, true, false, not, cond, if◌then◌else◌, ◌⊎◌, inl, inr, List, [], ◌∷◌, ◌++◌, map, refl, sym, ap, subst, arith}
use Rattle.std.specs.List.{AllByRecursion, Contains, filter, list_all, list_any}
use Rattle.std.specs.declared.cmp.Ordering.{Ordering}
use Rattle.std.specs.declared.cmp.Ordering.TheVariants.{Less, Equal, Greater}
use Rattle.std.specs.Ordering.{is_gt, is_lt}
use Rattle.std.proofs.lemmas.Bool.{and_from, and_parts, or_cases, or_left, or_right}
use Rattle.au_base.specs.Order.{placed}
use Rattle.au_entries.specs.Changing.{put_in_order}
use Rattle.au_grants.specs.Changing.{with_admin, with_grant}

-- the first element
pub here : {X : Type 0} (x : X) (xs : List X) → Contains (x ∷ xs) x
here x xs = (0, omega arith, refl)

-- an element of the rest
pub there : {X : Type 0} (y : X) (xs : List X) (x : X) → Contains xs x → Contains (y ∷ xs) x
there y xs x (k, within, is) = (suc k, omega arith, is)

-- an element is the first or of the rest
pub split : {X : Type 0} (y : X) (xs : List X) (x : X) → Contains (y ∷ xs) x → (y ≡ x) ⊎ Contains xs x
split y xs x (zero, within, is) = inl is
split y xs x (suc k, within, is) = inr (k, omega arith, is)

-- nothing is an element of the empty list
pub none : {X : Type 0} (x : X) → Contains {X = X} [] x → ⊥
none x (k, within, is) = omega arith

-- an element of the joined list is one of either
pub append_cases : {X : Type 0} (xs ys : List X) (x : X) → Contains (xs ++ ys) x → Contains xs x ⊎ Contains ys x
append_cases [] ys x has = inr has
append_cases (y ∷ xs) ys x has = elim (split y (xs ++ ys) x has) [
  | inl same ↦ inl (subst (λ z. Contains (y ∷ xs) z) same (here y xs))
  | inr later ↦ elim (append_cases xs ys x later) [
    | inl left ↦ inl (there y xs x left)
    | inr right ↦ inr right
  ]
]

pub append_left : {X : Type 0} (xs ys : List X) (x : X) → Contains xs x → Contains (xs ++ ys) x
append_left [] ys x has = absurd (none x has)
append_left (y ∷ xs) ys x has = elim (split y xs x has) [
  | inl same ↦ subst (λ z. Contains (y ∷ (xs ++ ys)) z) same (here y (xs ++ ys))
  | inr later ↦ there y (xs ++ ys) x (append_left xs ys x later)
]

pub append_right : {X : Type 0} (xs ys : List X) (x : X) → Contains ys x → Contains (xs ++ ys) x
append_right [] ys x has = has
append_right (y ∷ xs) ys x has = there y (xs ++ ys) x (append_right xs ys x has)

-- a test that some element passes finds one
pub any_from : {X : Type 0} (test : X → Bool) (xs : List X) → list_any test xs ≡ true → (x : X) × Contains xs x × (test x ≡ true)
any_from test [] is = absurd (let e : false ≡ true = is in cc)
any_from test (y ∷ xs) is = elim (or_cases (test y) (list_any test xs) is) [
  | inl passes ↦ (y, here y xs, passes)
  | inr later ↦ (let found = any_from test xs later in (found.0, there y xs found.0 found.1, found.2))
]

pub any_to : {X : Type 0} (test : X → Bool) (xs : List X) (x : X) → Contains xs x → test x ≡ true → list_any test xs ≡ true
any_to test [] x has passes = absurd (none x has)
any_to test (y ∷ xs) x has passes = elim (split y xs x has) [
  | inl same ↦ or_left (test y) (list_any test xs) (ap test same ∙ passes)
  | inr later ↦ or_right (test y) (list_any test xs) (any_to test xs x later passes)
]

-- an element of a filtered list is one of the list
kept_at : {X : Type 0} (b : Bool) (y : X) (rest ys : List X) (x : X) → (Contains rest x → Contains ys x) → Contains (cond b (y ∷ rest) rest) x → Contains (y ∷ ys) x
kept_at true y rest ys x more has = elim (split y rest x has) [
  | inl same ↦ subst (λ z. Contains (y ∷ ys) z) same (here y ys)
  | inr later ↦ there y ys x (more later)
]
kept_at false y rest ys x more has = there y ys x (more has)

pub kept : {X : Type 0} (test : X → Bool) (xs : List X) (x : X) → Contains (filter test xs) x → Contains xs x
kept test [] x has = has
kept test (y ∷ ys) x has = kept_at (test y) y (filter test ys) ys x (kept test ys x) has

-- an element of a mapped list comes from one of the list
pub mapped : {X Y : Type 0} (f : X → Y) (xs : List X) (y : Y) → Contains (map f xs) y → (x : X) × Contains xs x × (f x ≡ y)
mapped f [] y has = absurd (none y has)
mapped f (x ∷ xs) y has = elim (split (f x) (map f xs) y has) [
  | inl same ↦ (x, here x xs, same)
  | inr later ↦ (let found = mapped f xs y later in (found.0, there x xs found.0 found.1, found.2))
]

-- a test that fails for all finds nothing
pub none_pass : {X : Type 0} (test : X → Bool) (xs : List X) (x : X) → not (list_any test xs) ≡ true → Contains xs x → test x ≡ true → ⊥
none_pass test xs x none has is = let e : false ≡ true = sym (ap not (any_to test xs x has is)) ∙ none in cc

-- an element that passes is one of the filtered list
stays_at : {X : Type 0} (b : Bool) (y : X) (rest : List X) → b ≡ true → Contains (cond b (y ∷ rest) rest) y
stays_at true y rest is = here y rest
stays_at false y rest is = absurd (let e : false ≡ true = is in cc)

later_at : {X : Type 0} (b : Bool) (y : X) (rest : List X) (x : X) → Contains rest x → Contains (cond b (y ∷ rest) rest) x
later_at true y rest x has = there y rest x has
later_at false y rest x has = has

pub stays : {X : Type 0} (test : X → Bool) (xs : List X) (x : X) → Contains xs x → test x ≡ true → Contains (filter test xs) x
stays test [] x has is = absurd (none x has)
stays test (y ∷ xs) x has is = elim (split y xs x has) [
  | inl same ↦ subst (λ z. Contains (cond (test y) (y ∷ filter test xs) (filter test xs)) z) same (stays_at (test y) y (filter test xs) (ap test same ∙ is))
  | inr later ↦ later_at (test y) y (filter test xs) x (stays test xs x later is)
]

-- and passes its test
passes_at : {X : Type 0} (test : X → Bool) (y : X) (rest : List X) (x : X) (b : Bool) → test y ≡ b → (Contains rest x → test x ≡ true) → Contains (cond b (y ∷ rest) rest) x → test x ≡ true
passes_at test y rest x true is more has = elim (split y rest x has) [
  | inl same ↦ ap test (sym same) ∙ is
  | inr later ↦ more later
]
passes_at test y rest x false is more has = more has

pub passed : {X : Type 0} (test : X → Bool) (xs : List X) (x : X) → Contains (filter test xs) x → test x ≡ true
passed test [] x has = absurd (none x has)
passed test (y ∷ xs) x has = passes_at test y (filter test xs) x (test y) refl (passed test xs x) has

-- what holds of all holds of each, and the other way round
pub all_at : {X : Type 0} (P : X → Type 0) (xs : List X) → AllByRecursion P xs → (x : X) → Contains xs x → P x
all_at P [] all x has = absurd (none x has)
all_at P (y ∷ xs) all x has = elim (split y xs x has) [
  | inl same ↦ subst P same all.0
  | inr later ↦ all_at P xs all.1 x later
]

pub all_of : {X : Type 0} (P : X → Type 0) (xs : List X) → ((x : X) → Contains xs x → P x) → AllByRecursion P xs
all_of P [] each = tt
all_of P (y ∷ xs) each = (each y (here y xs), all_of P xs (λ x has. each x (there y xs x has)))

-- an element of a list with an entry that was put in order is that entry or one of the list
pub put_cases : {X : Type 0} (order : X → Ordering) (entry : X) (xs : List X) (x : X) → Contains (put_in_order order entry xs) x → (entry ≡ x) ⊎ Contains xs x
put_cases order entry xs x has =
    elim (append_cases (filter (λ other. is_lt (order other)) xs) (entry ∷ filter (λ other. is_gt (order other)) xs) x has) [
      | inl front ↦ inr (kept (λ other. is_lt (order other)) xs x front)
      | inr behind ↦ elim (split entry (filter (λ other. is_gt (order other)) xs) x behind) [
        | inl same ↦ inl same
        | inr later ↦ inr (kept (λ other. is_gt (order other)) xs x later)
      ]
    ]

pub put_new : {X : Type 0} (order : X → Ordering) (entry : X) (xs : List X) → Contains (put_in_order order entry xs) entry
put_new order entry xs = append_right (filter (λ other. is_lt (order other)) xs) (entry ∷ filter (λ other. is_gt (order other)) xs) entry (here entry _)

put_old_at : {X : Type 0} (order : X → Ordering) (entry : X) (xs : List X) (x : X) (o : Ordering) → order x ≡ o → Contains xs x → (order x ≡ Equal) ⊎ Contains (put_in_order order entry xs) x
put_old_at order entry xs x Less is has =
    inr (append_left (filter (λ other. is_lt (order other)) xs) (entry ∷ filter (λ other. is_gt (order other)) xs) x (stays (λ other. is_lt (order other)) xs x has (ap is_lt is)))
put_old_at order entry xs x Equal is has = inl is
put_old_at order entry xs x Greater is has =
    inr (append_right (filter (λ other. is_lt (order other)) xs) (entry ∷ filter (λ other. is_gt (order other)) xs) x
    (there entry _ x (stays (λ other. is_gt (order other)) xs x has (ap is_gt is))))

-- an element of the list is in the place of the entry, or one of the list with it
pub put_old : {X : Type 0} (order : X → Ordering) (entry : X) (xs : List X) (x : X) → Contains xs x → (order x ≡ Equal) ⊎ Contains (put_in_order order entry xs) x
put_old order entry xs x has = put_old_at order entry xs x (order x) refl has

-- a test that finds something finds it in the list with the entry, where the entry passes in place of what it replaces
pub put_any : {X : Type 0} (test : X → Bool) (order : X → Ordering) (entry : X) (xs : List X) → ((x : X) → order x ≡ Equal → test x ≡ true → test entry ≡ true)
    → list_any test xs ≡ true → list_any test (put_in_order order entry xs) ≡ true
put_any test order entry xs replaces is =
    let found = any_from test xs is in
    elim (put_old order entry xs found.0 found.1) [
      | inl same ↦ any_to test (put_in_order order entry xs) entry (put_new order entry xs) (replaces found.0 same found.2)
      | inr has ↦ any_to test (put_in_order order entry xs) found.0 has found.2
    ]

-- and among those that a filter keeps, where what it finds is kept
pub kept_any : {X : Type 0} (test keep : X → Bool) (xs : List X) → ((x : X) → test x ≡ true → keep x ≡ true) → list_any test xs ≡ true → list_any test (filter keep xs) ≡ true
kept_any test keep xs keeps is =
    let found = any_from test xs is in
    any_to test (filter keep xs) found.0 (stays keep xs found.0 found.1 (keeps found.0 found.2)) found.2

-- an element of the list with a new entry is that entry or one of the list
pub placed_cases : {X : Type 0} (before : X → X → Bool) (entry : X) (xs : List X) (x : X) → Contains (placed before entry xs) x → (entry ≡ x) ⊎ Contains xs x
placed_cases before entry xs x has =
    elim (append_cases (filter (λ other. before other entry) xs) (entry ∷ filter (λ other. not (before other entry)) xs) x has) [
      | inl front ↦ inr (kept (λ other. before other entry) xs x front)
      | inr behind ↦ elim (split entry (filter (λ other. not (before other entry)) xs) x behind) [
        | inl same ↦ inl same
        | inr later ↦ inr (kept (λ other. not (before other entry)) xs x later)
      ]
    ]

-- what holds of a grant, whatever its admin option, and of those that are there holds of all with it
admin_at : {X Y : Type 0} (P : X → Y → Type 0) (admin : Bool) (entry : X × Y × Bool) (b : Bool) → P entry.0 entry.1 → P (if b then (entry.0, entry.1, admin) else entry).0 (if b then (entry.0, entry.1, admin) else entry).1
admin_at P admin entry true here = here
admin_at P admin entry false here = here

granted_at : {X Y : Type 0} (P : X → Y → Type 0) (before : X × Y × Bool → X × Y × Bool → Bool) (test : X × Y × Bool → Bool) (grant : X × Y × Bool) (entries : List (X × Y × Bool)) (b : Bool)
    → P grant.0 grant.1 → ((x : X × Y × Bool) → Contains entries x → P x.0 x.1) → (x : X × Y × Bool)
    → Contains (if b then map (with_admin test grant.2) entries else placed before grant entries) x → P x.0 x.1
granted_at {X} {Y} P before test grant entries true new old x has =
    let found = mapped (with_admin test grant.2) entries x has in
    subst (λ (z : X × Y × Bool). P z.0 z.1) found.2 (admin_at P grant.2 found.0 (test found.0) (old found.0 found.1))
granted_at {X} {Y} P before test grant entries false new old x has = elim (placed_cases before grant entries x has) [
  | inl same ↦ subst (λ (z : X × Y × Bool). P z.0 z.1) same new
  | inr there ↦ old x there
]

pub granted : {X Y : Type 0} (P : X → Y → Type 0) (before : X × Y × Bool → X × Y × Bool → Bool) (test : X × Y × Bool → Bool) (grant : X × Y × Bool) (entries : List (X × Y × Bool))
    → P grant.0 grant.1 → ((x : X × Y × Bool) → Contains entries x → P x.0 x.1) → (x : X × Y × Bool) → Contains (with_grant before test grant entries) x → P x.0 x.1
granted P before test grant entries new old x has = granted_at P before test grant entries (list_any test entries) new old x has

-- what f makes of an element is one of the mapped list
pub mapped_to : {X Y : Type 0} (f : X → Y) (xs : List X) (x : X) → Contains xs x → Contains (map f xs) (f x)
mapped_to f [] x has = absurd (none x has)
mapped_to f (y ∷ xs) x has = elim (split y xs x has) [
  | inl same ↦ subst (λ z. Contains (f y ∷ map f xs) (f z)) same (here (f y) (map f xs))
  | inr later ↦ there (f y) (map f xs) (f x) (mapped_to f xs x later)
]
