-- A filter of a product passes over rows that none of its combinations has.
use Rattle.std.proofs.Common.{◌≡◌, ◌∙◌, ◌≤◌, ◌*◌, ◌+◌, refl, sym, ap, ap₂, subst, ℕ, zero, suc, Bool, true, false, cond, ◌⊎◌, inl, inr, List, [], ◌∷◌, ◌++◌, map, length, filter, add-one, arith}
use Rattle.std.specs.Prelude.{Option, Some, None, IsTrue}
use Rattle.std.specs.List.{AllZip, Contains, enumerate_from, flat_map, slice_get}
use Rattle.std.proofs.lemmas.List.{map-append}
use Rattle.std.proofs.lemmas.List.Elements.{filter-append}
use Rattle.au_query.specs.Combos.{product, product_size}
use Rattle.au_world.proofs.Members.{here, there, split, mapped, none}

differs : true ≡ false → ⊥
differs e = cc

module _ {X : Type 0} where
  -- ---- combinations of the product

  in_front : (xs ys : List X) (x : X) → Contains xs x → Contains (xs ++ ys) x
  in_front [] ys x has = absurd (none x has)
  in_front (y ∷ xs) ys x has = elim (split y xs x has) [
    | inl same ↦ subst (λ z. Contains (y ∷ xs ++ ys) z) same (here y (xs ++ ys))
    | inr later ↦ there y (xs ++ ys) x (in_front xs ys x later)
  ]

  in_back : (xs ys : List X) (x : X) → Contains ys x → Contains (xs ++ ys) x
  in_back [] ys x has = has
  in_back (y ∷ xs) ys x has = there y (xs ++ ys) x (in_back xs ys x has)

  in_either : (xs ys : List X) (x : X) → Contains (xs ++ ys) x → Contains xs x ⊎ Contains ys x
  in_either [] ys x has = inr has
  in_either (y ∷ xs) ys x has = elim (split y (xs ++ ys) x has) [
    | inl same ↦ inl (subst (λ z. Contains (y ∷ xs) z) same (here y xs))
    | inr later ↦ (elim (in_either xs ys x later) [
      | inl first ↦ inl (there y xs x first)
      | inr second ↦ inr second
    ])
  ]

-- an element of lists laid end to end is one of what some element gives
in_flat : {X Y : Type 0} (f : X → List Y) (xs : List X) (y : Y) → Contains (flat_map f xs) y → (x : X) × Contains xs x × Contains (f x) y
in_flat f [] y has = absurd (none y has)
in_flat f (x ∷ xs) y has = elim (in_either (f x) (flat_map f xs) y has) [
  | inl first ↦ (x, here x xs, first)
  | inr later ↦ (let found = in_flat f xs y later in (found.0, there x xs found.0 found.1, found.2))
]

abbrev some_of : {X : Type 0} → X → Option X → X
some_of otherwise None = otherwise
some_of otherwise (Some x) = x

no_view : {X : Type 0} (x : X) → None ≡ Some x → ⊥
no_view x is = cc

-- each row of a combination is one of its view
pub row_of_view : {X : Type 0} (views : List (List X)) (combo : List X) (k : ℕ) (x : X) (view : List X)
    → Contains (product views) combo → slice_get combo k ≡ Some x → slice_get views k ≡ Some view → Contains view x
row_of_view [] combo k x view has at is = absurd (no_view view is)
row_of_view (v ∷ views) combo zero x view has at is =
    let found = in_flat (λ y. map (λ row. y ∷ row) (product views)) v combo has in
    let tail = mapped (λ row. found.0 ∷ row) (product views) combo found.2 in
    let row : found.0 ≡ x = ap (some_of x) (ap (λ c. slice_get c zero) tail.2 ∙ at) in
    let seen : v ≡ view = ap (some_of view) is in
    subst (λ z. Contains view z) row (subst (λ z. Contains z found.0) seen found.1)
row_of_view (v ∷ views) combo (suc k) x view has at is =
    let found = in_flat (λ y. map (λ row. y ∷ row) (product views)) v combo has in
    let tail = mapped (λ row. found.0 ∷ row) (product views) combo found.2 in
    row_of_view views tail.0 k x view tail.1 (ap (λ c. slice_get c (suc k)) tail.2 ∙ at) is

-- ---- filters of products

-- of a view only some rows are left, among them the row at its place of each combination that passes
pub record IsTrimmed {X : Type 0} (p : List X → Bool) (place : ℕ) (view part : List X) : Type 0 where
  pub keeps : X → Bool
  pub rows : part ≡ filter keeps view
  pub passing : (combo : List X) (x : X) → p combo ≡ true → slice_get combo place ≡ Some x → Contains view x → keeps x ≡ true

abbrev pub IsViewPart : {X : Type 0} → (List X → Bool) → ℕ × List X → List X → Type 0
IsViewPart p view part = (part ≡ view.1) ⊎ IsTrimmed p view.0 view.1 part

shift_one : {X : Type 0} (p : List X → Bool) (x : X) (n : ℕ) (view part : List X) → IsViewPart p (n + 1, view) part → IsViewPart (λ row. p (x ∷ row)) (n, view) part
shift_one p x n view part is = elim is [
  | inl same ↦ inl same
  | inr cut ↦ inr (record {
    keeps = cut.keeps;
    rows = cut.rows;
    passing = λ combo y holds at has. cut.passing (x ∷ combo) y holds (ap (slice_get (x ∷ combo)) (add-one n) ∙ at) has;
  })
]

shift : {X : Type 0} (p : List X → Bool) (x : X) (n : ℕ) (views parts : List (List X)) → AllZip (IsViewPart p) (enumerate_from (n + 1) views) parts
    → AllZip (IsViewPart (λ row. p (x ∷ row))) (enumerate_from n views) parts
shift p x n [] [] all = tt
shift p x n [] (part ∷ parts) all = all
shift p x n (view ∷ views) [] all = all
shift p x n (view ∷ views) (part ∷ parts) all = (shift_one p x n view part all.0, shift p x (n + 1) views parts all.1)

module _ {X : Type 0} where
  -- the combinations of these rests that pass behind a row
  abbrev from : (List X → Bool) → List (List X) → X → List (List X)
  from p rests x = map (λ row. x ∷ row) (filter (λ row. p (x ∷ row)) rests)

  map_cond : (x : X) (b : Bool) (row : List X) (rows : List (List X)) → map (λ r. x ∷ r) (cond b (row ∷ rows) rows) ≡ cond b ((x ∷ row) ∷ map (λ r. x ∷ r) rows) (map (λ r. x ∷ r) rows)
  map_cond x true row rows = refl
  map_cond x false row rows = refl

  behind : (p : List X → Bool) (x : X) (rests : List (List X)) → filter p (map (λ row. x ∷ row) rests) ≡ from p rests x
  behind p x [] = refl
  behind p x (row ∷ rests) =
      ap (λ rows. cond (p (x ∷ row)) ((x ∷ row) ∷ rows) rows) (behind p x rests) ∙ sym (map_cond x (p (x ∷ row)) row (filter (λ r. p (x ∷ r)) rests))

  spread : (p : List X → Bool) (rests : List (List X)) (view : List X) → filter p (flat_map (λ x. map (λ row. x ∷ row) rests) view) ≡ flat_map (from p rests) view
  spread p rests [] = refl
  spread p rests (x ∷ view) =
      filter-append p (map (λ row. x ∷ row) rests) (flat_map (λ y. map (λ row. y ∷ row) rests) view)
      ∙ ap₂ (λ (a : List (List X)) (b : List (List X)). a ++ b) (behind p x rests) (spread p rests view)

  alike : (f g : X → List (List X)) → ((x : X) → f x ≡ g x) → (view : List X) → flat_map f view ≡ flat_map g view
  alike f g same [] = refl
  alike f g same (x ∷ view) = ap₂ (λ (a : List (List X)) (b : List (List X)). a ++ b) (same x) (alike f g same view)

  no_row_at : (p : List X → Bool) (row : List X) (rows : List (List X)) (b : Bool) → p row ≡ b → ((row : List X) → p row ≡ true → ⊥) → filter p rows ≡ [] → cond b (row ∷ filter p rows) (filter p rows) ≡ []
  no_row_at p row rows true is never rest = absurd (never row is)
  no_row_at p row rows false is never rest = rest

  no_row : (p : List X → Bool) (rows : List (List X)) → ((row : List X) → p row ≡ true → ⊥) → filter p rows ≡ []
  no_row p [] never = refl
  no_row p (row ∷ rows) never = no_row_at p row rows (p row) refl never (no_row p rows never)

  cut_at : (f : X → List (List X)) (keeps : X → Bool) (x : X) (view : List X) (b : Bool) → keeps x ≡ b → (keeps x ≡ false → f x ≡ [])
      → flat_map f (filter keeps view) ≡ flat_map f view → flat_map f (cond b (x ∷ filter keeps view) (filter keeps view)) ≡ f x ++ flat_map f view
  cut_at f keeps x view true is nothing rest = ap (λ rows. f x ++ rows) rest
  cut_at f keeps x view false is nothing rest = rest ∙ ap (λ rows. rows ++ flat_map f view) (sym (nothing is))

  cut_off : (f : X → List (List X)) (keeps : X → Bool) (view : List X) → ((x : X) → Contains view x → keeps x ≡ false → f x ≡ [])
      → flat_map f (filter keeps view) ≡ flat_map f view
  cut_off f keeps [] nothing = refl
  cut_off f keeps (x ∷ view) nothing = cut_at f keeps x view (keeps x) refl (nothing x (here x view)) (cut_off f keeps view (λ y has. nothing y (there x view y has)))

  trimmed : (p : List X → Bool) (rests : List (List X)) (view part : List X) → IsViewPart p (0, view) part → flat_map (from p rests) part ≡ flat_map (from p rests) view
  trimmed p rests view part is = elim is [
    | inl same ↦ ap (flat_map (from p rests)) same
    | inr cut ↦ (ap (flat_map (from p rests)) cut.rows ∙ cut_off (from p rests) cut.keeps view (λ x has off.
        ap (map (λ row. x ∷ row)) (no_row (λ row. p (x ∷ row)) rests (λ row holds. differs (sym (cut.passing (x ∷ row) x holds refl has) ∙ off)))))
  ]

-- over parts of the views the same combinations pass
pub passing_parts : {X : Type 0} (p : List X → Bool) (views parts : List (List X)) → AllZip (IsViewPart p) (enumerate_from 0 views) parts
    → filter p (product parts) ≡ filter p (product views)
passing_parts p [] [] all = refl
passing_parts p [] (part ∷ parts) all = absurd all
passing_parts p (view ∷ views) [] all = absurd all
passing_parts p (view ∷ views) (part ∷ parts) all =
    spread p (product parts) part
    ∙ alike (from p (product parts)) (from p (product views)) (λ x. ap (map (λ row. x ∷ row)) (passing_parts (λ row. p (x ∷ row)) views parts (shift p x 0 views parts all.1))) part
    ∙ trimmed p (product views) view part all.0
    ∙ sym (spread p (product views) view)

-- ---- sizes

filter_few_at : {X : Type 0} (keeps : X → Bool) (x : X) (xs : List X) (b : Bool) → length (filter keeps xs) ≤ length xs → length (cond b (x ∷ filter keeps xs) (filter keeps xs)) ≤ length (x ∷ xs)
filter_few_at keeps x xs true few = omega (arith, few)
filter_few_at keeps x xs false few = omega (arith, few)

pub filter_few : {X : Type 0} (keeps : X → Bool) (xs : List X) → length (filter keeps xs) ≤ length xs
filter_few keeps [] = omega arith
filter_few keeps (x ∷ xs) = filter_few_at keeps x xs (keeps x) (filter_few keeps xs)

part_few : {X : Type 0} (p : List X → Bool) (view : ℕ × List X) (part : List X) → IsViewPart p view part → length part ≤ length view.1
part_few p view part is = elim is [
  | inl same ↦ (let n = ap length same in omega (arith, n))
  | inr cut ↦ (let n = ap length cut.rows in let few = filter_few cut.keeps view.1 in omega (arith, n, few))
]

pub sizes_rise : (a b c d : ℕ) → a ≤ b → c ≤ d → a * c ≤ b * d
sizes_rise a b c d ab cd = grind (arith, ab, cd)

pub parts_few : {X : Type 0} (p : List X → Bool) (n : ℕ) (views parts : List (List X)) → AllZip (IsViewPart p) (enumerate_from n views) parts → product_size parts ≤ product_size views
parts_few p n [] [] all = omega arith
parts_few p n [] (part ∷ parts) all = absurd all
parts_few p n (view ∷ views) [] all = absurd all
parts_few p n (view ∷ views) (part ∷ parts) all = sizes_rise (length part) (length view) (product_size parts) (product_size views) (part_few p (n, view) part all.0) (parts_few p (n + 1) views parts all.1)
