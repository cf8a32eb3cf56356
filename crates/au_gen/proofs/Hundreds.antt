-- Where things stand that come one for each number from 1 on, and one more behind each hundredth.
use Rattle.std.proofs.Common.{◌≡◌, ◌∙◌, ℕ, zero, suc, ◌+◌, ◌-◌, ◌*◌, ◌/◌, ◌%◌, ◌<◌, ◌==◌, Bool, true, false, if◌then◌else◌, List, [], ◌∷◌, ◌++◌, length, refl, sym, ap, append_assoc, length-append, arith, Some}
use Rattle.std.specs.List.{flat_map, range_with_len, slice_get}
use Rattle.std.proofs.Math.Decide.{dec_lt}
use Rattle.std.proofs.Math.Logic.{dite}
use Rattle.std.proofs.lemmas.Bool.{eqb-true, eqb-false, ne_eqb, eq-eqb}
use Rattle.std.proofs.lemmas.List.{append-nil}

abbrev pub each : {A : Type 0} → (ℕ → A) → (ℕ → A) → ℕ → List A
each put end row = put row ∷ (if row % 100 == 0 then end row ∷ [] else [])

abbrev pub all : {A : Type 0} → (ℕ → A) → (ℕ → A) → ℕ → List A
all put end rows = flat_map (each put end) (range_with_len 1 rows)

abbrev pub there : {A : Type 0} → (ℕ → A) → (ℕ → A) → ℕ → A
there put end place = if place % 101 == 100 then end (place / 101 * 100 + 100) else put (place / 101 * 100 + place % 101 + 1)

pub get_left : {A : Type 0} (xs ys : List A) (i : ℕ) → i < length xs → slice_get (xs ++ ys) i ≡ slice_get xs i
get_left [] ys i least = absurd (omega (arith, least))
get_left (x ∷ xs) ys zero least = refl
get_left (x ∷ xs) ys (suc i) least = get_left xs ys i (omega (arith, least))

pub get_right : {A : Type 0} (xs ys : List A) (i j : ℕ) → i ≡ length xs + j → slice_get (xs ++ ys) i ≡ slice_get ys j
get_right [] ys i j at = ap (slice_get ys) (let e : i ≡ j = omega (arith, at) in e)
get_right (x ∷ xs) ys zero j at = absurd (omega (arith, at))
get_right (x ∷ xs) ys (suc i) j at = get_right xs ys i j (omega (arith, at))

more : {A : Type 0} (f : ℕ → List A) (a n j : ℕ) → a + n ≡ j → flat_map f (range_with_len a (suc n)) ≡ flat_map f (range_with_len a n) ++ f j
more f a zero j at = append-nil (f a) ∙ ap f (let e : a ≡ j = omega (arith, at) in e)
more f a (suc n) j at =
    ap (λ (rest : List _). f a ++ rest) (more f (a + 1) n j (omega (arith, at)))
    ∙ sym (append_assoc (f a) (flat_map f (range_with_len (a + 1) n)) (f j))

one_more : {A : Type 0} (put end : ℕ → A) (rows : ℕ) → all put end (suc rows) ≡ all put end rows ++ each put end (suc rows)
one_more put end rows = more (each put end) 1 rows (suc rows) (omega arith)

positive : (n : ℕ) → (n ≡ 0 → ⊥) → 0 < n
positive zero none = absurd (none refl)
positive (suc n) none = omega arith

size_step : {A : Type 0} (x e : A) (rows size : ℕ) (b : Bool) → (suc rows % 100 == 0) ≡ b → size ≡ rows + rows / 100
    → size + length (x ∷ (if b then e ∷ [] else [])) ≡ suc rows + suc rows / 100
size_step x e rows size true is same = let h = eqb-true (suc rows % 100) 0 is in omega (arith, h, same)
size_step x e rows size false is same =
    let h : 0 < suc rows % 100 = positive (suc rows % 100) (eqb-false (suc rows % 100) 0 is) in omega (arith, h, same)

pub size : {A : Type 0} (put end : ℕ → A) (rows : ℕ) → length (all put end rows) ≡ rows + rows / 100
size put end zero = refl
size put end (suc rows) =
    ap length (one_more put end rows) ∙ length-append (all put end rows) (each put end (suc rows))
    ∙ size_step (put (suc rows)) (end (suc rows)) rows (length (all put end rows)) (suc rows % 100 == 0) refl (size put end rows)

is_put : {A : Type 0} (put end : ℕ → A) (place row : ℕ) → place % 101 < 100 → place / 101 * 100 + place % 101 + 1 ≡ row → put row ≡ there put end place
is_put put end place row under is =
    sym (ap (λ (b : Bool). if b then end (place / 101 * 100 + 100) else put (place / 101 * 100 + place % 101 + 1)) (ne_eqb (place % 101) 100 (λ e. omega (arith, e, under))) ∙ ap put is)

is_end : {A : Type 0} (put end : ℕ → A) (place row : ℕ) → place % 101 ≡ 100 → place / 101 * 100 + 100 ≡ row → end row ≡ there put end place
is_end put end place row last is =
    sym (ap (λ (b : Bool). if b then end (place / 101 * 100 + 100) else put (place / 101 * 100 + place % 101 + 1)) (eq-eqb (place % 101) 100 last) ∙ ap end is)

-- among what comes for one number
last_at : {A : Type 0} (put end : ℕ → A) (rows place at : ℕ) (b : Bool) → (suc rows % 100 == 0) ≡ b → place ≡ rows + rows / 100 + at
    → at < length (put (suc rows) ∷ (if b then end (suc rows) ∷ [] else [])) → slice_get (put (suc rows) ∷ (if b then end (suc rows) ∷ [] else [])) at ≡ Some (there put end place)
last_at put end rows place zero b is same least =
    ap Some (is_put put end place (suc rows) (omega (arith, same)) (omega (arith, same)))
last_at put end rows place (suc zero) true is same least =
    let h = eqb-true (suc rows % 100) 0 is in
    ap Some (is_end put end place (suc rows) (omega (arith, same, h)) (omega (arith, same, h)))
last_at put end rows place (suc (suc at)) true is same least = absurd (omega (arith, least))
last_at put end rows place (suc at) false is same least = absurd (omega (arith, least))

last_place : {A : Type 0} (x e : A) (rows place at : ℕ) (b : Bool) → (suc rows % 100 == 0) ≡ b → place ≡ rows + rows / 100 + at → place < suc rows + suc rows / 100
    → at < length (x ∷ (if b then e ∷ [] else []))
last_place x e rows place at true is same least = let h = eqb-true (suc rows % 100) 0 is in omega (arith, h, same, least)
last_place x e rows place at false is same least =
    let h : 0 < suc rows % 100 = positive (suc rows % 100) (eqb-false (suc rows % 100) 0 is) in omega (arith, h, same, least)

behind_all : {A : Type 0} (put end : ℕ → A) (rows place at : ℕ) → place ≡ rows + rows / 100 + at → place < suc rows + suc rows / 100
    → slice_get (all put end rows ++ each put end (suc rows)) place ≡ Some (there put end place)
behind_all put end rows place at same least =
    get_right (all put end rows) (each put end (suc rows)) place at (let e = size put end rows in omega (arith, e, same))
    ∙ last_at put end rows place at (suc rows % 100 == 0) refl same (last_place (put (suc rows)) (end (suc rows)) rows place at (suc rows % 100 == 0) refl same least)

pub at_place : {A : Type 0} (put end : ℕ → A) (rows place : ℕ) → place < rows + rows / 100 → slice_get (all put end rows) place ≡ Some (there put end place)
at_place put end zero place least = absurd (omega (arith, least))
at_place put end (suc rows) place least =
    ap (λ (xs : List _). slice_get xs place) (one_more put end rows)
    ∙ dite (dec_lt place (rows + rows / 100))
    (λ before. get_left (all put end rows) (each put end (suc rows)) place (let e = size put end rows in omega (arith, e, before)) ∙ at_place put end rows place before)
    (λ behind. behind_all put end rows place (place - (rows + rows / 100)) (omega (arith, behind)) least)
