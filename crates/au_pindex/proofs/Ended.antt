-- Buckets that end with a place, and those that have room for one more.
use Rattle.std.proofs.Common.{◌≡◌, ◌∙◌, ◌<◌, ◌-◌, inl, inr, refl, sym, ap, ℕ, zero, suc, Bool, true, false, ◌||◌, nat_lt, List, [], ◌∷◌, ◌++◌, Vec, Global, length, arith, ltb-false}
use Rattle.std.proofs.lemmas.Bool.{cases_Bool}
use Rattle.std.proofs.lemmas.Bool.Decides.{eqb_tells}
use Rattle.std.specs.List.{list_any, slice_get}
use Rattle.std.specs.Prelude.{◌==◌, Option, Some, None, vec_capacity, vec_len}
use Rattle.au_pindex.specs.descent.Rooms.{ends_with, room_of, takes}
use Rattle.au_pindex.specs.Places.{passes, passes_at}
use Rattle.au_pindex.proofs.Placing.{is_itself}

is_it : (x place : ℕ) → (x == place) ≡ true → x ≡ place
is_it x place is = elim (eqb_tells x place) [ inl e ↦ e.1 | inr e ↦ absurd (let e : true ≡ false = sym is ∙ e.0 in cc) ]

or_again : (a b : Bool) → (a || b) ≡ (a || (a || b))
or_again true b = refl
or_again false b = refl

or_within : (a b p : Bool) → b ≡ (p || b) → (a || b) ≡ (p || (a || b))
or_within true true true is = refl
or_within true true false is = refl
or_within true false true is = refl
or_within true false false is = refl
or_within false b p is = is

-- a place that stands among these is one of them
found_any : (place at : ℕ) (items : List ℕ) (i : ℕ) → passes_at (λ other. other == place) items i ≡ true → list_any (λ other. other == at) items ≡ ((place == at) || list_any (λ other. other == at) items)
found_any place at [] i is = absurd (let e : false ≡ true = is in cc)
found_any place at (x ∷ xs) zero is =
    ap (λ z. (z == at) || list_any (λ other. other == at) xs) (is_it x place is)
    ∙ or_again (place == at) (list_any (λ other. other == at) xs)
    ∙ ap (λ z. (place == at) || ((z == at) || list_any (λ other. other == at) xs)) (sym (is_it x place is))
found_any place at (x ∷ xs) (suc i) is = or_within (x == at) (list_any (λ other. other == at) xs) (place == at) (found_any place at xs i is)

-- a place that stands last is added already
pub ended_any : (place : ℕ) (items : List ℕ) → ends_with place items ≡ true → (at : ℕ) → list_any (λ other. other == at) items ≡ ((place == at) || list_any (λ other. other == at) items)
ended_any place items is at = found_any place at items (length items - 1) is

grown : (items : List ℕ) (place : ℕ) → length (items ++ place ∷ []) ≡ suc (length items)
grown [] place = refl
grown (x ∷ xs) place = ap suc (grown xs place)

stands_last : (items : List ℕ) (place n : ℕ) → n ≡ length items → slice_get (items ++ place ∷ []) n ≡ Some place
stands_last [] place n is = ap (slice_get (place ∷ [])) is
stands_last (x ∷ xs) place zero is = absurd (omega (arith, is))
stands_last (x ∷ xs) place (suc n) is = stands_last xs place n (omega (arith, is))

-- it stands last
pub added_ends : (place : ℕ) (items later : List ℕ) → later ≡ items ++ place ∷ [] → ends_with place later ≡ true
added_ends place items later is =
    ap (ends_with place) is
    ∙ ap (passes (λ other. other == place)) (stands_last items place (length (items ++ place ∷ []) - 1) (omega (arith, grown items place)))
    ∙ is_itself place

or_second : (a b : Bool) → b ≡ true → (a || b) ≡ true
or_second true b is = refl
or_second false b is = is

is_less : (a b : ℕ) → 0 < b - a → nat_lt a b ≡ true
is_less a b more = elim (cases_Bool (nat_lt a b)) [ inl is ↦ is | inr is ↦ absurd (omega (arith, more, ltb-false a b is)) ]

-- where there is room for one more, every place is taken
pub takes_room : (place : ℕ) (bucket : Option (Vec ℕ Global)) → 0 < room_of bucket → takes place bucket ≡ true
takes_room place None more = absurd (omega (arith, more))
takes_room place (Some bucket) more = or_second (ends_with place bucket.items) (nat_lt (vec_len bucket) (vec_capacity bucket)) (is_less (vec_len bucket) (vec_capacity bucket) more)
