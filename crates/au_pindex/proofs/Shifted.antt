-- What is left of buckets whose places are shifted.
use Rattle.std.proofs.Common.{◌≡◌, ◌∙◌, ◌≤◌, ◌^◌, refl, sym, ap, subst, ℕ, Bool, true, false, cond, ◌||◌, ◌&&◌, nat_lt, List, [], ◌∷◌, Vec, Global, arith}
use Rattle.std.specs.List.{list_any}
use Rattle.std.specs.List.Retain.{RetainsInTurn}
use Rattle.std.specs.Map.{lookup}
use Rattle.std.specs.Map.Calls.{RetainsPairs}
use Rattle.std.specs.Prelude.{◌==◌, Option, Some, None}
use Rattle.au_pindex.specs.Buckets.{places_of}
use Rattle.au_pindex.specs.descent.Rooms.{room_of}
use Rattle.au_pindex.specs.Places.{passes}

or_kept : (b : Bool) (y at : ℕ) (ys : List ℕ) → list_any (λ place. place == at) (cond b (y ∷ ys) ys) ≡ ((b && (y == at)) || list_any (λ place. place == at) ys)
or_kept true y at ys = refl
or_kept false y at ys = refl

-- what is left of places, where each leaves a place exactly where a test of it passes
pub kept_any : {S : Type 0} (R : S → ℕ → Bool → S → ℕ → Type 0) (test : ℕ → ℕ → Bool) (f : S) → ((x : ℕ) (b : Bool) (t : S) (y : ℕ) → R f x b t y → ((at : ℕ) → (b && (y == at)) ≡ test at x) × (t ≡ f))
    → (xs ys : List ℕ) → RetainsInTurn R f xs ys → (at : ℕ) → list_any (λ place. place == at) ys ≡ list_any (test at) xs
kept_any R test f each [] ys h at = ap (list_any (λ place. place == at)) h
kept_any R test f each (x ∷ xs) ys h at =
    let said = each x h.0 h.1 h.2 h.3 in
    let rest = kept_any R test f each xs h.4 (subst (λ s. RetainsInTurn R s xs h.4) said.1 h.5) at in
    ap (list_any (λ place. place == at)) h.6 ∙ or_kept h.0 h.2 at h.4 ∙ ap (λ b. b || list_any (λ place. place == at) h.4) (said.0 at) ∙ ap (λ b. test at x || b) rest

never : (xs : List ℕ) → list_any (λ x. false) xs ≡ false
never [] = refl
never (x ∷ xs) = never xs

-- some place of these came from where this one did
pub any_from : (in_range : Bool) (from : Option ℕ) (xs : List ℕ) → list_any (λ x. in_range && passes (λ s. x == s) from) xs ≡ (in_range && passes (λ s. list_any (λ x. x == s) xs) from)
any_from true None xs = never xs
any_from true (Some s) xs = refl
any_from false from xs = never xs

-- ---- the buckets of a map

-- there is a bucket after as there was one before, and it has what is wanted of it
abbrev pub Becomes : {V : Type 0} → (V → V → Type 0) → Option V → Option V → Type 0
Becomes R None None = Unit {0}
Becomes R None (Some w) = ⊥
Becomes R (Some v) None = ⊥
Becomes R (Some v) (Some w) = R v w

-- each value of a map became another, under the same key
pub become : {F K V : Type 0} (T : F → K → V → Bool → V → F → Type 0) (R : V → V → Type 0) (f : F) → ((k : K) (v : V) (b : Bool) (w : V) (f' : F) → T f k v b w f' → (b ≡ true) × R v w × (f' ≡ f))
    → (test : K → Bool) (es kept : List (K × V)) → RetainsPairs T f es kept → Becomes R (lookup test es) (lookup test kept)
become T R f each test [] kept h = subst (λ ks. Becomes R None (lookup test ks)) (sym h) tt
become {V = V} T R f each test (e ∷ es) kept h =
    let said = each e.0 e.1 h.0 h.1 h.2 h.4 in
    let rest = become T R f each test es h.3 (subst (λ g. RetainsPairs T g es h.3) said.2 h.5) in
    subst (λ ks. Becomes R (lookup test (e ∷ es)) (lookup test ks)) (sym (h.6 ∙ ap (λ b. cond b ((e.0, h.1) ∷ h.3) h.3) said.0)) (at_key (test e.0) (lookup test es) (lookup test h.3) said.1 rest)
  where
    at_key : (b : Bool) (o p : Option V) → R e.1 h.1 → Becomes R o p → Becomes R (cond b (Some e.1) o) (cond b (Some h.1) p)
    at_key true o p one rest = one
    at_key false o p one rest = rest

-- what is wanted of a bucket that is shifted: where its places come from, and that it keeps its room
abbrev pub IsShifted : (ℕ → Option ℕ) → Vec ℕ Global → Vec ℕ Global → Type 0
IsShifted from v w =
    ((at : ℕ) → list_any (λ place. place == at) w.items ≡ (nat_lt at (2 ^ 64) && passes (λ s. list_any (λ place. place == s) v.items) (from at))) × (room_of (Some v) ≤ room_of (Some w))

-- the same of what is known to be these
pub shifted_as : (from : ℕ → Option ℕ) (v w shown left : Vec ℕ Global) → shown ≡ v → left ≡ w → IsShifted from shown left → IsShifted from v w
shifted_as from v w shown left one two is = subst (λ z. IsShifted from v z) two (subst (λ z. IsShifted from z left) one is)

no_place : (in_range : Bool) (from : Option ℕ) → false ≡ (in_range && passes (λ s. false) from)
no_place true None = refl
no_place true (Some s) = refl
no_place false from = refl

pub shifted_places : (from : ℕ → Option ℕ) (o p : Option (Vec ℕ Global)) (at : ℕ) → Becomes (IsShifted from) o p
    → list_any (λ place. place == at) (places_of p) ≡ (nat_lt at (2 ^ 64) && passes (λ s. list_any (λ place. place == s) (places_of o)) (from at))
shifted_places from None None at is = no_place (nat_lt at (2 ^ 64)) (from at)
shifted_places from None (Some w) at is = absurd is
shifted_places from (Some v) None at is = absurd is
shifted_places from (Some v) (Some w) at is = is.0 at

pub shifted_room : (from : ℕ → Option ℕ) (o p : Option (Vec ℕ Global)) → Becomes (IsShifted from) o p → room_of o ≤ room_of p
shifted_room from None None is = omega arith
shifted_room from None (Some w) is = absurd is
shifted_room from (Some v) None is = absurd is
shifted_room from (Some v) (Some w) is = is.1
