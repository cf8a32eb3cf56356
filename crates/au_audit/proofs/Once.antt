-- Names that are kept once: one more name is kept where it isn't among those that are.
use Rattle.std.proofs.Common.{◌≡◌, ◌∙◌, ℕ, Bool, true, false, not, ◌||◌, cond, if◌then◌else◌, ◌+◌, ◌<◌, List, [], ◌∷◌, ◌++◌, get_or, length, map, take, refl, sym, ap, ap₂}
use Rattle.std.specs.List.{filter, list_any}
use Rattle.std.specs.Str.{bytes_eq}
use Rattle.std.proofs.lemmas.List.{append-nil, take_more}
use Rattle.std.proofs.lemmas.List.Elements.{filter-append}
use Rattle.std.proofs.lemmas.Slice.Eq.{bytes_eq-Decides}
use Rattle.au_entries.specs.declared.policy.Outcomes.{Outcomes}
use Rattle.au_entries.specs.Enabling.{each_once, is_among, is_listed, widened, with_outcomes, with_users, without_users}

-- the names but this one
abbrev but : List ℕ → List (List ℕ) → List (List ℕ)
but name names = filter (λ other. not (bytes_eq other name)) names

same_name : (a b : List ℕ) → bytes_eq a b ≡ true → a ≡ b
same_name a b is = (bytes_eq-Decides a b).0 is

or_none : (a b : Bool) → (a || b) ≡ false → (a ≡ false) × (b ≡ false)
or_none true b is = absurd (let e : true ≡ false = is in cc)
or_none false b is = (refl, is)

-- another name is among them where it was before
among_at : (y x name : List ℕ) (ys : List (List ℕ)) (b : Bool) → bytes_eq y x ≡ b → bytes_eq name x ≡ false → is_among (but x ys) name ≡ is_among ys name
    → is_among (cond (not b) (y ∷ but x ys) (but x ys)) name ≡ (bytes_eq name y || is_among ys name)
among_at y x name ys true is other more =
    more ∙ sym (ap (λ (t : Bool). t || is_among ys name) (ap (bytes_eq name) (same_name y x is) ∙ other))
among_at y x name ys false is other more = ap (λ (t : Bool). bytes_eq name y || t) more

among_but : (names : List (List ℕ)) (x name : List ℕ) → bytes_eq name x ≡ false → is_among (but x names) name ≡ is_among names name
among_but [] x name other = refl
among_but (y ∷ ys) x name other = among_at y x name ys (bytes_eq y x) refl other (among_but ys x name other)

dropped : (x name : List ℕ) (names : List (List ℕ)) → bytes_eq name x ≡ true → but x (names ++ name ∷ []) ≡ but x names
dropped x name names is =
    filter-append (λ other. not (bytes_eq other x)) names (name ∷ [])
    ∙ ap (λ (t : Bool). but x names ++ cond (not t) (name ∷ []) []) is ∙ append-nil (but x names)

kept : (x name : List ℕ) (names : List (List ℕ)) → bytes_eq name x ≡ false → but x (names ++ name ∷ []) ≡ but x names ++ name ∷ []
kept x name names is =
    filter-append (λ other. not (bytes_eq other x)) names (name ∷ [])
    ∙ ap (λ (t : Bool). but x names ++ cond (not t) (name ∷ []) []) is

-- what is kept of the names behind the first, once it is known where the name is
seen_at : (x name : List ℕ) (once : List (List ℕ)) (c : Bool) → bytes_eq name x ≡ c → is_among once name ≡ false → (c || is_among (but x once) name) ≡ true
    → but x (once ++ name ∷ []) ≡ but x once
seen_at x name once true same new seen = dropped x name once same
seen_at x name once false same new seen = absurd (let e : true ≡ false = sym seen ∙ among_but once x name same ∙ new in cc)

once_step : (x name : List ℕ) (once : List (List ℕ)) (b d : Bool) → is_among once name ≡ b → (bytes_eq name x || is_among (but x once) name) ≡ d
    → x ∷ but x (if b then once else once ++ name ∷ []) ≡ (if d then x ∷ but x once else (x ∷ but x once) ++ name ∷ [])
once_step x name once true true there seen = refl
once_step x name once true false there seen =
    let parts = or_none (bytes_eq name x) _ seen in
    absurd (let e : true ≡ false = sym there ∙ sym (among_but once x name parts.0) ∙ parts.1 in cc)
once_step x name once false true there seen = ap (λ (rest : List (List ℕ)). x ∷ rest) (seen_at x name once (bytes_eq name x) refl there seen)
once_step x name once false false there seen =
    ap (λ (rest : List (List ℕ)). x ∷ rest) (kept x name once (or_none (bytes_eq name x) _ seen).0)

-- one more name is kept where it isn't among those that are
pub once_more : (names : List (List ℕ)) (name : List ℕ)
    → each_once (names ++ name ∷ []) ≡ (if is_among (each_once names) name then each_once names else each_once names ++ name ∷ [])
once_more [] name = refl
once_more (x ∷ xs) name =
    ap (λ (rest : List (List ℕ)). x ∷ but x rest) (once_more xs name)
    ∙ once_step x name (each_once xs) (is_among (each_once xs) name) (bytes_eq name x || is_among (but x (each_once xs)) name) refl refl

-- the same in a loop over the names
pub once_pushed : (names once after : List (List ℕ)) (i : ℕ) (name : List ℕ) → i < length names → name ≡ get_or names i name → once ≡ each_once (take i names)
    → after ≡ (if is_among once name then once else once ++ name ∷ []) → after ≡ each_once (take (i + 1) names)
once_pushed names once after i name within at before pushed =
    pushed ∙ ap (λ (o : List (List ℕ)). if is_among o name then o else o ++ name ∷ []) before ∙ sym (once_more (take i names) name)
    ∙ ap (λ (last : List ℕ). each_once (take i names ++ last ∷ [])) at ∙ ap each_once (sym (take_more names i name within))

-- ---- which names are kept

among_once_at : (x name : List ℕ) (names : List (List ℕ)) (b : Bool) → bytes_eq name x ≡ b → is_among (each_once names) name ≡ is_among names name
    → (b || is_among (but x (each_once names)) name) ≡ (b || is_among names name)
among_once_at x name names true is more = refl
among_once_at x name names false is more = among_but (each_once names) x name is ∙ more

-- a name is among the names that are kept where it is among all
pub among_once : (names : List (List ℕ)) (name : List ℕ) → is_among (each_once names) name ≡ is_among names name
among_once [] name = refl
among_once (x ∷ xs) name = among_once_at x name xs (bytes_eq name x) refl (among_once xs name)

or_last : (a b : Bool) → (a || (b || false)) ≡ (b || a)
or_last true true = refl
or_last true false = refl
or_last false true = refl
or_last false false = refl

-- one more name is among those with it
among_last : (names : List (List ℕ)) (name other : List ℕ) → is_among (names ++ name ∷ []) other ≡ (bytes_eq other name || is_among names other)
among_last [] name other = or_last false (bytes_eq other name)
among_last (x ∷ xs) name other = ap (λ (b : Bool). bytes_eq other x || b) (among_last xs name other) ∙ or_turned (bytes_eq other x) (bytes_eq other name) (is_among xs other)
  where
    or_turned : (a b c : Bool) → (a || (b || c)) ≡ (b || (a || c))
    or_turned true true c = refl
    or_turned true false c = refl
    or_turned false b c = refl

there_at : (names : List (List ℕ)) (name other : List ℕ) (b : Bool) → bytes_eq other name ≡ b → is_among names name ≡ true → is_among names other ≡ (b || is_among names other)
there_at names name other true same there = ap (is_among names) (same_name other name same) ∙ there
there_at names name other false same there = refl

among_pushed_at : (names : List (List ℕ)) (name other : List ℕ) (b : Bool) → is_among names name ≡ b → is_among (if b then names else names ++ name ∷ []) other ≡ (bytes_eq other name || is_among names other)
among_pushed_at names name other true there = there_at names name other (bytes_eq other name) refl there
among_pushed_at names name other false there = among_last names name other

pub among_pushed : (names : List (List ℕ)) (name other : List ℕ) → is_among (if is_among names name then names else names ++ name ∷ []) other ≡ (bytes_eq other name || is_among names other)
among_pushed names name other = among_pushed_at names name other (is_among names name) refl

-- ---- listed users

-- AUDIT BY by the names that are kept
pub with_once : (users once names : List (List ℕ)) (outcomes : Outcomes) (listed wider all : List (List ℕ × Outcomes)) → once ≡ each_once users → ((user : List ℕ) → is_among names user ≡ is_listed listed user)
    → wider ≡ map (widened once outcomes) listed → all ≡ wider ++ map (λ user. (user, outcomes)) (filter (λ user. not (is_among names user)) once) → all ≡ with_users users outcomes listed
with_once users once names outcomes listed wider all is there widens pushes =
    let test : is_among once ≡ is_among users = λ i. λ name. (ap (λ (ns : List (List ℕ)). is_among ns name) is ∙ among_once users name) i in
    pushes
    ∙ ap₂ (λ (w : List (List ℕ × Outcomes)) (ns : List (List ℕ)). w ++ map (λ user. (user, outcomes)) ns)
    (widens ∙ ap (λ (among : List ℕ → Bool). map (λ (entry : List ℕ × Outcomes). if among entry.0 then (entry.0, with_outcomes outcomes entry.1) else entry) listed) test)
    (ap₂ (λ (among : List ℕ → Bool) (ns : List (List ℕ)). filter (λ user. not (among user)) ns) (λ i. λ user. there user i) is)

-- NOAUDIT BY by the names that are kept
pub without_once : (users once : List (List ℕ)) (listed left : List (List ℕ × Outcomes)) → once ≡ each_once users → left ≡ without_users once listed → left ≡ without_users users listed
without_once users once listed left is leaves =
    let test : is_among once ≡ is_among users = λ i. λ name. (ap (λ (ns : List (List ℕ)). is_among ns name) is ∙ among_once users name) i in
    leaves ∙ ap (λ (among : List ℕ → Bool). filter (λ (entry : List ℕ × Outcomes). not (among entry.0)) listed) test
