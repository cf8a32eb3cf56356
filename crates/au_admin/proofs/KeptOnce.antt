-- Things that are kept once: one more is kept where it isn't among those that are.
use Rattle.std.proofs.Common.{◌≡◌, ◌∙◌, ℕ, Bool, true, false, not, ◌||◌, cond, if◌then◌else◌, ◌+◌, ◌<◌, List, [], ◌∷◌, ◌++◌, get_or, length, map, take, refl, sym, ap, ap₂}
use Rattle.std.specs.List.{filter, list_any}
use Rattle.std.proofs.lemmas.List.{append-nil, map-append, take_more}
use Rattle.std.proofs.lemmas.List.Elements.{filter-append}
use Rattle.au_calls.specs.Once.{once}

or_none : (a b : Bool) → (a || b) ≡ false → (a ≡ false) × (b ≡ false)
or_none true b is = absurd (let e : true ≡ false = is in cc)
or_none false b is = (refl, is)

module _ {X : Type 0} (same : X → X → Bool) (equal : (a b : X) → same a b ≡ true → a ≡ b) where
  -- the things but this one
  abbrev but : X → List X → List X
  but x things = filter (λ other. not (same other x)) things

  -- another thing is among them where it was before
  among_at : (y x thing : X) (ys : List X) (b : Bool) → same y x ≡ b → same thing x ≡ false → list_any (same thing) (but x ys) ≡ list_any (same thing) ys
      → list_any (same thing) (cond (not b) (y ∷ but x ys) (but x ys)) ≡ (same thing y || list_any (same thing) ys)
  among_at y x thing ys true is other more =
      more ∙ sym (ap (λ (t : Bool). t || list_any (same thing) ys) (ap (same thing) (equal y x is) ∙ other))
  among_at y x thing ys false is other more = ap (λ (t : Bool). same thing y || t) more

  among_but : (things : List X) (x thing : X) → same thing x ≡ false → list_any (same thing) (but x things) ≡ list_any (same thing) things
  among_but [] x thing other = refl
  among_but (y ∷ ys) x thing other = among_at y x thing ys (same y x) refl other (among_but ys x thing other)

  dropped : (x thing : X) (things : List X) → same thing x ≡ true → but x (things ++ thing ∷ []) ≡ but x things
  dropped x thing things is =
      filter-append (λ other. not (same other x)) things (thing ∷ [])
      ∙ ap (λ (t : Bool). but x things ++ cond (not t) (thing ∷ []) []) is ∙ append-nil (but x things)

  kept : (x thing : X) (things : List X) → same thing x ≡ false → but x (things ++ thing ∷ []) ≡ but x things ++ thing ∷ []
  kept x thing things is =
      filter-append (λ other. not (same other x)) things (thing ∷ [])
      ∙ ap (λ (t : Bool). but x things ++ cond (not t) (thing ∷ []) []) is

  -- what is kept of the things behind the first, once it is known where the thing is
  seen_at : (x thing : X) (those : List X) (c : Bool) → same thing x ≡ c → list_any (same thing) those ≡ false → (c || list_any (same thing) (but x those)) ≡ true
      → but x (those ++ thing ∷ []) ≡ but x those
  seen_at x thing those true is new seen = dropped x thing those is
  seen_at x thing those false is new seen = absurd (let e : true ≡ false = sym seen ∙ among_but those x thing is ∙ new in cc)

  once_step : (x thing : X) (those : List X) (b d : Bool) → list_any (same thing) those ≡ b → (same thing x || list_any (same thing) (but x those)) ≡ d
      → x ∷ but x (if b then those else those ++ thing ∷ []) ≡ (if d then x ∷ but x those else (x ∷ but x those) ++ thing ∷ [])
  once_step x thing those true true there seen = refl
  once_step x thing those true false there seen =
      let parts = or_none (same thing x) _ seen in
      absurd (let e : true ≡ false = sym there ∙ sym (among_but those x thing parts.0) ∙ parts.1 in cc)
  once_step x thing those false true there seen = ap (λ (rest : List X). x ∷ rest) (seen_at x thing those (same thing x) refl there seen)
  once_step x thing those false false there seen =
      ap (λ (rest : List X). x ∷ rest) (kept x thing those (or_none (same thing x) _ seen).0)

  -- one more thing is kept where it isn't among those that are
  pub once_more : (things : List X) (thing : X)
      → once same (things ++ thing ∷ []) ≡ (if list_any (same thing) (once same things) then once same things else once same things ++ thing ∷ [])
  once_more [] thing = refl
  once_more (x ∷ xs) thing =
      ap (λ (rest : List X). x ∷ but x rest) (once_more xs thing)
      ∙ once_step x thing (once same xs) (list_any (same thing) (once same xs)) (same thing x || list_any (same thing) (but x (once same xs))) refl refl

  -- the same in a loop over what the things are made of
  pub once_mapped : {Y : Type 0} (made : Y → X) (ys : List Y) (those after : List X) (i : ℕ) (y : Y) (thing : X) → i < length ys → y ≡ get_or ys i y → thing ≡ made y
      → those ≡ once same (map made (take i ys)) → after ≡ (if list_any (same thing) those then those else those ++ thing ∷ []) → after ≡ once same (map made (take (i + 1) ys))
  once_mapped made ys those after i y thing within at makes before pushed =
      pushed ∙ ap₂ (λ (o : List X) (t : X). if list_any (same t) o then o else o ++ t ∷ []) before makes ∙ sym (once_more (map made (take i ys)) (made y))
      ∙ ap (once same) (sym (map-append made (take i ys) (y ∷ [])))
      ∙ ap (λ last. once same (map made (take i ys ++ last ∷ []))) at ∙ ap (λ zs. once same (map made zs)) (sym (take_more ys i y within))
