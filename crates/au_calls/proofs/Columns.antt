-- The columns that pieces name, one more at a time.
use Rattle.std.proofs.Common.{◌≡◌, ◌∙◌, ◌&&◌, ℕ, ◌+◌, ◌<◌, Bool, true, false, List, [], ◌∷◌, ◌++◌, Some, None, get_or, length, map, take, refl, sym, ap, ap₂}
use Rattle.std.specs.Prelude.{if◌then◌else◌}
use Rattle.std.specs.List.{list_all}
use Rattle.std.proofs.lemmas.List.{map-append, take_more}
use Rattle.std.proofs.lemmas.List.Folds.{list_all_at, list_all_more}

module _ {X Y : Type 0} (test : X → Bool) (make : X → Y) where
  -- what an answer says
  picked : (b : Bool) (x : X) (y : Y) → Some y ≡ (if b then Some (make x) else None) → (b ≡ true) × (y ≡ make x)
  picked true x y is = (refl, let e : Some y ≡ Some (make x) = is in cc)
  picked false x y is = absurd (let e : Some y ≡ None = is in cc)

  missed : (b : Bool) (x : X) → None ≡ (if b then Some (make x) else None) → b ≡ false
  missed true x is = absurd (let e : None ≡ Some (make x) = is in cc)
  missed false x is = refl

  both : (a b : Bool) → a ≡ true → b ≡ true → (a && b) ≡ true
  both true true is also = refl
  both true false is also = absurd (let e : false ≡ true = also in cc)
  both false b is also = absurd (let e : false ≡ true = is in cc)

  pub one_more : (xs : List X) (i : ℕ) (x : X) (y : Y) (ys after : List Y) → i < length xs → x ≡ get_or xs i x → Some y ≡ (if test x then Some (make x) else None)
      → (list_all test (take i xs) ≡ true) × (ys ≡ map make (take i xs)) → after ≡ ys ++ y ∷ []
      → (list_all test (take (i + 1) xs) ≡ true) × (after ≡ map make (take (i + 1) xs))
  one_more xs i x y ys after within at is before pushed =
      let says = picked (test x) x y is in (
        list_all_more test xs i x within ∙ both (list_all test (take i xs)) (test (get_or xs i x)) before.0 (ap test (sym at) ∙ says.0),
        pushed ∙ ap₂ (λ (zs : List Y) (z : Y). zs ++ z ∷ []) before.1 says.1 ∙ sym (map-append make (take i xs) (x ∷ []))
            ∙ ap (λ (last : X). map make (take i xs ++ last ∷ [])) at ∙ ap (map make) (sym (take_more xs i x within)),
      )

  none_of : {Z : Type 0} (b : Bool) (z : Z) → b ≡ false → None ≡ (if b then Some z else None)
  none_of true z is = absurd (let e : true ≡ false = is in cc)
  none_of false z is = refl

  pub one_fails : {Z : Type 0} (xs : List X) (i : ℕ) (x : X) (z : Z) → i < length xs → x ≡ get_or xs i x → None ≡ (if test x then Some (make x) else None)
      → None ≡ (if list_all test xs then Some z else None)
  one_fails xs i x z within at is = none_of (list_all test xs) z (list_all_at test xs i x within (ap test (sym at) ∙ missed (test x) x is))
