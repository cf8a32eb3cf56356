-- An expression names what is asked for exactly where one of its columns is asked for.
use Rattle.std.proofs.Common.{◌≡◌, ◌∙◌, refl, sym, ap, subst, Bool, true, false, ◌||◌, List, [], ◌∷◌, map}
use Rattle.std.specs.List.{list_any}
use Rattle.std.proofs.lemmas.List.Folds.{list_any-append}
use Rattle.au_expr.specs.declared.ranges.Asked.{Asked}
use Rattle.au_expr.specs.declared.placed.Place.{Place}
use Rattle.au_expr.specs.declared.placed.Placed.{Placed}
use Rattle.au_expr.specs.declared.placed.Placed.TheOpen as part
use Rattle.au_expr.specs.declared.placed.Placed.TheViews.{roll-Placed}
use Rattle.au_expr.specs.declared.placed.Placed.TheFolds.{fold-roll-Placed, ind-Placed, map-Placed}
use Rattle.au_expr.specs.Descent.{is_asked, names, names_step}
use Rattle.au_expr.specs.Overflows.{any_holds}
use Rattle.au_expr.specs.Ranges.{columns_in, step, together}

module _ (asked : Asked) where
  abbrev test : Place → Bool
  test place = is_asked asked place

  abbrev Told : Placed → Type 0
  Told t = names asked t ≡ list_any test (columns_in t)

  abbrev firsts : List ((t : Placed) × Told t) → List Placed
  firsts ys = map (λ y. y.0) ys

  all_told : (ys : List ((t : Placed) × Told t)) → any_holds (map (names asked) (firsts ys)) ≡ list_any test (together (map columns_in (firsts ys)))
  all_told [] = refl
  all_told (y ∷ ys) =
      ap (λ b. b || any_holds (map (names asked) (firsts ys))) y.1 ∙ ap (λ b. list_any test (columns_in y.0) || b) (all_told ys)
      ∙ sym (list_any-append test (columns_in y.0) (together (map columns_in (firsts ys))))

  abbrev summands : List (Bool × ((t : Placed) × Told t)) → List (Bool × Placed)
  summands ys = map (λ y. (y.0, y.1.0)) ys

  abbrev named : Bool × Placed → Bool × Bool
  named p = (p.0, names asked p.1)

  abbrev second : Bool × Bool → Bool
  second p = p.1

  abbrev placed : Bool × Placed → Bool × List Place
  placed p = (p.0, columns_in p.1)

  abbrev places : Bool × List Place → List Place
  places p = p.1

  summands_told : (ys : List (Bool × ((t : Placed) × Told t))) → any_holds (map second (map named (summands ys))) ≡ list_any test (together (map places (map placed (summands ys))))
  summands_told [] = refl
  summands_told (y ∷ ys) =
      ap (λ b. b || any_holds (map second (map named (summands ys)))) y.1.1 ∙ ap (λ b. list_any test (columns_in y.1.0) || b) (summands_told ys)
      ∙ sym (list_any-append test (columns_in y.1.0) (together (map places (map placed (summands ys)))))

  or_false : (b : Bool) → b ≡ (b || false)
  or_false true = refl
  or_false false = refl

  unrolled : (x : part.Placed-F Placed) → names_step asked (map-Placed Placed Bool (names asked) x) ≡ list_any test (step (map-Placed Placed (List Place) columns_in x)) → Told (roll-Placed x)
  unrolled x h = fold-roll-Placed Bool (names_step asked) x ∙ h ∙ sym (ap (list_any test) (fold-roll-Placed (List Place) step x))

  cases : (y : part.Placed-F ((t : Placed) × Told t)) → Told (roll-Placed (map-Placed ((t : Placed) × Told t) Placed (λ t. t.0) y))
  cases (part.Or ys) = unrolled (part.Or (firsts ys)) (all_told ys)
  cases (part.And ys) = unrolled (part.And (firsts ys)) (all_told ys)
  cases (part.Not a) = unrolled (part.Not a.0) a.1
  cases (part.Compare r a b) = unrolled (part.Compare r a.0 b.0) (all_told (a ∷ b ∷ []))
  cases (part.IsNull a n) = unrolled (part.IsNull a.0 n) a.1
  cases (part.Like a b n) = unrolled (part.Like a.0 b.0 n) (all_told (a ∷ b ∷ []))
  cases (part.In a ys n) = unrolled (part.In a.0 (firsts ys) n) (all_told (a ∷ ys))
  cases (part.Between a b c n) = unrolled (part.Between a.0 b.0 c.0 n) (all_told (a ∷ b ∷ c ∷ []))
  cases (part.Sum ys) = unrolled (part.Sum (summands ys)) (summands_told ys)
  cases (part.Product ys) = unrolled (part.Product (firsts ys)) (all_told ys)
  cases (part.Negate a) = unrolled (part.Negate a.0) a.1
  cases (part.Number n) = unrolled (part.Number n) refl
  cases (part.Literal t) = unrolled (part.Literal t) refl
  cases part.Null = unrolled part.Null refl
  cases (part.Column place) = unrolled (part.Column place) (or_false (is_asked asked place))
  cases part.User = unrolled part.User refl
  cases part.SessionNumber = unrolled part.SessionNumber refl
  cases part.Now = unrolled part.Now refl
  cases (part.Moment m) = unrolled (part.Moment m) refl

  pub names_are : (t : Placed) → Told t
  names_are = ind-Placed Told (λ x y is. subst (λ z. Told (roll-Placed z)) is (cases y))
