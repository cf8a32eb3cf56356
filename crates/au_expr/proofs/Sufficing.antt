-- An expression gives the same over rows that agree in the ranges that it names.
use Rattle.std.proofs.Common.{◌≡◌, ◌∙◌, refl, sym, ap, subst, Bool, true, false, ◌||◌, ℕ, List, [], ◌∷◌, map}
use Rattle.std.specs.List.{slice_get}
use Rattle.std.proofs.Common.{eq-eqb}
use Rattle.au_base.specs.declared.cell.Cell.{Cell}
use Rattle.au_expr.specs.declared.ranges.Asked.TheVariants.{Range}
use Rattle.au_expr.specs.declared.placed.Placed.{Placed}
use Rattle.au_expr.specs.declared.placed.Placed.TheOpen as part
use Rattle.au_expr.specs.declared.placed.Placed.TheViews.{roll-Placed}
use Rattle.au_expr.specs.declared.placed.Placed.TheFolds.{fold-roll-Placed, ind-Placed, map-Placed}
use Rattle.au_expr.specs.Operators.{and_value, or_value, not_value, compare_value, null_value, like_value, in_value, between_value, sum_value, product_value, sign_value}
use Rattle.au_expr.specs.Placing.{cell_in_row, step, value_at, values_at, signed_values_at}
use Rattle.au_expr.specs.Descent.{names, names_step}
use Rattle.au_expr.specs.Overflows.{any_holds}
use Rattle.au_expr.specs.Sessions.{Session}
use Rattle.au_expr.specs.Values.{Value, Is}

left : (a b : Bool) → a ≡ true → (a || b) ≡ true
left true b e = refl
left false b e = absurd (cc)

right : (a b : Bool) → b ≡ true → (a || b) ≡ true
right true b e = refl
right false b e = e

module _ (session : Session) (one other : List (List Cell)) where
  abbrev named : ℕ → Placed → Bool
  named r = names (Range r)

  abbrev Agree : (ℕ → Bool) → Type 0
  Agree asked = (range : ℕ) → asked range ≡ true → slice_get one range ≡ slice_get other range

  abbrev Suffices : Placed → Type 0
  Suffices e = Agree (λ r. named r e) → value_at one session e ≡ value_at other session e

  abbrev firsts : List ((e : Placed) × Suffices e) → List Placed
  firsts ys = map (λ y. y.0) ys

  all_suffice : (ys : List ((e : Placed) × Suffices e)) → Agree (λ r. any_holds (map (named r) (firsts ys))) → values_at one session (firsts ys) ≡ values_at other session (firsts ys)
  all_suffice [] h = refl
  all_suffice (y ∷ ys) h =
      let first = y.1 (λ r e. h r (left (named r y.0) (any_holds (map (named r) (firsts ys))) e)) in
      let rest = all_suffice ys (λ r e. h r (right (named r y.0) (any_holds (map (named r) (firsts ys))) e)) in
      ap (λ z. z ∷ values_at one session (firsts ys)) first ∙ ap (λ z. value_at other session y.0 ∷ z) rest

  abbrev summands : List (Bool × ((e : Placed) × Suffices e)) → List (Bool × Placed)
  summands ys = map (λ y. (y.0, y.1.0)) ys

  abbrev second : Bool × Bool → Bool
  second p = p.1

  abbrev named_in : ℕ → Bool × Placed → Bool × Bool
  named_in r p = (p.0, named r p.1)

  summands_suffice : (ys : List (Bool × ((e : Placed) × Suffices e))) → Agree (λ r. any_holds (map second (map (named_in r) (summands ys))))
      → signed_values_at one session (summands ys) ≡ signed_values_at other session (summands ys)
  summands_suffice [] h = refl
  summands_suffice (y ∷ ys) h =
      let first = y.1.1 (λ r e. h r (left (named r y.1.0) (any_holds (map second (map (named_in r) (summands ys)))) e)) in
      let rest = summands_suffice ys (λ r e. h r (right (named r y.1.0) (any_holds (map second (map (named_in r) (summands ys)))) e)) in
      ap (λ z. (y.0, z) ∷ signed_values_at one session (summands ys)) first ∙ ap (λ z. (y.0, value_at other session y.1.0) ∷ z) rest

  unrolled : (x : part.Placed-F Placed)
      → (Agree (λ r. names_step (Range r) (map-Placed Placed Bool (named r) x))
      → step one session (map-Placed Placed Value (value_at one session) x) ≡ step other session (map-Placed Placed Value (value_at other session) x))
      → Suffices (roll-Placed x)
  unrolled x f h =
      fold-roll-Placed Value (step one session) x
      ∙ f (λ r e. h r (fold-roll-Placed Bool (names_step (Range r)) x ∙ e))
      ∙ sym (fold-roll-Placed Value (step other session) x)

  abbrev Here : (e : Placed) → Type 0
  Here e = value_at one session e ≡ value_at other session e

  -- the first, the second and the third of the operands
  first_of : (a : (e : Placed) × Suffices e) (more : ℕ → Bool) → Agree (λ r. named r a.0 || more r) → Here a.0
  first_of a more h = a.1 (λ r e. h r (left (named r a.0) (more r) e))

  behind : (a : (e : Placed) × Suffices e) (more : ℕ → Bool) → Agree (λ r. named r a.0 || more r) → Agree more
  behind a more h r e = h r (right (named r a.0) (more r) e)

  cases : (y : part.Placed-F ((e : Placed) × Suffices e)) → Suffices (roll-Placed (map-Placed ((e : Placed) × Suffices e) Placed (λ e. e.0) y))
  cases (part.Or ys) = unrolled (part.Or (firsts ys)) (λ h. ap or_value (all_suffice ys h))
  cases (part.And ys) = unrolled (part.And (firsts ys)) (λ h. ap and_value (all_suffice ys h))
  cases (part.Not a) = unrolled (part.Not a.0) (λ h. ap not_value (a.1 h))
  cases (part.Compare r a b) = unrolled (part.Compare r a.0 b.0) (λ h.
      let x = first_of a (λ n. named n b.0 || false) h in
      let y = first_of b (λ n. false) (behind a (λ n. named n b.0 || false) h) in
      ap (λ z. compare_value r z (value_at one session b.0)) x ∙ ap (compare_value r (value_at other session a.0)) y)
  cases (part.IsNull a n) = unrolled (part.IsNull a.0 n) (λ h. ap (null_value n) (a.1 h))
  cases (part.Like a b n) = unrolled (part.Like a.0 b.0 n) (λ h.
      let x = first_of a (λ m. named m b.0 || false) h in
      let y = first_of b (λ m. false) (behind a (λ m. named m b.0 || false) h) in
      ap (λ z. like_value n z (value_at one session b.0)) x ∙ ap (like_value n (value_at other session a.0)) y)
  cases (part.In a ys n) = unrolled (part.In a.0 (firsts ys) n) (λ h.
      let x = first_of a (λ m. any_holds (map (named m) (firsts ys))) h in
      let rest = all_suffice ys (behind a (λ m. any_holds (map (named m) (firsts ys))) h) in
      ap (λ z. in_value n z (values_at one session (firsts ys))) x ∙ ap (in_value n (value_at other session a.0)) rest)
  cases (part.Between a b c n) = unrolled (part.Between a.0 b.0 c.0 n) (λ h.
      let later = behind a (λ m. named m b.0 || (named m c.0 || false)) h in
      let x = first_of a (λ m. named m b.0 || (named m c.0 || false)) h in
      let y = first_of b (λ m. named m c.0 || false) later in
      let w = first_of c (λ m. false) (behind b (λ m. named m c.0 || false) later) in
      ap (λ z. between_value n z (value_at one session b.0) (value_at one session c.0)) x
      ∙ ap (λ z. between_value n (value_at other session a.0) z (value_at one session c.0)) y
      ∙ ap (between_value n (value_at other session a.0) (value_at other session b.0)) w)
  cases (part.Sum ys) = unrolled (part.Sum (summands ys)) (λ h. ap sum_value (summands_suffice ys h))
  cases (part.Product ys) = unrolled (part.Product (firsts ys)) (λ h. ap product_value (all_suffice ys h))
  cases (part.Negate a) = unrolled (part.Negate a.0) (λ h. ap sign_value (a.1 h))
  cases (part.Number n) = unrolled (part.Number n) (λ h. refl)
  cases (part.Literal t) = unrolled (part.Literal t) (λ h. refl)
  cases part.Null = unrolled part.Null (λ h. refl)
  cases (part.Column place) = unrolled (part.Column place) (λ h. ap (λ row. Is (cell_in_row place.column row)) (h place.range (eq-eqb place.range place.range refl)))
  cases part.User = unrolled part.User (λ h. refl)
  cases part.SessionNumber = unrolled part.SessionNumber (λ h. refl)
  cases part.Now = unrolled part.Now (λ h. refl)
  cases (part.Moment m) = unrolled (part.Moment m) (λ h. refl)

  pub suffices : (e : Placed) → Suffices e
  suffices = ind-Placed Suffices (λ x y is. subst (λ z. Suffices (roll-Placed z)) is (cases y))
