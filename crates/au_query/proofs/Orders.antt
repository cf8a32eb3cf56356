-- Combinations have one order: rising by the keys, and those that tie as they were.
use Rattle.std.proofs.Common.{◌≡◌, ◌∙◌, ◌≤◌, ◌<◌, ℕ, zero, suc, Bool, true, false, not, ◌&&◌, cond, ◌⊎◌, inl, inr, List, [], ◌∷◌, map, length, filter, get_or, refl, sym, ap, ap₂, subst, arith}
use Rattle.std.specs.Prelude.{⊤}
use Rattle.std.specs.List.{Contains}
use Rattle.std.specs.List.Sorted.{ties}
use Rattle.std.specs.Cmp.{IsStrictWeakOrder}
use Rattle.std.proofs.lemmas.List.Sorted.{sorted_far}
use Rattle.au_base.specs.declared.reply.Reply.{Reply}
use Rattle.au_expr.specs.declared.placed.Place.{Place}
use Rattle.au_expr.specs.Rows.{Range}
use Rattle.au_expr.specs.Sessions.{Session}
use Rattle.au_query.specs.Answers.{IsReply}
use Rattle.au_query.specs.Combos.{Line, cells_at}
use Rattle.au_query.specs.Ordering.{IsOrdered, comes_before}
use Rattle.au_query.specs.Queries.{query_of}
use Rattle.au_query.proofs.Totals.{before_is_weak}
use Rattle.sql_ast.specs.declared.query.Select.{Select}

differs : true ≡ false → ⊥
differs e = cc

both_not : (a b : Bool) → a ≡ false → b ≡ false → (not a && not b) ≡ true
both_not false false one other = refl
both_not false true one other = absurd (differs other)
both_not true b one other = absurd (differs one)

never_at : (b : Bool) → (b ≡ true → b ≡ false) → b ≡ false
never_at true back = back refl
never_at false back = refl

module _ {X : Type 0} where
  here : (x : X) (xs : List X) → Contains (x ∷ xs) x
  here x xs = (0, omega arith, refl)

  there : (y : X) (xs : List X) (x : X) → Contains xs x → Contains (y ∷ xs) x
  there y xs x (k, within, is) = (suc k, omega arith, is)

  split : (y : X) (xs : List X) (x : X) → Contains (y ∷ xs) x → (y ≡ x) ⊎ Contains xs x
  split y xs x (zero, within, is) = inl is
  split y xs x (suc k, within, is) = inr (k, omega arith, is)

  nothing : (x : X) → Contains {X = X} [] x → ⊥
  nothing x (k, within, is) = omega arith

  kept_at : (b : Bool) (y : X) (rest ys : List X) (x : X) → (Contains rest x → Contains ys x) → Contains (cond b (y ∷ rest) rest) x → Contains (y ∷ ys) x
  kept_at true y rest ys x more has = elim (split y rest x has) [
    | inl same ↦ subst (λ z. Contains (y ∷ ys) z) same (here y ys)
    | inr later ↦ there y ys x (more later)
  ]
  kept_at false y rest ys x more has = there y ys x (more has)

  kept : (test : X → Bool) (xs : List X) (x : X) → Contains (filter test xs) x → Contains xs x
  kept test [] x has = has
  kept test (y ∷ ys) x has = kept_at (test y) y (filter test ys) ys x (kept test ys x) has

  abbrev head_or : X → List X → X
  head_or d [] = d
  head_or d (x ∷ xs) = x

  abbrev rest_of : List X → List X
  rest_of [] = []
  rest_of (x ∷ xs) = xs

  -- no element comes before one that stands in front of it
  abbrev Rises : (X → X → Bool) → List X → Type 0
  Rises lt [] = ⊤
  Rises lt (x ∷ xs) = ((y : X) → Contains xs y → lt y x ≡ false) × Rises lt xs

  rises : (lt : X → X → Bool) (xs : List X) → ((i j : ℕ) (d : X) → i ≤ j → j < length xs → lt (get_or xs j d) (get_or xs i d) ≡ false) → Rises lt xs
  rises lt [] far = tt
  rises lt (x ∷ xs) far = (
    λ y has. ap (λ z. lt z x) (sym has.2) ∙ far 0 (suc has.0) y (omega arith) (let within = has.1 in omega (arith, within)),
    rises lt xs (λ i j d le within. far (suc i) (suc j) d (omega (arith, le)) (omega (arith, within))),
  )

  never_before : (lt : X → X → Bool) → IsStrictWeakOrder lt → (x : X) → lt x x ≡ false
  never_before lt weak x = never_at (lt x x) (weak.one_way x x)

  ties_itself : (lt : X → X → Bool) → IsStrictWeakOrder lt → (x : X) → ties lt x x ≡ true
  ties_itself lt weak x = both_not (lt x x) (lt x x) (never_before lt weak x) (never_before lt weak x)

  taken : (test : X → Bool) (x : X) (xs : List X) → test x ≡ true → filter test (x ∷ xs) ≡ x ∷ filter test xs
  taken test x xs passes = ap (λ b. cond b (x ∷ filter test xs) (filter test xs)) passes

  in_taken : (test : X → Bool) (x : X) (xs : List X) → test x ≡ true → Contains (filter test (x ∷ xs)) x
  in_taken test x xs passes = subst (λ ys. Contains ys x) (sym (taken test x xs passes)) (here x (filter test xs))

  -- a first element of the one list stands in the other
  is_in : (lt : X → X → Bool) → IsStrictWeakOrder lt → (xs : List X) (y : X) (ys : List X) → ((z : X) → filter (ties lt z) xs ≡ filter (ties lt z) (y ∷ ys)) → Contains xs y
  is_in lt weak xs y ys alike = kept (ties lt y) xs y (subst (λ zs. Contains zs y) (sym (alike y)) (in_taken (ties lt y) y ys (ties_itself lt weak y)))

  same_head : (lt : X → X → Bool) → IsStrictWeakOrder lt → (x y : X) (xs ys : List X) → ((z : X) → filter (ties lt z) (x ∷ xs) ≡ filter (ties lt z) (y ∷ ys)) → Rises lt (x ∷ xs) → Rises lt (y ∷ ys) → x ≡ y
  same_head lt weak x y xs ys alike up others = elim (split x xs y (is_in lt weak (x ∷ xs) y ys alike)) [
    | inl same ↦ same
    | inr later ↦ (elim (split y ys x (is_in lt weak (y ∷ ys) x xs (λ z. sym (alike z)))) [
      | inl same ↦ sym same
      | inr further ↦ (
          let tied : ties lt x y ≡ true = both_not (lt x y) (lt y x) (others.0 x further) (up.0 y later) in
          ap (head_or x) (sym (taken (ties lt x) x xs (ties_itself lt weak x)) ∙ alike x ∙ taken (ties lt x) y ys tied))
    ])
  ]

  tail_at : (x y : X) (xs ys : List X) (b c : Bool) → b ≡ c → cond b (x ∷ xs) xs ≡ cond c (y ∷ ys) ys → xs ≡ ys
  tail_at x y xs ys true true same is = ap rest_of is
  tail_at x y xs ys false false same is = is
  tail_at x y xs ys true false same is = absurd (differs same)
  tail_at x y xs ys false true same is = absurd (differs (sym same))

  one_order : (lt : X → X → Bool) → IsStrictWeakOrder lt → (xs ys : List X) → Rises lt xs → Rises lt ys → ((z : X) → filter (ties lt z) xs ≡ filter (ties lt z) ys) → xs ≡ ys
  one_order lt weak [] [] up others alike = refl
  one_order lt weak [] (y ∷ ys) up others alike = absurd (nothing y (is_in lt weak [] y ys alike))
  one_order lt weak (x ∷ xs) [] up others alike = absurd (nothing x (is_in lt weak [] x xs (λ z. sym (alike z))))
  one_order lt weak (x ∷ xs) (y ∷ ys) up others alike =
      let head = same_head lt weak x y xs ys alike up others in
      ap₂ (λ a b. a ∷ b) head (one_order lt weak xs ys up.1 others.1 (λ z. tail_at x y (filter (ties lt z) xs) (filter (ties lt z) ys) (ties lt z x) (ties lt z y) (ap (ties lt z) head) (alike z)))

ordered_once : (keys : List (Place × Bool)) (combos one other : List (List Line)) → IsOrdered keys combos one → IsOrdered keys combos other → one ≡ other
ordered_once keys combos one other a b =
    let lt = comes_before keys in
    let weak = before_is_weak keys in
    one_order lt weak one other (rises lt one (sorted_far lt weak one a.rises)) (rises lt other (sorted_far lt weak other b.rises)) (λ z. a.stable z ∙ sym (b.stable z))

pub one_reply : (session : Session) (ranges : List Range) (passing : List (List Line)) (select : Select) (one other : Reply)
    → IsReply session ranges passing select one → IsReply session ranges passing select other → one ≡ other
one_reply session ranges passing select one other a b =
    let code = a.code ∙ sym b.code in
    let columns = a.columns ∙ sym b.columns in
    let count = a.count ∙ sym b.count in
    let rows = a.rows.2 ∙ ap (map (cells_at session (query_of ranges select).items)) (ordered_once (query_of ranges select).order passing a.rows.0 b.rows.0 a.rows.1 b.rows.1) ∙ sym b.rows.2 in
    λ i. record { code = code i; columns = columns i; count = count i; rows = rows i }
