-- What the nested scan gives is a filter of the product.
use Rattle.std.proofs.Common.{◌≡◌, ◌∙◌, refl, sym, ap, subst, Bool, true, false, ◌≤◌, ◌<◌, List, [], ◌∷◌, ◌++◌, map, length, append_assoc, arith}
use Rattle.std.specs.Prelude.{filter, if◌then◌else◌}
use Rattle.std.specs.List.{list_all}
use Rattle.std.proofs.lemmas.List.{map-append, append-nil, length-append}
use Rattle.std.proofs.lemmas.List.Elements.{filter-append}
use Rattle.au_base.specs.Limits.{REPLY_ROWS}
use Rattle.au_base.specs.declared.cell.Cell.{Cell}
use Rattle.au_expr.specs.declared.placed.Placed.{Placed}
use Rattle.au_expr.specs.Placing.{value_at}
use Rattle.au_expr.specs.Sessions.{Session}
use Rattle.au_expr.specs.Values.{is_met}
use Rattle.au_query.specs.Combos.{Line, cells_of, passes, product}
use Rattle.au_query.specs.descent.Inside.{IsKept, gathered}

module _ {X : Type 0} (p : List X → Bool) where
  moved : (row : List X) (x : X) (rows : List (List X)) → map (λ r. (row ++ x ∷ []) ++ r) rows ≡ map (λ r. row ++ r) (map (λ r. x ∷ r) rows)
  moved row x [] = refl
  moved row x (r ∷ rows) = ap (λ z. z ∷ map (λ t. (row ++ x ∷ []) ++ t) rows) (append_assoc row (x ∷ []) r) ∙ ap (λ z. (row ++ x ∷ r) ∷ z) (moved row x rows)

  split : (g : List X → List X) (a b : List (List X)) → filter p (map g (a ++ b)) ≡ filter p (map g a) ++ filter p (map g b)
  split g a b = ap (filter p) (map-append g a b) ∙ filter-append p (map g a) (map g b)

  over : (views : List (List X)) → ((row : List X) → gathered p row views ≡ filter p (map (λ r. row ++ r) (product views)))
      → (row view : List X) → gathered p row (view ∷ views) ≡ filter p (map (λ r. row ++ r) (product (view ∷ views)))
  over views ih row [] = refl
  over views ih row (x ∷ view) =
      let first = ih (row ++ x ∷ []) ∙ ap (filter p) (moved row x (product views)) in
      ap (λ z. z ++ gathered p row (view ∷ views)) first
      ∙ ap (λ z. filter p (map (λ r. row ++ r) (map (λ r. x ∷ r) (product views))) ++ z) (over views ih row view)
      ∙ sym (split (λ r. row ++ r) (map (λ r. x ∷ r) (product views)) (product (view ∷ views)))

  pub gathered_is : (views : List (List X)) (row : List X) → gathered p row views ≡ filter p (map (λ r. row ++ r) (product views))
  gathered_is [] row = ap (λ r. filter p (r ∷ [])) (sym (append-nil row))
  gathered_is (view ∷ views) row = over views (gathered_is views) row view

  same : (rows : List (List X)) → map (λ r. [] ++ r) rows ≡ rows
  same [] = refl
  same (r ∷ rows) = ap (λ z. r ∷ z) (same rows)

  whole : (views : List (List X)) (front : List X) (before : List (List X)) → front ≡ [] → before ≡ [] → before ++ gathered p front views ≡ filter p (product views)
  whole views front before none empty =
      ap (λ z. z ++ gathered p front views) empty ∙ ap (λ z. gathered p z views) none ∙ gathered_is views [] ∙ ap (filter p) (same (product views))

  pub all_kept : (views : List (List X)) (front : List X) (before after : List (List X)) → front ≡ [] → before ≡ []
      → (all : Bool) → all ≡ true → IsKept all after (before ++ gathered p front views)
      → (after ≡ filter p (product views)) × (length (filter p (product views)) ≤ REPLY_ROWS)
  all_kept views front before after none empty all true_is kept =
      subst (λ b. IsKept b after (filter p (product views))) true_is (subst (IsKept all after) (whole views front before none empty) kept)

  pub too_many : (views : List (List X)) (front : List X) (before after : List (List X)) → front ≡ [] → before ≡ []
      → (all : Bool) → all ≡ false → IsKept all after (before ++ gathered p front views)
      → REPLY_ROWS < length (filter p (product views))
  too_many views front before after none empty all false_is kept =
      subst (λ b. IsKept b after (filter p (product views))) false_is (subst (IsKept all after) (whole views front before none empty) kept)

differs : true ≡ false → ⊥
differs e = cc

-- the test at the end of a scan
pub over_front : (session : Session) (conditions : List Placed) (front : List Line) (rows : List (List Cell)) (met b : Bool)
    → met ≡ list_all (λ (tree : Placed). is_met (value_at rows session tree)) conditions → rows ≡ cells_of front → met ≡ b
    → passes session conditions front ≡ b
over_front session conditions front rows met b is cells found =
    ap (λ z. list_all (λ (tree : Placed). is_met (value_at z session tree)) conditions) (sym cells) ∙ sym is ∙ found

module _ {X : Type 0} where
  pub left_out : (b : Bool) (front : X) (kept : List X) → b ≡ false → length kept ≤ REPLY_ROWS → IsKept true kept (kept ++ (if b then front ∷ [] else []))
  left_out true front kept e few = absurd (differs e)
  left_out false front kept e few = let n = ap length (append-nil kept) in (sym (append-nil kept), omega (arith, few, n))

  pub is_full : (b : Bool) (front : X) (kept after : List X) → b ≡ true → REPLY_ROWS ≤ length kept → IsKept false after (kept ++ (if b then front ∷ [] else []))
  is_full false front kept after e many = absurd (differs (sym e))
  is_full true front kept after e many = let n = length-append kept (front ∷ []) in omega (arith, many, n)

  pub is_added : (b : Bool) (front : X) (kept after : List X) → b ≡ true → length kept < REPLY_ROWS → after ≡ kept ++ front ∷ [] → IsKept true after (kept ++ (if b then front ∷ [] else []))
  is_added false front kept after e few is = absurd (differs (sym e))
  is_added true front kept after e few is = let n = length-append kept (front ∷ []) in (is, omega (arith, few, n))
