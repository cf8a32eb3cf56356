-- The rows that pass are no more than all rows.
use Rattle.std.proofs.Common.{◌≡◌, ap, ℕ, ◌+◌, ◌≤◌, Bool, true, false, List, [], ◌∷◌, length, arith}
use Rattle.std.specs.Prelude.{filter, if◌then◌else◌}
use Rattle.std.specs.Borrow.{Bor}
use Rattle.std.proofs.lemmas.List.{length-map}
use Rattle.au_base.specs.declared.cell.Cell.{Cell}
use Rattle.au_base.specs.declared.numbers.RowNo.{RowNo}
use Rattle.au_expr.specs.declared.placed.Placed.{Placed}
use Rattle.au_expr.specs.Sessions.{Session}
use Rattle.au_query.specs.Combos.{Line, lent, lines, passes}
use Rattle.au_query.specs.Counts.{numbers_of, passing_rows}

picked : {X : Type 0} (b : Bool) (x : X) (xs : List X) (n : ℕ) → length xs ≤ n → length (if b then x ∷ xs else xs) ≤ n + 1
picked true x xs n few = omega (arith, few)
picked false x xs n few = omega (arith, few)

filtered : {X : Type 0} (p : X → Bool) (xs : List X) → length (filter p xs) ≤ length xs
filtered p [] = omega arith
filtered p (x ∷ xs) =
    let few = picked (p x) x (filter p xs) (length xs) (filtered p xs) in
    omega (arith, few)

pub no_more : (session : Session) (conditions : List Placed) (rows : List (RowNo × Bor (List Cell))) (numbers : List RowNo) (most : ℕ)
    → numbers ≡ numbers_of (passing_rows session conditions (lines rows)) → length rows ≤ most → length numbers ≤ most
no_more session conditions rows numbers most is few =
    let a = ap length is in
    let b = length-map (passing_rows session conditions (lines rows)) (λ (line : Line). line.0) in
    let d = filtered (λ (line : Line). passes session conditions (line ∷ [])) (lines rows) in
    let e = length-map rows lent in
    omega (arith, a, b, d, e, few)
