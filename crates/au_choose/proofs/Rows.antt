-- WHERE over one table, row by row.
use Rattle.std.proofs.Common.{◌≡◌, ◌∙◌, ◌<◌, ◌+◌, ◌&&◌, ◌||◌, ℕ, Bool, true, false, cond, List, [], ◌∷◌, ◌++◌, length, drop, get_or, add-one, append_assoc, refl, sym, ap, ap₂}
use Rattle.std.proofs.Math.Seq.{drop-cons}
use Rattle.std.specs.Prelude.{Option, Some, None}
use Rattle.std.specs.List.{list_any}
use Rattle.std.specs.Option.{option_to_list}
use Rattle.au_expr.specs.declared.placed.Placed.{Placed}
use Rattle.au_expr.specs.Placing.{value_at}
use Rattle.au_expr.specs.Sessions.{Session}
use Rattle.au_expr.specs.Values.{Holds, Is, Overflows, Value, is_met, is_overflow}
use Rattle.au_query.specs.Combos.{Line, overflows, overflows_over, passes, product}
use Rattle.au_query.specs.Counts.{passing_rows}
use Rattle.au_choose.specs.Inside.{met_by, over_cells}

none_some : (b : Bool) → Some b ≡ None → ⊥
none_some b is = cc

abbrev or_false : Option Bool → Bool
or_false None = false
or_false (Some b) = b

-- ---- one value

over_at : (v : Value) → met_by v ≡ None → is_overflow v ≡ true
over_at (Is c) is = absurd (none_some false is)
over_at (Holds t) is = absurd (none_some (is_met (Holds t)) is)
over_at Overflows is = refl

fine_at : (v : Value) (b : Bool) → met_by v ≡ Some b → (is_overflow v ≡ false) × (is_met v ≡ b)
fine_at (Is c) b is = (refl, ap or_false is)
fine_at (Holds t) b is = (refl, ap or_false is)
fine_at Overflows b is = absurd (none_some b (sym is))

and_true : (b : Bool) → (b && true) ≡ b
and_true true = refl
and_true false = refl

-- ---- one row

-- WHERE overflows over the row
pub overflows_here : (session : Session) (condition : Option Placed) (line : Line) (rest : List Line) → over_cells session condition line.1 ≡ None
    → overflows session (option_to_list condition) ((line ∷ rest) ∷ []) ≡ true
overflows_here session None line rest is = absurd (none_some true is)
overflows_here session (Some tree) line rest is =
    ap (λ b. (b || list_any (overflows_over session tree) (product (rest ∷ []))) || false) (over_at (value_at (line.1 ∷ []) session tree) is)

-- and where it doesn't, it does over some row exactly where it does over some later one
pub overflows_later : (session : Session) (condition : Option Placed) (line : Line) (rest : List Line) (b : Bool) → over_cells session condition line.1 ≡ Some b
    → overflows session (option_to_list condition) ((line ∷ rest) ∷ []) ≡ overflows session (option_to_list condition) (rest ∷ [])
overflows_later session None line rest b is = refl
overflows_later session (Some tree) line rest b is =
    ap (λ over. (over || list_any (overflows_over session tree) (product (rest ∷ []))) || false) (fine_at (value_at (line.1 ∷ []) session tree) b is).0

passes_by : (session : Session) (condition : Option Placed) (line : Line) (b : Bool) → over_cells session condition line.1 ≡ Some b → passes session (option_to_list condition) (line ∷ []) ≡ b
passes_by session None line b is = ap or_false is
passes_by session (Some tree) line b is = ap (λ met. met && true) (fine_at (value_at (line.1 ∷ []) session tree) b is).1 ∙ and_true b

-- ---- the rows so far

pub one_chosen : (session : Session) (condition : Option Placed) (chosen rest all : List Line) (line : Line) → over_cells session condition line.1 ≡ Some true
    → chosen ++ passing_rows session (option_to_list condition) (line ∷ rest) ≡ all
    → (chosen ++ line ∷ []) ++ passing_rows session (option_to_list condition) rest ≡ all
one_chosen session condition chosen rest all line is so_far =
    let later = passing_rows session (option_to_list condition) rest in
    append_assoc chosen (line ∷ []) later
    ∙ sym (ap (λ b. chosen ++ cond b (line ∷ later) later) (passes_by session condition line true is))
    ∙ so_far

pub one_left : (session : Session) (condition : Option Placed) (chosen rest all : List Line) (line : Line) → over_cells session condition line.1 ≡ Some false
    → chosen ++ passing_rows session (option_to_list condition) (line ∷ rest) ≡ all
    → chosen ++ passing_rows session (option_to_list condition) rest ≡ all
one_left session condition chosen rest all line is so_far =
    let later = passing_rows session (option_to_list condition) rest in
    sym (ap (λ b. chosen ++ cond b (line ∷ later) later) (passes_by session condition line false is)) ∙ so_far

-- ---- one row after the other

pub at_hand : {X : Type 0} (xs : List X) (i : ℕ) (x : X) → i < length xs → x ≡ get_or xs i x → drop i xs ≡ x ∷ drop (i + 1) xs
at_hand xs i x within is = drop-cons xs i x within ∙ ap₂ (λ y (n : ℕ). y ∷ drop n xs) (sym is) (sym (add-one i))
