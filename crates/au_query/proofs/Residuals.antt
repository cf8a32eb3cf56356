-- What is left of a comparison gives what the condition does.
use Rattle.std.proofs.Common.{◌≡◌, ◌∙◌, refl, sym, ap, ℕ, zero, suc, ℤ, Bool, true, false, not, ◌&&◌, ◌||◌, ◌<◌, ◌+◌, List, [], ◌∷◌, ◌++◌, length, map, take, drop, get_or, add-one, ap₂, Option, Some, None, if◌then◌else◌, arith}
use Rattle.std.specs.Prelude.{IfSome, IsTrue, ◌↔◌}
use Rattle.std.specs.Borrow.{Bor}
use Rattle.std.specs.List.{flat_map, list_all, list_any}
use Rattle.au_base.specs.declared.numbers.RowNo.{RowNo}
use Rattle.std.proofs.Math.Seq.{drop-cons}
use Rattle.std.proofs.lemmas.List.{map-append}
use Rattle.std.proofs.lemmas.List.Folds.{list_all-append, list_all_more, list_any_more}
use Rattle.au_base.specs.declared.cell.Cell.{Cell}
use Rattle.au_base.specs.declared.cell.Cell.TheVariants.{Null, Num, Text, Moment}
use Rattle.sql_ast.specs.declared.expression.Relation.{Relation}
use Rattle.au_expr.specs.declared.placed.Placed.{Placed}
use Rattle.au_expr.specs.declared.placed.Placed.TheOpen as part
use Rattle.au_expr.specs.declared.placed.Placed.TheVariants as tree
use Rattle.au_expr.specs.declared.placed.Placed.TheFolds.{fold-roll-Placed}
use Rattle.au_expr.specs.Operators.{added, and_value, compare_value, least, number, sign_value, sum_from, sum_value}
use Rattle.au_expr.specs.Placing.{signed_values_at, step, value_at, values_at}
use Rattle.au_expr.specs.Sessions.{Session}
use Rattle.au_expr.specs.Values.{Value, Is, Holds, Overflows, is_met, is_overflow, truth_in}
use Rattle.au_query.proofs.Anywhere.{any_map, any_same}
use Rattle.au_query.proofs.Cuts.{and_itself}
use Rattle.au_query.specs.Combos.{Line, cells_of, lent, lines, passes}
use Rattle.au_query.specs.declared.cutting.Test.{Test}
use Rattle.au_query.specs.declared.source.Source.{Source}
use Rattle.au_query.specs.descent.Inside.{cell_views, found_in, gathered, trees_in_tests}
use Rattle.au_query.specs.descent.Residuals.{IsAlwaysMet, IsResidual, IsSieve, is_left_out, number_of, overflows_behind, residual_value, side_value, sides}
use Rattle.au_query.specs.declared.residual.Residual.{Residual}
use Rattle.au_query.specs.declared.residual.Side.TheVariants as side

differs : true ≡ false → ⊥
differs e = cc

-- ---- what the trees give

pub comparison_value : (rows : List (List Cell)) (session : Session) (r : Relation) (a b : Placed)
    → value_at rows session (tree.Compare r a b) ≡ compare_value r (value_at rows session a) (value_at rows session b)
comparison_value rows session r a b = ap (value_at rows session) (sym (tree.rolls-Compare r a b)) ∙ fold-roll-Placed Value (step rows session) (part.Compare r a b)

pub sum_is : (rows : List (List Cell)) (session : Session) (parts : List (Bool × Placed))
    → value_at rows session (tree.Sum parts) ≡ sum_value (signed_values_at rows session parts)
sum_is rows session parts = ap (value_at rows session) (sym (tree.rolls-Sum parts)) ∙ fold-roll-Placed Value (step rows session) (part.Sum parts)

pub sign_is : (rows : List (List Cell)) (session : Session) (a : Placed) → value_at rows session (tree.Negate a) ≡ sign_value (value_at rows session a)
sign_is rows session a = ap (value_at rows session) (sym (tree.rolls-Negate a)) ∙ fold-roll-Placed Value (step rows session) (part.Negate a)

and_is : (rows : List (List Cell)) (session : Session) (parts : List Placed) → value_at rows session (tree.And parts) ≡ and_value (values_at rows session parts)
and_is rows session parts = ap (value_at rows session) (sym (tree.rolls-And parts)) ∙ fold-roll-Placed Value (step rows session) (part.And parts)

-- ---- comparisons with a number

pub unmet : (first : Bool) (r : Relation) (v : Value) (k : ℤ) → number_of v ≡ None → is_met (sides first r v (number k)) ≡ false
unmet true r Overflows k e = refl
unmet true r (Holds t) k e = refl
unmet true r (Is Null) k e = refl
unmet true r (Is (Text t)) k e = refl
unmet true r (Is (Moment m)) k e = refl
unmet true r (Is (Num n)) k e = absurd (cc)
unmet false r Overflows k e = refl
unmet false r (Holds t) k e = refl
unmet false r (Is Null) k e = refl
unmet false r (Is (Text t)) k e = refl
unmet false r (Is (Moment m)) k e = refl
unmet false r (Is (Num n)) k e = absurd (cc)

as_number : (v : Value) (n : ℤ) → number_of v ≡ Some n → v ≡ number n
as_number Overflows n e = absurd (cc)
as_number (Holds t) n e = absurd (cc)
as_number (Is Null) n e = absurd (cc)
as_number (Is (Text t)) n e = absurd (cc)
as_number (Is (Moment m)) n e = absurd (cc)
as_number (Is (Num m)) n e = ap number (let s : Some m ≡ Some n = e in cc)

-- a sum with NULL has no number
no_sum : (minus : Bool) (n : ℤ) → number_of (added minus (number n) (Is Null)) ≡ None
no_sum true n = refl
no_sum false n = refl

pub met_number : (first : Bool) (r : Relation) (v : Value) (n k : ℤ) → number_of v ≡ Some n → is_met (sides first r v (number k)) ≡ is_met (sides first r (number n) (number k))
met_number first r v n k e = ap (λ w. is_met (sides first r w (number k))) (as_number v n e)

pub overflow_is : (first : Bool) (r : Relation) (v : Value) (k : ℤ) → is_overflow (sides first r v (number k)) ≡ is_overflow v
overflow_is true r Overflows k = refl
overflow_is true r (Holds t) k = refl
overflow_is true r (Is c) k = refl
overflow_is false r Overflows k = refl
overflow_is false r (Holds t) k = refl
overflow_is false r (Is c) k = refl

pub met_by_number : (residual : Residual) (n : ℤ) → residual.side ≡ side.Number n
    → IsTrue (is_met (sides residual.number_first residual.relation (number n) (number residual.number))) ↔ IsAlwaysMet residual
met_by_number residual n is =
    let over : (cells : List Cell) → is_met (residual_value residual cells) ≡ is_met (sides residual.number_first residual.relation (number n) (number residual.number)) =
    λ cells. ap (λ s. is_met (sides residual.number_first residual.relation (side_value s cells) (number residual.number))) is in
    (λ met cells. over cells ∙ met, λ always. sym (over []) ∙ always [])

-- over a row without cells a column is NULL
unmet_over_none : (residual : Residual) → number_of (side_value residual.side []) ≡ None → IsTrue false ↔ IsAlwaysMet residual
unmet_over_none residual none =
    (λ no. absurd (differs (sym no)), λ always. sym (unmet residual.number_first residual.relation (side_value residual.side []) residual.number none) ∙ always [])

pub unmet_by_column : (residual : Residual) (column : ℕ) → residual.side ≡ side.Column column → IsTrue false ↔ IsAlwaysMet residual
unmet_by_column residual column is = unmet_over_none residual (ap (λ s. number_of (side_value s [])) is)

pub unmet_by_sum : (residual : Residual) (before : ℤ) (minus : Bool) (column : ℕ) → residual.side ≡ side.Sum before minus column → IsTrue false ↔ IsAlwaysMet residual
unmet_by_sum residual before minus column is = unmet_over_none residual (ap (λ s. number_of (side_value s [])) is ∙ no_sum minus before)

-- ---- rows that are left out

cells_behind : (front : List Line) (line : Line) → cells_of (front ++ line ∷ []) ≡ cells_of front ++ line.1 ∷ []
cells_behind front line = map-append (λ (line : Line). line.1) front (line ∷ [])

not_true : (b : Bool) → not b ≡ true → b ≡ false
not_true false e = refl
not_true true e = absurd (differs (sym e))

dropped : {X : Type 0} (b : Bool) (x : X) → b ≡ false → (if b then x ∷ [] else []) ≡ []
dropped false x e = refl
dropped true x e = absurd (differs e)

pub none_behind : (session : Session) (trees : List Placed) (rows : List (List Cell)) (front : List Line) (line : Line) (rest : List (List Line)) (sieve : Option Residual)
    → IfSome sieve (IsSieve trees rows) → IfSome sieve (λ residual. rest ≡ []) → rows ≡ cells_of front → is_left_out sieve line.1 ≡ true
    → gathered (passes session trees) (front ++ line ∷ []) rest ≡ []
none_behind session trees rows front line rest None sieves last cells out = absurd (differs (sym out))
none_behind session trees rows front line rest (Some residual) sieves last cells out =
    let unmet = sieves session line.1 (not_true (is_met (residual_value residual line.1)) out) in
    ap (gathered (passes session trees) (front ++ line ∷ [])) last
    ∙ dropped (passes session trees (front ++ line ∷ [])) (front ++ line ∷ [])
    (ap (λ z. list_all (λ (tree : Placed). is_met (value_at z session tree)) trees) (cells_behind front line ∙ ap (λ z. z ++ line.1 ∷ []) (sym cells)) ∙ unmet)

-- a row behind which nothing passes changes nothing
pub skipped : (g : Line → List (List Line)) (rows : List (RowNo × Bor (List Cell))) (i : ℕ) (row : RowNo × Bor (List Cell)) (kept total : List (List Line))
    → i < length rows → row ≡ get_or rows i row → g (lent row) ≡ [] → kept ++ flat_map g (lines (drop i rows)) ≡ total
    → kept ++ flat_map g (lines (drop (i + 1) rows)) ≡ total
skipped g rows i row kept total within is none so_far =
    let here = drop-cons rows i row within ∙ ap₂ (λ y (n : ℕ). y ∷ drop n rows) (sym is) (sym (add-one i)) in
    ap (λ z. kept ++ (z ++ flat_map g (lines (drop (i + 1) rows)))) (sym none)
    ∙ sym (ap (λ rs. kept ++ flat_map g (lines rs)) here) ∙ so_far

-- ---- sums, summand by summand

pub summand_added : (rows : List (List Cell)) (session : Session) (before next : Value) (parts : List (Bool × Placed)) (i : ℕ) (p : Bool × Placed) (total : Value)
    → i < length parts → p ≡ get_or parts i p → added p.0 before (value_at rows session p.1) ≡ next
    → sum_from before (signed_values_at rows session (drop i parts)) ≡ total → sum_from next (signed_values_at rows session (drop (i + 1) parts)) ≡ total
summand_added rows session before next parts i p total within is step so_far =
    let here = drop-cons parts i p within ∙ ap₂ (λ y (n : ℕ). y ∷ drop n parts) (sym is) (sym (add-one i)) in
    sym (ap (λ v. sum_from v (signed_values_at rows session (drop (i + 1) parts))) step)
    ∙ sym (ap (λ ps. sum_from before (signed_values_at rows session ps)) here) ∙ so_far

-- ---- one of several conditions

all_behind : (a b : Bool) → b ≡ false → (a && b) ≡ false
all_behind true b e = e
all_behind false b e = refl

pub one_fails : (p : Placed → Bool) (tests : List Test) (i : ℕ) (test : Test) → i < length tests → test ≡ get_or tests i test → p test.condition.now ≡ false
    → list_all p (trees_in_tests tests) ≡ false
one_fails p [] i test within is fails = absurd (omega (arith, within))
one_fails p (first ∷ tests) zero test within is fails = ap (λ b. b && list_all p (trees_in_tests tests)) (ap (λ (t : Test). p t.condition.now) (sym is) ∙ fails)
one_fails p (first ∷ tests) (suc i) test within is fails = all_behind (p first.condition.now) (list_all p (trees_in_tests tests)) (one_fails p tests i test (omega (arith, within)) is fails)

pub lone_list : {X : Type 0} (xs : List X) (x : X) → length xs ≡ 1 → x ≡ get_or xs 0 x → x ∷ [] ≡ xs
lone_list [] x one is = absurd (omega (arith, one))
lone_list (y ∷ []) x one is = ap (λ z. z ∷ []) is
lone_list (y ∷ z ∷ xs) x one is = absurd (omega (arith, one))

-- one more condition, and what is left of it
pub left_more : (p : Placed → Bool) (q : Residual → Bool) (trees : List Placed) (i : ℕ) (tree : Placed) (residuals more : List Residual) (residual : Residual)
    → i < length trees → tree ≡ get_or trees i tree → more ≡ residuals ++ residual ∷ [] → p tree ≡ q residual
    → list_all p (take i trees) ≡ list_all q residuals → list_all p (take (i + 1) trees) ≡ list_all q more
left_more p q trees i tree residuals more residual within is pushed same so_far =
    list_all_more p trees i tree within
    ∙ ap₂ (λ a b. a && b) so_far (ap p (sym is) ∙ same)
    ∙ sym (ap (list_all q) pushed ∙ list_all-append q residuals (residual ∷ []) ∙ ap (λ b. list_all q residuals && b) (and_itself (q residual)))

-- ---- an overflow of one of several conditions

any_never : {X : Type 0} (xs : List X) → list_any (λ x. false) xs ≡ false
any_never [] = refl
any_never (x ∷ xs) = any_never xs

crossed : (a b c d : Bool) → ((a || b) || (c || d)) ≡ ((a || c) || (b || d))
crossed true b c d = refl
crossed false true true d = refl
crossed false true false d = refl
crossed false false c d = refl

any_both : {X : Type 0} (p q : X → Bool) (xs : List X) → (list_any p xs || list_any q xs) ≡ list_any (λ x. p x || q x) xs
any_both p q [] = refl
any_both p q (x ∷ xs) = crossed (p x) (list_any p xs) (q x) (list_any q xs) ∙ ap (λ b. (p x || q x) || b) (any_both p q xs)

any_swapped : {X Y : Type 0} (f : X → Y → Bool) (xs : List X) (ys : List Y) → list_any (λ x. list_any (f x) ys) xs ≡ list_any (λ y. list_any (λ x. f x y) xs) ys
any_swapped f [] ys = sym (any_never ys)
any_swapped f (x ∷ xs) ys = ap (λ b. list_any (f x) ys || b) (any_swapped f xs ys) ∙ any_both (f x) (λ y. list_any (λ z. f z y) xs) ys

overflow_among : (values : List Value) → is_overflow (and_value values) ≡ list_any is_overflow values
overflow_among values = told (list_any is_overflow values)
  where
    told : (b : Bool) → is_overflow (if b then Overflows else Holds (least (map truth_in values))) ≡ b
    told true = refl
    told false = refl

and_overflows : (rows : List (List Cell)) (session : Session) (parts : List Placed)
    → is_overflow (value_at rows session (tree.And parts)) ≡ list_any (λ (p : Placed). is_overflow (value_at rows session p)) parts
and_overflows rows session parts = ap is_overflow (and_is rows session parts) ∙ overflow_among (values_at rows session parts) ∙ any_map is_overflow (value_at rows session) parts

-- an AND overflows over one of the rows where a part of it does
pub parts_overflow : (session : Session) (before rows : List (List Cell)) (parts : List Placed)
    → list_any (overflows_behind session before rows) parts ≡ overflows_behind session before rows (tree.And parts)
parts_overflow session before rows parts =
    any_swapped (λ (p : Placed) (cells : List Cell). is_overflow (value_at (before ++ cells ∷ []) session p)) parts rows
    ∙ any_same (λ cells. list_any (λ (p : Placed). is_overflow (value_at (before ++ cells ∷ []) session p)) parts)
    (λ cells. is_overflow (value_at (before ++ cells ∷ []) session (tree.And parts)))
    (λ cells. sym (and_overflows (before ++ cells ∷ []) session parts)) rows

-- what is left of a condition overflows where the condition does
pub residual_overflows : (session : Session) (before rows : List (List Cell)) (tree : Placed) (residual : Residual) → IsResidual before tree residual
    → list_any (λ cells. is_overflow (residual_value residual cells)) rows ≡ overflows_behind session before rows tree
residual_overflows session before rows tree residual is =
    any_same (λ cells. is_overflow (residual_value residual cells)) (λ cells. is_overflow (value_at (before ++ cells ∷ []) session tree))
    (λ cells. ap is_overflow (sym (is session cells))) rows

-- none of these overflows, nor does one more
pub none_more : (p : Placed → Bool) (parts : List Placed) (i : ℕ) (part : Placed) → i < length parts → part ≡ get_or parts i part → p part ≡ false
    → list_any p (take i parts) ≡ false → list_any p (take (i + 1) parts) ≡ false
none_more p parts i part within is off so_far = list_any_more p parts i part within ∙ ap₂ (λ a b. a || b) so_far (ap p (sym is) ∙ off)

pub none_left : (sources : List Source) → length sources ≡ 0 → cell_views sources ≡ []
none_left [] none = refl
none_left (source ∷ sources) none = absurd (omega (arith, none))

-- a search over the rows of one more table
pub found_among : {X : Type 0} (test : List X → Bool) (named : ℕ → Bool) (row view rows : List X) (rest : List (List X)) (place : ℕ) (found b : Bool)
    → place ≡ length row → named place ≡ b → rows ≡ (if b then view else take 1 view) → found ≡ list_any (λ x. found_in test named (row ++ x ∷ []) rest) rows
    → found ≡ found_in test named row (view ∷ rest)
found_among test named row view rows rest place found b here is those told =
    told ∙ ap (list_any (λ x. found_in test named (row ++ x ∷ []) rest)) (those ∙ ap (λ c. if c then view else take 1 view) (sym is ∙ ap named here))
