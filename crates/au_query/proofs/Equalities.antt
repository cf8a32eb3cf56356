-- Columns that conditions fix: what an equality that is Yes says of its sides, and which conditions of several are Yes.
use Rattle.std.proofs.Common.{◌≡◌, ◌≢◌, ◌∙◌, ◌<◌, refl, sym, ap, ap₂, ℕ, ℤ, Bool, true, false, not, ◌&&◌, ◌||◌, List, [], ◌∷◌, map, length, drop, get_or, ◌+◌, add-one}
use Rattle.std.specs.Prelude.{IsTrue, Option, Some, None}
use Rattle.std.specs.List.{list_all, list_any, slice_get}
use Rattle.std.proofs.Math.Seq.{drop-cons}
use Rattle.std.specs.declared.cmp.Ordering.{Ordering}
use Rattle.std.specs.declared.cmp.Ordering.TheVariants.{Less, Equal, Greater}
use Rattle.std.specs.Ordering.{MatchOrdering, int_cmp, is_eq, nat_cmp}
use Rattle.std.specs.Cmp.{int_ranks, ranks}
use Rattle.std.specs.Cmp.Lexicographic.{bytes_decides, slice_cmp}
use Rattle.std.proofs.lemmas.Map.Text.{is_eq-slice_cmp}
use Rattle.std.proofs.lemmas.Bool.{and_from, and_parts}
use Rattle.au_base.specs.declared.cell.Cell.{Cell}
use Rattle.au_base.specs.declared.cell.Cell.TheVariants.{Null, Num, Text, Moment}
use Rattle.au_base.specs.Truths.{truth_of}
use Rattle.sql_ast.specs.declared.expression.Relation.{Relation}
use Rattle.sql_ast.specs.declared.expression.Relation.TheVariants as relation
use Rattle.au_expr.specs.declared.placed.Place.{Place}
use Rattle.au_expr.specs.declared.placed.Placed.{Placed}
use Rattle.au_expr.specs.declared.placed.Placed.TheVariants as tree
use Rattle.au_expr.specs.declared.placed.Placed.TheOpen as part
use Rattle.au_expr.specs.declared.placed.Placed.TheFolds.{fold-roll-Placed}
use Rattle.au_expr.specs.Operators.{compare_value, compared}
use Rattle.au_expr.specs.Overflows as overflows
use Rattle.au_expr.specs.Overflows.{can_overflow}
use Rattle.au_expr.specs.Placing.{cell_at, cell_or_null, cell_in_row, step, value_at}
use Rattle.au_expr.specs.Ranges.{AgreeWhereNamed, names_range}
use Rattle.au_expr.specs.Rows.{AreSound}
use Rattle.au_expr.specs.Sessions.{Session}
use Rattle.au_expr.specs.Values.{Value, Is, Holds, is_met, is_overflow}
use Rattle.au_query.specs.Combos.{overflows as some_overflows}
use Rattle.au_query.specs.Fixed.{IsFixed, NeverOverflows}
use Rattle.au_query.specs.descent.Inside.{IsAlways, IsColumnAt}
use Rattle.au_query.proofs.Anywhere.{nowhere}

differs : true ≡ false → ⊥
differs e = cc

-- ---- equal cells

tie : (o : Ordering) (P Q R : Type 0) → MatchOrdering o P Q R → is_eq o ≡ true → Q
tie Less P Q R m is = absurd (differs (sym is))
tie Equal P Q R m is = m
tie Greater P Q R m is = absurd (differs (sym is))

yes_of : (t : Bool) → is_met (Holds (truth_of t)) ≡ true → t ≡ true
yes_of true is = refl
yes_of false is = absurd (differs (sym is))

some_number : (n : ℤ) → Num n ≢ Null
some_number n e = cc

some_text : (t : List ℕ) → Text t ≢ Null
some_text t e = cc

some_moment : (m : ℕ) → Moment m ≢ Null
some_moment m e = cc

met_equal : (a b : Cell) → is_met (Holds (compared relation.Equal a b)) ≡ true → (a ≡ b) × (a ≢ Null)
met_equal (Num a) (Num b) is = (ap Num (tie (int_cmp a b) _ _ _ (int_ranks a b) (yes_of (is_eq (int_cmp a b)) is)), some_number a)
met_equal (Text a) (Text b) is =
    (ap Text ((bytes_decides a b).0 (sym (is_eq-slice_cmp a b) ∙ yes_of (is_eq (slice_cmp nat_cmp a b)) is)), some_text a)
met_equal (Moment a) (Moment b) is = (ap Moment (tie (nat_cmp a b) _ _ _ (ranks a b) (yes_of (is_eq (nat_cmp a b)) is)), some_moment a)
met_equal (Num a) (Text b) is = absurd (differs (sym is))
met_equal (Num a) (Moment b) is = absurd (differs (sym is))
met_equal (Num a) Null is = absurd (differs (sym is))
met_equal (Text a) (Num b) is = absurd (differs (sym is))
met_equal (Text a) (Moment b) is = absurd (differs (sym is))
met_equal (Text a) Null is = absurd (differs (sym is))
met_equal (Moment a) (Num b) is = absurd (differs (sym is))
met_equal (Moment a) (Text b) is = absurd (differs (sym is))
met_equal (Moment a) Null is = absurd (differs (sym is))
met_equal Null (Num b) is = absurd (differs (sym is))
met_equal Null (Text b) is = absurd (differs (sym is))
met_equal Null (Moment b) is = absurd (differs (sym is))
met_equal Null Null is = absurd (differs (sym is))

-- ---- an equality as a tree

compared_value : (rows : List (List Cell)) (session : Session) (asked : Relation) (a b : Placed)
    → value_at rows session (tree.Compare asked a b) ≡ compare_value asked (value_at rows session a) (value_at rows session b)
compared_value rows session asked a b = ap (value_at rows session) (sym (tree.rolls-Compare asked a b)) ∙ fold-roll-Placed Value (step rows session) (part.Compare asked a b)

column_is : (rows : List (List Cell)) (session : Session) (place : Place) → value_at rows session (tree.Column place) ≡ Is (cell_at rows place)
column_is rows session place = ap (value_at rows session) (sym (tree.rolls-Column place)) ∙ fold-roll-Placed Value (step rows session) (part.Column place)

there_is : (o : Option Cell) (c : Cell) → cell_or_null o ≡ c → c ≢ Null → o ≡ Some c
there_is None c is some = absurd (some (sym is))
there_is (Some d) c is some = ap Some is

-- the cell at the place is in its row, where it isn't NULL
in_row : (rows : List (List Cell)) (cells : List Cell) (place : Place) (range column : ℕ) (c : Cell) → place.range ≡ range → place.column ≡ column
    → slice_get rows range ≡ Some cells → cell_at rows place ≡ c → c ≢ Null → slice_get cells column ≡ Some c
in_row rows cells place range column c in_range in_column at is some =
    let here : slice_get rows place.range ≡ Some cells = ap (slice_get rows) in_range ∙ at in
    let found : slice_get cells place.column ≡ Some c = there_is (slice_get cells place.column) c (sym (ap (cell_in_row place.column) here) ∙ is) some in
    sym (ap (slice_get cells) in_column) ∙ found

lone : (b : Bool) → (b && true) ≡ true → b ≡ true
lone true is = refl
lone false is = is

-- where the left side is a column and the right one a cell, whatever the rows
pub left_fixed : (session : Session) (left right : Placed) (range column : ℕ) (c : Cell) → IsColumnAt left range column → IsAlways session right c
    → IsFixed session (tree.Compare relation.Equal left right ∷ []) range column c
left_fixed session left right range column c (place, is, in_range, in_column) always rows cells met at =
    let sides : value_at rows session (tree.Compare relation.Equal left right) ≡ compare_value relation.Equal (Is (cell_at rows place)) (Is c) =
    compared_value rows session relation.Equal left right
    ∙ ap (λ v. compare_value relation.Equal v (value_at rows session right)) (ap (value_at rows session) is ∙ column_is rows session place)
    ∙ ap (compare_value relation.Equal (Is (cell_at rows place))) (always rows) in
    let yes = met_equal (cell_at rows place) c (sym (ap is_met sides) ∙ lone (is_met (value_at rows session (tree.Compare relation.Equal left right))) met) in
    in_row rows cells place range column c in_range in_column at yes.0 (λ e. yes.1 (yes.0 ∙ e))

-- and the other way round
pub right_fixed : (session : Session) (left right : Placed) (range column : ℕ) (c : Cell) → IsColumnAt right range column → IsAlways session left c
    → IsFixed session (tree.Compare relation.Equal left right ∷ []) range column c
right_fixed session left right range column c (place, is, in_range, in_column) always rows cells met at =
    let sides : value_at rows session (tree.Compare relation.Equal left right) ≡ compare_value relation.Equal (Is c) (Is (cell_at rows place)) =
    compared_value rows session relation.Equal left right
    ∙ ap (λ v. compare_value relation.Equal v (value_at rows session right)) (always rows)
    ∙ ap (compare_value relation.Equal (Is c)) (ap (value_at rows session) is ∙ column_is rows session place) in
    let yes = met_equal c (cell_at rows place) (sym (ap is_met sides) ∙ lone (is_met (value_at rows session (tree.Compare relation.Equal left right))) met) in
    in_row rows cells place range column c in_range in_column at (sym yes.0) yes.1

-- ---- several conditions

-- what some conditions fix, more of them fix
pub fixed_by_more : (session : Session) (some more : List Placed) (range column : ℕ) (c : Cell)
    → ((test : Placed → Bool) → list_all test more ≡ true → list_all test some ≡ true) → IsFixed session some range column c → IsFixed session more range column c
fixed_by_more session some more range column c among fixed rows cells met at = fixed rows cells (among (λ (t : Placed). is_met (value_at rows session t)) met) at

-- the element at hand, and those behind it
at_hand : {X : Type 0} (xs : List X) (i : ℕ) (x : X) → i < length xs → x ≡ get_or xs i x → drop i xs ≡ x ∷ drop (i + 1) xs
at_hand xs i x within is = drop-cons xs i x within ∙ ap₂ (λ y (n : ℕ). y ∷ drop n xs) (sym is) (sym (add-one i))

pub part_at_hand : {X : Type 0} (f : X → Placed) (xs : List X) (i : ℕ) (x : X) → i < length xs → x ≡ get_or xs i x → (test : Placed → Bool) → list_all test (map f (drop i xs)) ≡ true
    → (list_all test (f x ∷ []) ≡ true) × (list_all test (map f (drop (i + 1) xs)) ≡ true)
part_at_hand f xs i x within is test all =
    let both = and_parts (test (f x)) (list_all test (map f (drop (i + 1) xs))) (sym (ap (λ (rest : List _). list_all test (map f rest)) (at_hand xs i x within is)) ∙ all) in
    (and_from (test (f x)) true both.0 refl, both.1)

-- an AND is Yes where its parts are
pub and_fixed : ((parts : List Placed) (session : Session) (rows : List (List Cell))
    → is_met (value_at rows session (tree.And parts)) ≡ list_all (λ (part : Placed). is_met (value_at rows session part)) parts)
    → (session : Session) (parts : List Placed) (whole : Placed) (range column : ℕ) (c : Cell) → whole ≡ tree.And parts → IsFixed session parts range column c → IsFixed session (whole ∷ []) range column c
and_fixed met session parts whole range column c is fixed rows cells all at =
    fixed rows cells (sym (ap (λ t. is_met (value_at rows session t)) is ∙ met parts session rows) ∙ lone (is_met (value_at rows session whole)) all) at

-- ---- a value that names no column

pub always_so : ((tree : Placed) (session : Session) (one other : List (List Cell)) → AgreeWhereNamed tree one other → value_at one session tree ≡ value_at other session tree)
    → (session : Session) (value : Placed) (c : Cell) → ((range : ℕ) → names_range range value ≡ false) → value_at [] session value ≡ Is c → IsAlways session value c
always_so suffice session value c unnamed is rows = suffice value session rows [] (λ range is_named. absurd (differs (sym is_named ∙ unnamed range))) ∙ is

none_at : {P : Type 0} (b : Bool) → (b ≡ true → P) → (P → b ≡ false) → b ≡ false
none_at false within off = refl
none_at true within off = off (within refl)

pub none_named : (value : Placed) (count : ℕ) → ((range : ℕ) → IsTrue (names_range range value) → range < count) → ((range : ℕ) → range < count → names_range range value ≡ false)
    → (range : ℕ) → names_range range value ≡ false
none_named value count there below range = none_at (names_range range value) (there range) (below range)

-- ---- overflows

pub column_stays : (place : Place) → can_overflow (tree.Column place) ≡ false
column_stays place = ap can_overflow (sym (tree.rolls-Column place)) ∙ fold-roll-Placed Bool overflows.step (part.Column place)

or_none : (a b : Bool) → (a || b) ≡ false → (a ≡ false) × (b ≡ false)
or_none true b is = absurd (differs is)
or_none false b is = (refl, is)

pub never : ((tree : Placed) (session : Session) (rows : List (List Cell)) → can_overflow tree ≡ false → AreSound rows → is_overflow (value_at rows session tree) ≡ false)
    → (trees : List Placed) → list_any can_overflow trees ≡ false → (session : Session) → NeverOverflows session trees
never none [] can session views sound = refl
never none (tree ∷ trees) can session views sound =
    let both = or_none (can_overflow tree) (list_any can_overflow trees) can in
    ap (λ b. b || some_overflows session trees views) (nowhere views sound (λ rows. is_overflow (value_at rows session tree)) (λ rows fine. none tree session rows both.0 fine))
    ∙ never none trees both.1 session views sound

pub not_false : (b : Bool) → IsTrue (not b) → b ≡ false
not_false true is = absurd (differs (sym is))
not_false false is = refl
