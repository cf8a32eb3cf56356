-- A condition that is one comparison of a column with a number or a text, over rows that fit the table.
use Rattle.std.proofs.Common.{◌≡◌, ◌≢◌, ◌∙◌, ℕ, ◌+◌, Bool, true, false, not, cond, List, [], ◌∷◌, length, map, refl, sym, ap, ap₂, subst}
use Rattle.std.specs.Prelude.{◌==◌, ℤ, Option, Some, None, IfSome}
use Rattle.std.specs.List.{enumerate_from, filter, position, position_from, slice_get}
use Rattle.std.specs.Ordering.{int_cmp, is_eq, is_ne, nat_cmp, ordering_reverse}
use Rattle.std.specs.Cmp.Lexicographic.{nat_list_cmp_total, slice_cmp}
use Rattle.std.specs.Str.{bytes_eq}
use Rattle.std.specs.declared.cmp.Ordering.{Ordering}
use Rattle.std.specs.declared.cmp.Ordering.TheVariants as order
use Rattle.std.proofs.lemmas.Cmp.{int_cmp_total, nat_cmp_total}
use Rattle.std.proofs.lemmas.Iterator.Adapters.{position_from-zero}
use Rattle.std.proofs.lemmas.List.{append-nil}
use Rattle.std.proofs.lemmas.List.Concat.{flat_map-cons}
use Rattle.std.proofs.lemmas.Map.Text.{is_eq-slice_cmp}
use Rattle.au_audit.specs.Conditions.{is_yes}
use Rattle.au_base.specs.declared.cell.Cell.{Cell}
use Rattle.au_base.specs.declared.cell.Cell.TheVariants as cell
use Rattle.au_base.specs.declared.code.Code.{Code}
use Rattle.au_base.specs.declared.table.Column.{Column}
use Rattle.au_base.specs.Cells.{comparison}
use Rattle.au_base.specs.Truths.{truth_of}
use Rattle.au_entries.specs.declared.table.Table.{Table}
use Rattle.au_expr.specs.declared.placed.Place.{Place}
use Rattle.au_expr.specs.declared.placed.Placed.{Placed}
use Rattle.au_expr.specs.declared.placed.Placed.TheVariants as tree
use Rattle.au_expr.specs.declared.placed.Placed.TheOpen as placed_part
use Rattle.au_expr.specs.declared.placed.Placed.TheFolds.{fold-roll-Placed, map-Placed}
use Rattle.au_expr.specs.declared.placed.Placed.TheViews.{roll-Placed}
use Rattle.au_expr.specs.Names as names
use Rattle.au_expr.specs.Names.{code_of, first, name_code, or_code, place_of, places, places_in, places_of}
use Rattle.au_expr.specs.Operators.{compare_value, is_asked}
use Rattle.au_expr.specs.Placing as by_place
use Rattle.au_expr.specs.Placing.{cell_in_row, cell_or_null, value_at}
use Rattle.au_expr.specs.Resolving as resolving
use Rattle.au_expr.specs.Resolving.{IsCondition, column_at, placed}
use Rattle.au_expr.specs.Rows.{FitsColumns, Range, is_range}
use Rattle.au_expr.specs.Sessions.{Session}
use Rattle.au_expr.specs.Values.{Value, Is, truth_in}
use Rattle.au_fga.specs.Testing.{range_of, truth_in_table}
use Rattle.au_fga.specs.declared.comparing.Comparison.{Comparison}
use Rattle.au_fga.specs.descent.Comparing.{Compares, Decides, IsColumnAt, bound_cell, cell_compares, compares, turned}
use Rattle.au_fga.proofs.Tested.{NamesOrPlaces}
use Rattle.sql_ast.specs.declared.expression.Expr.{Expr}
use Rattle.sql_ast.specs.declared.expression.Expr.TheVariants as expr
use Rattle.sql_ast.specs.declared.expression.Expr.TheOpen as part
use Rattle.sql_ast.specs.declared.expression.Expr.TheViews.{roll-Expr}
use Rattle.sql_ast.specs.declared.expression.Expr.TheFolds.{fold-roll-Expr, map-Expr}
use Rattle.sql_ast.specs.declared.expression.Relation.{Relation}
use Rattle.sql_ast.specs.declared.expression.Relation.TheVariants as relation

-- ---- trees by their outermost operator

value_form : (rows : List (List Cell)) (session : Session) (x : placed_part.Placed-F Placed) (e : Placed) → roll-Placed x ≡ e
    → value_at rows session e ≡ by_place.step rows session (map-Placed Placed Value (value_at rows session) x)
value_form rows session x e h = ap (value_at rows session) (sym h) ∙ fold-roll-Placed Value (by_place.step rows session) x

placed_form : (ranges : List Range) (x : part.Expr-F Expr) (e : Expr) → roll-Expr x ≡ e → placed ranges e ≡ resolving.step ranges (map-Expr Expr Placed (placed ranges) x)
placed_form ranges x e h = ap (placed ranges) (sym h) ∙ fold-roll-Expr Placed (resolving.step ranges) x

name_form : (ranges : List Range) (x : part.Expr-F Expr) (e : Expr) → roll-Expr x ≡ e → name_code ranges e ≡ names.step ranges (map-Expr Expr (Option Code) (name_code ranges) x)
name_form ranges x e h = ap (name_code ranges) (sym h) ∙ fold-roll-Expr (Option Code) (names.step ranges) x

-- ---- sides

pub number_given : (table : Table) (n : ℤ) (session : Session) (cells : List Cell) → value_at (cells ∷ []) session (placed (range_of table ∷ []) (expr.Number n)) ≡ Is (cell.Num n)
number_given table n session cells =
    ap (value_at (cells ∷ []) session) (placed_form (range_of table ∷ []) (part.Number n) (expr.Number n) (expr.rolls-Number n))
    ∙ value_form (cells ∷ []) session (placed_part.Number n) (tree.Number n) (tree.rolls-Number n)

text_given : (table : Table) (byte : ℕ) (bytes : List ℕ) (session : Session) (cells : List Cell)
    → value_at (cells ∷ []) session (placed (range_of table ∷ []) (expr.Literal (byte ∷ bytes))) ≡ Is (cell.Text (byte ∷ bytes))
text_given table byte bytes session cells =
    ap (value_at (cells ∷ []) session) (placed_form (range_of table ∷ []) (part.Literal (byte ∷ bytes)) (expr.Literal (byte ∷ bytes)) (expr.rolls-Literal (byte ∷ bytes)))
    ∙ value_form (cells ∷ []) session (placed_part.Literal (byte ∷ bytes)) (tree.Literal (byte ∷ bytes)) (tree.rolls-Literal (byte ∷ bytes))

-- the first column of a name that one column has is that column
module _ (name : List ℕ) (rows : List (List Cell)) (session : Session) where
  abbrev has_name : Column → Bool
  has_name column = bytes_eq column.name name

  abbrev from_on : ℕ → List Column → List Place
  from_on from columns = map (place_of 0) (filter (λ (p : ℕ × Column). bytes_eq p.1.name name) (enumerate_from from columns))

  abbrev gives : List Place → ℕ → Type 0
  gives found place = value_at rows session (column_at found) ≡ Is (cell_in_row place (slice_get rows 0))

  only_one : (from place : ℕ) (column : Column) (rest : List Place) → code_of (place_of 0 (from, column) ∷ rest) ≡ None → Some from ≡ Some place → gives (place_of 0 (from, column) ∷ rest) place
  only_one from place column [] one at =
      value_form rows session (placed_part.Column (place_of 0 (from, column))) (tree.Column (place_of 0 (from, column))) (tree.rolls-Column (place_of 0 (from, column)))
      ∙ ap (λ (i : ℕ). Is (cell_in_row i (slice_get rows 0))) (let same : from ≡ place = cc in same)
  only_one from place column (other ∷ rest) one at = absurd (cc)

  abbrev later_on : ℕ → List Column → List (ℕ × Column)
  later_on from columns = filter (λ (p : ℕ × Column). bytes_eq p.1.name name) (enumerate_from (from + 1) columns)

  first_gives : (from place : ℕ) (columns : List Column) → code_of (from_on from columns) ≡ None → position_from has_name from columns ≡ Some place → gives (from_on from columns) place
  first_gives from place [] one at = absurd (cc)
  first_gives from place (column ∷ columns) one at = by_case (first_gives (from + 1) place columns) (has_name column) one at
    where
      by_case : (code_of (from_on (from + 1) columns) ≡ None → position_from has_name (from + 1) columns ≡ Some place → gives (from_on (from + 1) columns) place) → (b : Bool)
          → code_of (map (place_of 0) (cond b ((from, column) ∷ later_on from columns) (later_on from columns))) ≡ None
          → cond b (Some from) (position_from has_name (from + 1) columns) ≡ Some place
          → gives (map (place_of 0) (cond b ((from, column) ∷ later_on from columns) (later_on from columns))) place
      by_case further true one at = only_one from place column (from_on (from + 1) columns) one at
      by_case further false one at = further one at

one_range : (written : Option (List ℕ)) (name : List ℕ) (range : Range) → places (range ∷ []) written name ≡ places_of written name (0, range)
one_range written name range = flat_map-cons (places_of written name) (0, range) [] ∙ append-nil (places_of written name (0, range))

column_given : (table : Table) (written : Option (List ℕ)) (name : List ℕ) (place : ℕ) → position (λ (column : Column). bytes_eq column.name name) table.columns ≡ Some place
    → IsColumnAt table (expr.Column written name) place
column_given table written name place at named session cells =
    ap (value_at (cells ∷ []) session) (placed_form (range_of table ∷ []) (part.Column written name) (expr.Column written name) (expr.rolls-Column written name))
    ∙ ap (λ found. value_at (cells ∷ []) session (column_at found)) (one_range written name (range_of table))
    ∙ by_case (is_range written table.name.name) (sym (ap code_of (one_range written name (range_of table))) ∙ sym (name_form (range_of table ∷ []) (part.Column written name) (expr.Column written name) (expr.rolls-Column written name)) ∙ named)
  where
    by_case : (b : Bool) → code_of (cond b (places_in 0 name table.columns) []) ≡ None → gives name (cells ∷ []) session (cond b (places_in 0 name table.columns) []) place
    by_case true one = first_gives name (cells ∷ []) session 0 place table.columns one (sym (position_from-zero (λ (column : Column). bytes_eq column.name name) table.columns) ∙ at)
    by_case false one = absurd (cc)

-- ---- the comparison

or_none : (a b : Option Code) → or_code a b ≡ None → (a ≡ None) × (b ≡ None)
or_none None b is = (refl, is)
or_none (Some code) b is = absurd (cc)

-- each side of a condition that compares two has its columns
sides_named : (ranges : List Range) (asked : Relation) (a b : Expr) → IsCondition ranges (expr.Compare asked a b) → (name_code ranges a ≡ None) × (name_code ranges b ≡ None)
sides_named ranges asked a b is =
    let named = (or_none (name_code ranges (expr.Compare asked a b)) _ is).0 in
    let parts = or_none (name_code ranges a) (or_code (name_code ranges b) None) (sym (name_form ranges (part.Compare asked a b) (expr.Compare asked a b) (expr.rolls-Compare asked a b)) ∙ named) in
    (parts.0, (or_none (name_code ranges b) None parts.1).0)

-- over a row that fits, the condition is what its sides compare as
compared_is : NamesOrPlaces → (table : Table) (asked : Relation) (a b : Expr) (session : Session) (cells : List Cell) (one other : Cell)
    → value_at (cells ∷ []) session (placed (range_of table ∷ []) a) ≡ Is one → value_at (cells ∷ []) session (placed (range_of table ∷ []) b) ≡ Is other
    → FitsColumns table.columns cells → cell_compares asked one other ≡ is_yes (truth_in_table session (Some table) (expr.Compare asked a b) cells)
compared_is law table asked a b session cells one other first second fits =
    let ranges = range_of table ∷ [] in
    let x = placed ranges a in
    let y = placed ranges b in
    let by_places : value_at (cells ∷ []) session (placed ranges (expr.Compare asked a b)) ≡ compare_value asked (Is one) (Is other) =
    ap (value_at (cells ∷ []) session) (placed_form ranges (part.Compare asked a b) (expr.Compare asked a b) (expr.rolls-Compare asked a b))
    ∙ value_form (cells ∷ []) session (placed_part.Compare asked x y) (tree.Compare asked x y) (tree.rolls-Compare asked x y)
    ∙ ap₂ (λ (v w : Value). compare_value asked v w) first second in
    ap (λ (v : Value). is_yes (truth_in v)) (sym by_places ∙ law ranges (cells ∷ []) session (expr.Compare asked a b) (fits, tt))

-- ---- the other way round

reversed_asks : (asked : Relation) (found : Ordering) → is_asked (turned asked) found ≡ is_asked asked (ordering_reverse found)
reversed_asks relation.Equal order.Less = refl
reversed_asks relation.Equal order.Equal = refl
reversed_asks relation.Equal order.Greater = refl
reversed_asks relation.Unequal order.Less = refl
reversed_asks relation.Unequal order.Equal = refl
reversed_asks relation.Unequal order.Greater = refl
reversed_asks relation.Less order.Less = refl
reversed_asks relation.Less order.Equal = refl
reversed_asks relation.Less order.Greater = refl
reversed_asks relation.LessEqual order.Less = refl
reversed_asks relation.LessEqual order.Equal = refl
reversed_asks relation.LessEqual order.Greater = refl
reversed_asks relation.Greater order.Less = refl
reversed_asks relation.Greater order.Equal = refl
reversed_asks relation.Greater order.Greater = refl
reversed_asks relation.GreaterEqual order.Less = refl
reversed_asks relation.GreaterEqual order.Equal = refl
reversed_asks relation.GreaterEqual order.Greater = refl

turned_order : (asked : Relation) (here there : Ordering) → there ≡ ordering_reverse here → is_yes (truth_of (is_asked (turned asked) here)) ≡ is_yes (truth_of (is_asked asked there))
turned_order asked here there is = ap (λ (b : Bool). is_yes (truth_of b)) (reversed_asks asked here ∙ sym (ap (is_asked asked) is))

turned_compares : (asked : Relation) (a b : Cell) → cell_compares (turned asked) a b ≡ cell_compares asked b a
turned_compares asked cell.Null cell.Null = refl
turned_compares asked cell.Null (cell.Num n) = refl
turned_compares asked cell.Null (cell.Text t) = refl
turned_compares asked cell.Null (cell.Moment m) = refl
turned_compares asked (cell.Num a) cell.Null = refl
turned_compares asked (cell.Num a) (cell.Num b) = turned_order asked (int_cmp a b) (int_cmp b a) (int_cmp_total.antisymm b a)
turned_compares asked (cell.Num a) (cell.Text t) = refl
turned_compares asked (cell.Num a) (cell.Moment m) = refl
turned_compares asked (cell.Text a) cell.Null = refl
turned_compares asked (cell.Text a) (cell.Num n) = refl
turned_compares asked (cell.Text a) (cell.Text b) = turned_order asked (slice_cmp nat_cmp a b) (slice_cmp nat_cmp b a) (nat_list_cmp_total.antisymm b a)
turned_compares asked (cell.Text a) (cell.Moment m) = refl
turned_compares asked (cell.Moment a) cell.Null = refl
turned_compares asked (cell.Moment a) (cell.Num n) = refl
turned_compares asked (cell.Moment a) (cell.Text t) = refl
turned_compares asked (cell.Moment a) (cell.Moment b) = turned_order asked (nat_cmp a b) (nat_cmp b a) (nat_cmp_total.antisymm b a)

-- ---- what the comparison decides

pub column_first : NamesOrPlaces → (table : Table) (x : Expr) (asked : Relation) (a b : Expr) (comparison : Comparison) → x ≡ expr.Compare asked a b → IsCondition (range_of table ∷ []) x
    → Compares table asked a b comparison → Decides table x (λ session. compares comparison)
column_first law table x asked a b comparison is condition sides session cells fits =
    let named = sides_named (range_of table ∷ []) asked a b (subst (IsCondition (range_of table ∷ [])) is condition) in
    let one = cell_or_null (slice_get cells comparison.place) in
    ap (λ (r : Relation). cell_compares r one (bound_cell comparison.bound)) sides.relation
    ∙ compared_is law table asked a b session cells one (bound_cell comparison.bound) (sides.column named.0 session cells) (sides.bound table session cells) fits
    ∙ ap (λ (e : Expr). is_yes (truth_in_table session (Some table) e cells)) (sym is)

pub column_second : NamesOrPlaces → (table : Table) (x : Expr) (asked back : Relation) (a b : Expr) (comparison : Comparison) → x ≡ expr.Compare asked a b → IsCondition (range_of table ∷ []) x
    → back ≡ turned asked → Compares table back b a comparison → Decides table x (λ session. compares comparison)
column_second law table x asked back a b comparison is condition way sides session cells fits =
    let named = sides_named (range_of table ∷ []) asked a b (subst (IsCondition (range_of table ∷ [])) is condition) in
    let one = cell_or_null (slice_get cells comparison.place) in
    ap (λ (r : Relation). cell_compares r one (bound_cell comparison.bound)) (sides.relation ∙ way)
    ∙ turned_compares asked one (bound_cell comparison.bound)
    ∙ compared_is law table asked a b session cells (bound_cell comparison.bound) one (sides.bound table session cells) (sides.column named.1 session cells) fits
    ∙ ap (λ (e : Expr). is_yes (truth_in_table session (Some table) e cells)) (sym is)

-- ---- as the code finds them

pub column_found : (table : Table) (side : Expr) (written : Option (List ℕ)) (name : List ℕ) (found : Option ℕ) → side ≡ expr.Column written name
    → found ≡ position (λ (column : Column). bytes_eq column.name name) table.columns → IfSome found (IsColumnAt table side)
column_found table side written name None is at = tt
column_found table side written name (Some place) is at = subst (λ (x : Expr). IsColumnAt table x place) (sym is) (column_given table written name place (sym at))

pub text_found : (table : Table) (side : Expr) (text : List ℕ) → side ≡ expr.Literal text → text ≢ [] → (session : Session) (cells : List Cell)
    → value_at (cells ∷ []) session (placed (range_of table ∷ []) side) ≡ Is (cell.Text text)
text_found table side [] is some session cells = absurd (some refl)
text_found table side (byte ∷ bytes) is some session cells =
    ap (λ (x : Expr). value_at (cells ∷ []) session (placed (range_of table ∷ []) x)) is ∙ text_given table byte bytes session cells

pub some_bytes : (bytes text : List ℕ) (b : Bool) → bytes ≡ text → b ≡ (length bytes == 0) → b ≡ false → text ≢ []
some_bytes bytes text b is tested none empty =
    let e : true ≡ false = sym (ap (λ (xs : List ℕ). length xs == 0) (is ∙ empty)) ∙ sym tested ∙ none in
    absurd (cc)

-- ---- tests of texts

unequal_is : (found : Ordering) → not (is_eq found) ≡ is_ne found
unequal_is order.Less = refl
unequal_is order.Equal = refl
unequal_is order.Greater = refl

pub equal_asked : (asked : Relation) (xs ys : List ℕ) (b : Bool) → asked ≡ relation.Equal → b ≡ bytes_eq xs ys → b ≡ is_asked asked (slice_cmp nat_cmp xs ys)
equal_asked asked xs ys b is same = same ∙ sym (is_eq-slice_cmp xs ys) ∙ ap (λ (r : Relation). is_asked r (slice_cmp nat_cmp xs ys)) (sym is)

pub unequal_asked : (asked : Relation) (xs ys : List ℕ) (b : Bool) → asked ≡ relation.Unequal → b ≡ not (bytes_eq xs ys) → b ≡ is_asked asked (slice_cmp nat_cmp xs ys)
unequal_asked asked xs ys b is other =
    other ∙ ap not (sym (is_eq-slice_cmp xs ys)) ∙ unequal_is (slice_cmp nat_cmp xs ys) ∙ ap (λ (r : Relation). is_asked r (slice_cmp nat_cmp xs ys)) (sym is)
