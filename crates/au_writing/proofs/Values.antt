-- The values that a statement gives columns.
use Rattle.std.proofs.Common.{◌≡◌, ◌∙◌, ℕ, zero, suc, Bool, true, false, if◌then◌else◌, List, [], ◌∷◌, map, refl, sym, ap, subst}
use Rattle.std.specs.Prelude.{⊤, IsTrue, IsUtf8, Option, Some, None}
use Rattle.std.specs.List.{AllByRecursion, list_all, slice_get}
use Rattle.std.proofs.lemmas.Fmt.{IsAscii-decimal}
use Rattle.std.proofs.lemmas.Str.{IsUtf8-from_ascii}
use Rattle.std.specs.Fmt.{decimal}
use Rattle.au_base.specs.Cells.{IsSoundCell, text_cell}
use Rattle.au_base.specs.Codes.{WRONG_KIND}
use Rattle.au_base.specs.Naming.{IsName}
use Rattle.au_base.specs.declared.cell.Cell.{Cell}
use Rattle.au_base.specs.declared.cell.Cell.TheVariants as cell
use Rattle.au_base.specs.declared.code.Code.{Code}
use Rattle.au_base.specs.declared.table.ColumnKind.{ColumnKind}
use Rattle.au_base.specs.declared.table.ColumnKind.TheVariants.{Number, Text, Moment}
use Rattle.au_expr.specs.declared.kind.ExprKind.{ExprKind}
use Rattle.au_expr.specs.declared.kind.ExprKind.TheVariants.{Any, Truth, Of}
use Rattle.au_expr.specs.declared.placed.Place.{Place}
use Rattle.au_expr.specs.declared.placed.Placed.{Placed}
use Rattle.au_expr.specs.declared.placed.Placed.TheVariants as tree
use Rattle.au_expr.specs.declared.placed.Placed.TheOpen as placed_part
use Rattle.au_expr.specs.declared.placed.Placed.TheViews.{roll-Placed}
use Rattle.au_expr.specs.declared.placed.Placed.TheFolds.{fold-roll-Placed, map-Placed}
use Rattle.au_expr.specs.Kinds.{given_where, goes_with, is_one_kind, is_truth, kind, kind_at, kind_of_places, placed_step}
use Rattle.au_expr.specs.Kinds as kinds
use Rattle.au_expr.specs.Names.{name_code, or_code, places}
use Rattle.au_expr.specs.Placing.{cell_in_row, cell_or_null, value_at}
use Rattle.au_expr.specs.Placing as by_place
use Rattle.au_expr.specs.Resolving.{IsResolved, column_at, kind_code, placed, value_code}
use Rattle.au_expr.specs.Resolving as resolving
use Rattle.au_expr.specs.Rows.{AreSound, FitsRanges, IsOfKind, Range}
use Rattle.au_expr.specs.Sessions.{IsSoundSession, Session, is_number, is_user}
use Rattle.au_expr.specs.Soundness.{IsValueOf, has_sound_literals}
use Rattle.au_expr.specs.Values.{Value, Is, Holds, Overflows, cell_in}
use Rattle.au_literals.specs.Literals.{IsSoundValue, IsTextLiteral}
use Rattle.au_writing.proofs.Fitting.{IsGood, IsUtf8Cell, null_of_kind, unrefused}
use Rattle.sql_ast.specs.declared.expression.Expr.{Expr}
use Rattle.sql_ast.specs.declared.expression.Expr.TheVariants as expr
use Rattle.sql_ast.specs.declared.expression.Expr.TheOpen as part
use Rattle.sql_ast.specs.declared.expression.Expr.TheViews.{roll-Expr}
use Rattle.sql_ast.specs.declared.expression.Expr.TheFolds.{fold-roll-Expr, ind-Expr, map-Expr}

-- what resolved expressions give, as the law has it
abbrev pub GivesSound : Type 0
GivesSound = (ranges : List Range) (rows : List (List Cell)) (session : Session) (x : Expr) (resolved : Placed) → IsResolved ranges x resolved → FitsRanges ranges rows → AreSound rows
    → IsSoundSession session → IsTrue (has_sound_literals x) → IsValueOf (kind_at resolved) (value_at rows session resolved)

-- ---- what is no text

-- what is of this kind is no text
abbrev IsNoText : ExprKind → Type 0
IsNoText Any = ⊤
IsNoText Truth = ⊤
IsNoText (Of Number) = ⊤
IsNoText (Of Text) = ⊥
IsNoText (Of Moment) = ⊤

null_utf8 : (content : Cell) → content ≡ cell.Null → IsUtf8Cell content
null_utf8 content is = subst IsUtf8Cell (sym is) tt

no_text_in : (wanted : ColumnKind) (content : Cell) → IsNoText (Of wanted) → IsOfKind wanted content → IsUtf8Cell content
no_text_in Number cell.Null none of_kind = tt
no_text_in Number (cell.Num n) none of_kind = tt
no_text_in Number (cell.Text text) none of_kind = absurd of_kind
no_text_in Number (cell.Moment m) none of_kind = tt
no_text_in Text content none of_kind = absurd none
no_text_in Moment cell.Null none of_kind = tt
no_text_in Moment (cell.Num n) none of_kind = tt
no_text_in Moment (cell.Text text) none of_kind = absurd of_kind
no_text_in Moment (cell.Moment m) none of_kind = tt

no_text : (k : ExprKind) (v : Value) → IsNoText k → IsValueOf k v → IsUtf8Cell (cell_in v)
no_text k Overflows none good = tt
no_text k (Holds t) none good = tt
no_text Any (Is c) none good = null_utf8 c good
no_text Truth (Is c) none good = absurd good
no_text (Of wanted) (Is c) none good = no_text_in wanted c none good.0

given_is : (k other : ExprKind) (b : Bool) → given_where k b ≡ Some other → k ≡ other
given_is k other true h = cc
given_is k other false h = absurd (cc)

some_is : (k other : ExprKind) → Some k ≡ Some other → k ≡ other
some_is k other h = cc

-- ---- texts

text_utf8 : (text : List ℕ) → IsUtf8 text → IsUtf8Cell (text_cell text)
text_utf8 [] utf8 = tt
text_utf8 (byte ∷ text) utf8 = utf8

-- each cell of each row is UTF-8 where it is a text
abbrev pub AreUtf8 : List (List Cell) → Type 0
AreUtf8 rows = AllByRecursion (AllByRecursion IsUtf8Cell) rows

utf8_get : (row : List Cell) (column : ℕ) → AllByRecursion IsUtf8Cell row → IsUtf8Cell (cell_or_null (slice_get row column))
utf8_get [] column all = tt
utf8_get (c ∷ row) zero all = all.0
utf8_get (c ∷ row) (suc column) all = utf8_get row column all.1

utf8_at : (rows : List (List Cell)) (range column : ℕ) → AreUtf8 rows → IsUtf8Cell (cell_in_row column (slice_get rows range))
utf8_at [] range column all = tt
utf8_at (row ∷ rows) zero column all = utf8_get row column all.0
utf8_at (row ∷ rows) (suc range) column all = utf8_at rows range column all.1

-- ---- an expression by its outermost operator

module _ (ranges : List Range) (rows : List (List Cell)) (session : Session) (sound : IsSoundSession session) (named : IsName session.user) (utf8 : AreUtf8 rows) where
  abbrev at : Placed → Value
  at = value_at rows session

  -- the tree is of the kind, and what it gives is UTF-8 where it is a text
  abbrev IsTold : (Literal : Type 0) → Placed → ExprKind → Type 0
  IsTold Literal t k = (kind_at t ≡ k) × (Literal → IsValueOf k (at t) → IsUtf8Cell (cell_in (at t)))

  abbrev Told : Expr → Type 0
  Told e = (k : ExprKind) → kind ranges e ≡ Some k → IsTold (IsTextLiteral e) (placed ranges e) k

  unrolled : (x : part.Expr-F Expr) (e : Expr) → roll-Expr x ≡ e
      → ((k : ExprKind) → kinds.step ranges (map-Expr Expr (Option ExprKind) (kind ranges) x) ≡ Some k → IsTold (IsTextLiteral e) (resolving.step ranges (map-Expr Expr Placed (placed ranges) x)) k)
      → Told e
  unrolled x e is f k h =
      subst (λ (t : Placed). IsTold (IsTextLiteral e) t k) (sym (ap (placed ranges) (sym is) ∙ fold-roll-Expr Placed (resolving.step ranges) x))
      (f k (sym (ap (kind ranges) (sym is) ∙ fold-roll-Expr (Option ExprKind) (kinds.step ranges) x) ∙ h))

  kind_form : (y : placed_part.Placed-F Placed) (t : Placed) → roll-Placed y ≡ t → kind_at t ≡ placed_step (map-Placed Placed ExprKind kind_at y)
  kind_form y t is = ap kind_at (sym is) ∙ fold-roll-Placed ExprKind placed_step y

  value_form : (y : placed_part.Placed-F Placed) (t : Placed) → roll-Placed y ≡ t → at t ≡ by_place.step rows session (map-Placed Placed Value at y)
  value_form y t is = ap at (sym is) ∙ fold-roll-Placed Value (by_place.step rows session) y

  -- an operator that gives no text
  operator : (x : part.Expr-F Expr) (e : Expr) → roll-Expr x ≡ e → (y : placed_part.Placed-F Placed) (t : Placed) → roll-Placed y ≡ t → resolving.step ranges (map-Expr Expr Placed (placed ranges) x) ≡ t
      → (of : ExprKind) → placed_step (map-Placed Placed ExprKind kind_at y) ≡ of → IsNoText of → (b : Bool) → kinds.step ranges (map-Expr Expr (Option ExprKind) (kind ranges) x) ≡ given_where of b → Told e
  operator x e rolls y t made is of step none b given = unrolled x e rolls (λ k h.
      let same = given_is of k b (sym given ∙ h) in (
        ap kind_at is ∙ kind_form y t made ∙ step ∙ same,
        λ literal good. no_text k (at (resolving.step ranges (map-Expr Expr Placed (placed ranges) x))) (subst IsNoText same none) good,
      ))

  -- a tree that gives this text
  leaf : (Literal : Type 0) (y : placed_part.Placed-F Placed) (t : Placed) → roll-Placed y ≡ t → (of k : ExprKind) → placed_step (map-Placed Placed ExprKind kind_at y) ≡ of → of ≡ k
      → (Literal → IsUtf8Cell (cell_in (by_place.step rows session (map-Placed Placed Value at y)))) → IsTold Literal t k
  leaf Literal y t made of k step same gives = (
    kind_form y t made ∙ step ∙ same,
    λ literal good. subst (λ (v : Value). IsUtf8Cell (cell_in v)) (sym (value_form y t made)) (gives literal),
  )

  column_told : (ps : List Place) (k : ExprKind) → kind_of_places ps ≡ Some k → IsTold ⊤ (column_at ps) k
  column_told [] k h = absurd (cc)
  column_told (p ∷ []) k h = leaf ⊤ (placed_part.Column p) (tree.Column p) (tree.rolls-Column p) (Of p.kind) k refl (some_is (Of p.kind) k h) (λ literal. utf8_at rows p.range p.column utf8)
  column_told (p ∷ q ∷ ps) k h = absurd (cc)

  context_told : (a b : Bool) (k : ExprKind) → Some (if a then Of Text else (if b then Of Text else Any)) ≡ Some k → IsTold ⊤ (if a then tree.SessionNumber else (if b then tree.User else tree.Null)) k
  context_told true b k h = leaf ⊤ placed_part.SessionNumber tree.SessionNumber tree.rolls-SessionNumber (Of Text) k refl (some_is (Of Text) k h) (λ literal. IsUtf8-from_ascii (decimal session.session.0) (IsAscii-decimal session.session.0 sound.counted))
  context_told false true k h = leaf ⊤ placed_part.User tree.User tree.rolls-User (Of Text) k refl (some_is (Of Text) k h) (λ literal. named.1)
  context_told false false k h = leaf ⊤ placed_part.Null tree.Null tree.rolls-Null Any k refl (some_is Any k h) (λ literal. tt)

  abbrev firsts : List ((e : Expr) × Told e) → List Expr
  firsts ys = map (λ y. y.0) ys

  abbrev their : List ((e : Expr) × Told e) → List Placed
  their ys = map (placed ranges) (firsts ys)

  abbrev kinds_of : List Expr → List (Option ExprKind)
  kinds_of xs = map (kind ranges) xs

  abbrev summands : List (Bool × ((e : Expr) × Told e)) → List (Bool × Expr)
  summands ys = map (λ y. (y.0, y.1.0)) ys

  abbrev place : Bool × Expr → Bool × Placed
  place p = (p.0, placed ranges p.1)

  abbrev second : Bool × Option ExprKind → Option ExprKind
  second p = p.1

  abbrev with_kind : Bool × Expr → Bool × Option ExprKind
  with_kind p = (p.0, kind ranges p.1)

  -- an operator, as it is rolled
  rolled : (x : part.Expr-F Expr) (y : placed_part.Placed-F Placed) (t : Placed) → roll-Placed y ≡ t → resolving.step ranges (map-Expr Expr Placed (placed ranges) x) ≡ t
      → (of : ExprKind) → placed_step (map-Placed Placed ExprKind kind_at y) ≡ of → IsNoText of → (b : Bool) → kinds.step ranges (map-Expr Expr (Option ExprKind) (kind ranges) x) ≡ given_where of b → Told (roll-Expr x)
  rolled x = operator x (roll-Expr x) refl

  -- a variant that is told is told as it is rolled
  variant : (x : part.Expr-F Expr) (e : Expr) → roll-Expr x ≡ e → Told e → Told (roll-Expr x)
  variant x e is = subst Told (sym is)

  cases : (y : part.Expr-F ((e : Expr) × Told e)) → Told (roll-Expr (map-Expr ((e : Expr) × Told e) Expr (λ e. e.0) y))
  cases (part.Or ys) = rolled (part.Or (firsts ys)) (placed_part.Or (their ys)) (tree.Or (their ys)) (tree.rolls-Or (their ys)) refl Truth refl tt (list_all is_truth (kinds_of (firsts ys))) refl
  cases (part.And ys) = rolled (part.And (firsts ys)) (placed_part.And (their ys)) (tree.And (their ys)) (tree.rolls-And (their ys)) refl Truth refl tt (list_all is_truth (kinds_of (firsts ys))) refl
  cases (part.Not a) = let x = placed ranges a.0 in rolled (part.Not a.0) (placed_part.Not x) (tree.Not x) (tree.rolls-Not x) refl Truth refl tt (is_truth (kind ranges a.0)) refl
  cases (part.Compare r a b) = let x = placed ranges a.0 in let y = placed ranges b.0 in
      rolled (part.Compare r a.0 b.0) (placed_part.Compare r x y) (tree.Compare r x y) (tree.rolls-Compare r x y) refl Truth refl tt (is_one_kind (kinds_of (a.0 ∷ b.0 ∷ []))) refl
  cases (part.IsNull a n) = let x = placed ranges a.0 in rolled (part.IsNull a.0 n) (placed_part.IsNull x n) (tree.IsNull x n) (tree.rolls-IsNull x n) refl Truth refl tt (is_one_kind (kinds_of (a.0 ∷ []))) refl
  cases (part.Like a b n) = let x = placed ranges a.0 in let y = placed ranges b.0 in
      rolled (part.Like a.0 b.0 n) (placed_part.Like x y n) (tree.Like x y n) (tree.rolls-Like x y n) refl Truth refl tt (list_all (goes_with Text) (kinds_of (a.0 ∷ b.0 ∷ []))) refl
  cases (part.In a ys n) = let x = placed ranges a.0 in
      rolled (part.In a.0 (firsts ys) n) (placed_part.In x (their ys) n) (tree.In x (their ys) n) (tree.rolls-In x (their ys) n) refl Truth refl tt (is_one_kind (kinds_of (a.0 ∷ firsts ys))) refl
  cases (part.Between a b c n) = let x = placed ranges a.0 in let y = placed ranges b.0 in let z = placed ranges c.0 in
      rolled (part.Between a.0 b.0 c.0 n) (placed_part.Between x y z n) (tree.Between x y z n) (tree.rolls-Between x y z n) refl Truth refl tt (is_one_kind (kinds_of (a.0 ∷ b.0 ∷ c.0 ∷ []))) refl
  cases (part.Sum ys) = let xs = map place (summands ys) in
      rolled (part.Sum (summands ys)) (placed_part.Sum xs) (tree.Sum xs) (tree.rolls-Sum xs) refl (Of Number) refl tt (list_all (goes_with Number) (map second (map with_kind (summands ys)))) refl
  cases (part.Product ys) = rolled (part.Product (firsts ys)) (placed_part.Product (their ys)) (tree.Product (their ys)) (tree.rolls-Product (their ys)) refl (Of Number) refl tt (list_all (goes_with Number) (kinds_of (firsts ys))) refl
  cases (part.Negate a) = let x = placed ranges a.0 in rolled (part.Negate a.0) (placed_part.Negate x) (tree.Negate x) (tree.rolls-Negate x) refl (Of Number) refl tt (goes_with Number (kind ranges a.0)) refl
  cases (part.Number n) = rolled (part.Number n) (placed_part.Number n) (tree.Number n) (tree.rolls-Number n) refl (Of Number) refl tt true refl
  cases (part.Literal text) = variant (part.Literal text) (expr.Literal text) (expr.rolls-Literal text)
      (unrolled (part.Literal text) (expr.Literal text) (expr.rolls-Literal text) (λ k h. leaf (IsUtf8 text) (placed_part.Literal text) (tree.Literal text) (tree.rolls-Literal text) (Of Text) k refl (some_is (Of Text) k h) (text_utf8 text)))
  cases part.Null = rolled part.Null placed_part.Null tree.Null tree.rolls-Null refl Any refl tt true refl
  cases (part.Column written name) = variant (part.Column written name) (expr.Column written name) (expr.rolls-Column written name)
      (unrolled (part.Column written name) (expr.Column written name) (expr.rolls-Column written name) (column_told (places ranges written name)))
  cases part.User = variant part.User expr.User expr.rolls-User
      (unrolled part.User expr.User expr.rolls-User (λ k h. leaf ⊤ placed_part.User tree.User tree.rolls-User (Of Text) k refl (some_is (Of Text) k h) (λ literal. named.1)))
  cases part.Now = rolled part.Now placed_part.Now tree.Now tree.rolls-Now refl (Of Moment) refl tt true refl
  cases (part.Moment m) = rolled (part.Moment m) (placed_part.Moment m) (tree.Moment m) (tree.rolls-Moment m) refl (Of Moment) refl tt true refl
  cases (part.Context attribute) = variant (part.Context attribute) (expr.Context attribute) (expr.rolls-Context attribute)
      (unrolled (part.Context attribute) (expr.Context attribute) (expr.rolls-Context attribute) (context_told (is_number attribute) (is_user attribute)))

  told : (e : Expr) → Told e
  told = ind-Expr Told (λ x y is. subst (λ z. Told (roll-Expr z)) is (cases y))

-- ---- a value for a column

-- what is given for a column of the kind has its kind
same_kinds : (wanted other : ColumnKind) → kinds.same_kind wanted other ≡ true → wanted ≡ other
same_kinds Number Number is = refl
same_kinds Number Text is = absurd (let e : false ≡ true = is in cc)
same_kinds Number Moment is = absurd (let e : false ≡ true = is in cc)
same_kinds Text Number is = absurd (let e : false ≡ true = is in cc)
same_kinds Text Text is = refl
same_kinds Text Moment is = absurd (let e : false ≡ true = is in cc)
same_kinds Moment Number is = absurd (let e : false ≡ true = is in cc)
same_kinds Moment Text is = absurd (let e : false ≡ true = is in cc)
same_kinds Moment Moment is = refl

null_fits : (wanted : ColumnKind) (content : Cell) → content ≡ cell.Null → IsOfKind wanted content × IsSoundCell content
null_fits wanted content is = subst (λ (c : Cell). IsOfKind wanted c × IsSoundCell c) (sym is) (null_of_kind wanted, tt)

value_fits : (wanted : ColumnKind) (k : ExprKind) (v : Value) → goes_with wanted (Some k) ≡ true → IsValueOf k v → IsOfKind wanted (cell_in v) × IsSoundCell (cell_in v)
value_fits wanted k Overflows goes good = null_fits wanted cell.Null refl
value_fits wanted Any (Is c) goes good = null_fits wanted c good
value_fits wanted Any (Holds t) goes good = absurd good
value_fits wanted Truth v goes good = absurd (let e : false ≡ true = goes in cc)
value_fits wanted (Of other) (Is c) goes good = (subst (λ (k : ColumnKind). IsOfKind k c) (sym (same_kinds wanted other goes)) good.0, good.1)
value_fits wanted (Of other) (Holds t) goes good = absurd good

passes : (b : Bool) → (if b then None else Some WRONG_KIND) ≡ None → b ≡ true
passes true is = refl
passes false is = absurd (let e : Some WRONG_KIND ≡ None = is in cc)

has_kind : (wanted : ColumnKind) (k : Option ExprKind) → goes_with wanted k ≡ true → (of : ExprKind) × (k ≡ Some of) × (goes_with wanted (Some of) ≡ true)
has_kind wanted None goes = absurd (let e : false ≡ true = goes in cc)
has_kind wanted (Some of) goes = (of, refl, goes)

-- what is so where a value is evaluated
pub record Evaluated (ranges : List Range) (rows : List (List Cell)) (session : Session) : Type 0 where
  pub fits : FitsRanges ranges rows
  pub sound : AreSound rows
  pub utf8 : AreUtf8 rows
  pub session_is : IsSoundSession session
  pub named : IsName session.user

pub good_value : GivesSound → (wanted : ColumnKind) (ranges : List Range) (rows : List (List Cell)) (session : Session) (x : Expr) → Evaluated ranges rows session → IsSoundValue x → value_code (Some wanted) ranges x ≡ None
    → IsGood wanted (cell_in (value_at rows session (placed ranges x)))
good_value gives wanted ranges rows session x over literals none =
    let parts = unrefused (name_code ranges x) _ none in
    let (of, is, goes) = has_kind wanted (kind ranges x) (passes (goes_with wanted (kind ranges x)) parts.1) in
    let known = told ranges rows session over.session_is over.named over.utf8 x of is in
    let resolved : IsResolved ranges x (placed ranges x) = record {
      unrefused = ap (λ (code : Option Code). or_code code (kind_code (kind ranges x))) parts.0 ∙ ap kind_code is;
      places = refl;
      kind = is ∙ ap Some (sym known.0);
    } in
    let given = subst (λ (k : ExprKind). IsValueOf k (value_at rows session (placed ranges x))) known.0 (gives ranges rows session x (placed ranges x) resolved over.fits over.sound over.session_is literals.0) in
    let fit = value_fits wanted of (value_at rows session (placed ranges x)) goes given in
    record { of_kind = fit.0; sound = fit.1; utf8 = known.1 literals.1 given }
