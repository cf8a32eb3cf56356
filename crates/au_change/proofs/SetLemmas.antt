-- What an UPDATE sets.
use Rattle.std.proofs.Common.{◌≡◌, ◌∙◌, ◌++◌, ◌<◌, ◌+◌, ℕ, zero, suc, Bool, true, List, [], ◌∷◌, length, map, drop, take, get_or, add-one, append_assoc, refl, sym, ap, ap₂, subst}
use Rattle.std.specs.Prelude.{Option, None, Some, Ok, if◌then◌else◌}
use Rattle.std.specs.Borrow.{Bor}
use Rattle.std.specs.List.{AllZip, slice_get}
use Rattle.std.proofs.lemmas.List.{drop_more, take_more}
use Rattle.au_base.specs.declared.cell.Cell.{Cell}
use Rattle.au_base.specs.declared.code.Code.{Code}
use Rattle.au_base.specs.declared.numbers.RowNo.{RowNo}
use Rattle.au_base.specs.declared.table.Column.{Column}
use Rattle.au_base.specs.declared.table.ColumnKind.{ColumnKind}
use Rattle.au_base.specs.Codes.{WRONG_KIND}
use Rattle.au_change.specs.declared.settings.Setting.{Setting}
use Rattle.au_change.specs.Inside.{AreSettings, IsSetting, assignment_kind, cell_from, row_from}
use Rattle.au_expr.specs.declared.placed.Placed.{Placed}
use Rattle.au_expr.specs.Kinds.{kind, kind_at}
use Rattle.au_expr.specs.Names.{first, name_code, or_code}
use Rattle.au_expr.specs.Resolving.{IsResolved, ResolvesAsValue, is_value, kind_code, value_code}
use Rattle.au_expr.specs.Rows.{Range}
use Rattle.au_modify.specs.Columns.{column_called}
use Rattle.au_modify.specs.Targets.{kind_code_for}
use Rattle.au_query.specs.Combos.{Line, lent, lines}
use Rattle.au_txn.specs.declared.change.RowChange.{RowChange}
use Rattle.sql_ast.specs.declared.expression.Expr.{Expr}
use Rattle.sql_ast.specs.declared.rows.Assignment.{Assignment}

pub first_none : (a b : Option Code) → or_code a b ≡ None → a ≡ None
first_none None b is = refl
first_none (Some code) b is = is

pub later_none : (a b : Option Code) → or_code a b ≡ None → b ≡ None
later_none None b is = is
later_none (Some code) b is = absurd (let e : Some code ≡ None = is in cc)

-- ---- one setting

value_none : (wanted : Option ColumnKind) (ranges : List Range) (x : Expr) (tree : Placed) → IsResolved ranges x tree → is_value wanted (Some (kind_at tree)) ≡ true → value_code wanted ranges x ≡ None
value_none wanted ranges x tree resolved valued =
    ap₂ (λ (name : Option Code) (b : Bool). or_code name (if b then None else Some WRONG_KIND))
    (first_none (name_code ranges x) (kind_code (kind ranges x)) resolved.unrefused)
    (ap (is_value wanted) resolved.kind ∙ valued)

kind_is : (range : Range) (assignment : Assignment) (column : Column) → column_called range.1 assignment.column ≡ Some column
    → assignment_kind range assignment ≡ value_code (Some column.kind) (range ∷ []) assignment.value
kind_is range assignment column called = ap (kind_code_for (range ∷ []) assignment.value) called

pub setting_is : (range : Range) (assignment : Assignment) (column : Bor Column) (tree : Placed) (ranges : List Range) → ranges ≡ range ∷ []
    → column_called range.1 assignment.column ≡ Some column.now → ResolvesAsValue (Some column.now.kind) ranges assignment.value (Ok tree)
    → IsSetting range assignment (record { column = column; value = tree }) × (assignment_kind range assignment ≡ None)
setting_is range assignment column tree ranges same called resolves =
    let there = subst (λ (rs : List Range). ResolvesAsValue (Some column.now.kind) rs assignment.value (Ok tree)) same resolves in (
      record { column = called; value = there.0.places; valued = there.2 },
      kind_is range assignment column.now called ∙ value_none (Some column.now.kind) (range ∷ []) assignment.value tree there.0 there.1,
    )

pub setting_refused : (range : Range) (assignment : Assignment) (column : Column) (code : Code) (ranges : List Range) → ranges ≡ range ∷ []
    → column_called range.1 assignment.column ≡ Some column → value_code (Some column.kind) ranges assignment.value ≡ Some code
    → assignment_kind range assignment ≡ Some code
setting_refused range assignment column code ranges same called refused =
    kind_is range assignment column called ∙ (subst (λ (rs : List Range). value_code (Some column.kind) rs assignment.value ≡ Some code) same refused)

-- ---- codes one by one

pub next_first : {X : Type 0} (f : X → Option Code) (xs : List X) (i : ℕ) (d : X) (all : Option Code) → i < length xs → f (get_or xs i d) ≡ None
    → first (map f (drop i xs)) ≡ all → first (map f (drop (i + 1) xs)) ≡ all
next_first f xs i d all within none so_far =
    sym (ap (λ ys. first (map f ys)) (drop_more xs i d within) ∙ ap (λ (code : Option Code). or_code code (first (map f (drop (i + 1) xs)))) none) ∙ so_far

pub zip_push : {X Y : Type 0} (R : X → Y → Type 0) (xs : List X) (ys : List Y) (x : X) (y : Y) → AllZip R xs ys → R x y → AllZip R (xs ++ x ∷ []) (ys ++ y ∷ [])
zip_push R [] [] x y all is = (is, tt)
zip_push R [] (b ∷ ys) x y all is = absurd all
zip_push R (a ∷ xs) [] x y all is = absurd all
zip_push R (a ∷ xs) (b ∷ ys) x y all is = (all.0, zip_push R xs ys x y all.1 is)

pub next_setting : (range : Range) (assignments : List Assignment) (i : ℕ) (d : Assignment) (settings news : List Setting) (setting : Setting) → i < length assignments
    → AreSettings range (take i assignments) settings → IsSetting range (get_or assignments i d) setting → news ≡ settings ++ setting ∷ []
    → AreSettings range (take (i + 1) assignments) news
next_setting range assignments i d settings news setting within so_far is made =
    subst (λ (ss : List Setting). AreSettings range (take (i + 1) assignments) ss) (sym made)
    (subst (λ (front : List Assignment). AreSettings range front (settings ++ setting ∷ [])) (sym (take_more assignments i d within))
    (zip_push (IsSetting range) (take i assignments) settings (get_or assignments i d) setting so_far is))

-- ---- what stands at a place

here_at : (cells : List Cell) (at : ℕ) (content : Cell) → slice_get cells at ≡ Some content → drop at cells ≡ content ∷ drop (suc at) cells
here_at [] at content found = absurd (let e : None ≡ Some content = found in cc)
here_at (cell ∷ cells) zero content found = ap (λ (c : Cell). c ∷ cells) (let e : Some cell ≡ Some content = found in let s : cell ≡ content = cc in s)
here_at (cell ∷ cells) (suc at) content found = here_at cells at content found

pub drop_here : (cells : List Cell) (at : ℕ) (content : Cell) → slice_get cells at ≡ Some content → drop at cells ≡ content ∷ drop (at + 1) cells
drop_here cells at content found = here_at cells at content found ∙ ap (λ (n : ℕ). content ∷ drop n cells) (sym (add-one at))

pub drop_at_end : (cells : List Cell) (at : ℕ) → slice_get cells at ≡ None → drop at cells ≡ []
drop_at_end [] zero none = refl
drop_at_end [] (suc at) none = refl
drop_at_end (cell ∷ cells) zero none = absurd (let e : Some cell ≡ None = none in cc)
drop_at_end (cell ∷ cells) (suc at) none = drop_at_end cells at none

beyond_at : (cells : List Cell) (at : ℕ) → slice_get cells at ≡ None → drop (suc at) cells ≡ []
beyond_at [] at none = refl
beyond_at (cell ∷ cells) zero none = absurd (let e : Some cell ≡ None = none in cc)
beyond_at (cell ∷ cells) (suc at) none = beyond_at cells at none

pub drop_beyond : (cells : List Cell) (at : ℕ) → slice_get cells at ≡ None → drop (at + 1) cells ≡ []
drop_beyond cells at none = ap (λ (n : ℕ). drop n cells) (add-one at) ∙ beyond_at cells at none

none_from : (given : List Cell) (sources : List (Option ℕ)) → row_from given sources [] ≡ []
none_from given [] = refl
none_from given (source ∷ sources) = refl

pub mapped_push : (g : Line → RowChange) (rows : List (RowNo × Bor (List Cell))) (row : RowNo × Bor (List Cell))
    → map g (lines (rows ++ row ∷ [])) ≡ map g (lines rows) ++ g (lent row) ∷ []
mapped_push g [] row = refl
mapped_push g (r ∷ rows) row = ap (λ (cs : List RowChange). g (lent r) ∷ cs) (mapped_push g rows row)

-- ---- the row that is set

pub set_next : (given : List Cell) (sources : List (Option ℕ)) (cells row news all : List Cell) (at : ℕ) (d : Option ℕ) (content made : Cell) → at < length sources
    → slice_get cells at ≡ Some content → made ≡ cell_from given content (get_or sources at d) → news ≡ row ++ made ∷ []
    → row ++ row_from given (drop at sources) (drop at cells) ≡ all → news ++ row_from given (drop (at + 1) sources) (drop (at + 1) cells) ≡ all
set_next given sources cells row news all at d content made within found made_is pushed so_far =
    ap (λ (r : List Cell). r ++ row_from given (drop (at + 1) sources) (drop (at + 1) cells)) (pushed ∙ ap (λ (c : Cell). row ++ c ∷ []) made_is)
    ∙ append_assoc row (cell_from given content (get_or sources at d) ∷ []) (row_from given (drop (at + 1) sources) (drop (at + 1) cells))
    ∙ sym (ap (λ (r : List Cell). row ++ r) (ap₂ (λ (ss : List (Option ℕ)) (cs : List Cell). row_from given ss cs) (drop_more sources at d within) (drop_here cells at content found)))
    ∙ so_far

pub set_past : (given : List Cell) (sources : List (Option ℕ)) (cells row news all : List Cell) (at : ℕ) → slice_get cells at ≡ None → news ≡ row
    → row ++ row_from given (drop at sources) (drop at cells) ≡ all → news ++ row_from given (drop (at + 1) sources) (drop (at + 1) cells) ≡ all
set_past given sources cells row news all at none same so_far =
    ap₂ (λ (r cs : List Cell). r ++ row_from given (drop (at + 1) sources) cs) same (drop_beyond cells at none)
    ∙ ap (λ (r : List Cell). row ++ r) (none_from given (drop (at + 1) sources) ∙ sym (none_from given (drop at sources)))
    ∙ sym (ap (λ (cs : List Cell). row ++ row_from given (drop at sources) cs) (drop_at_end cells at none))
    ∙ so_far

-- ---- changes one by one

pub next_change : (g : Line → RowChange) (rows : List (RowNo × Bor (List Cell))) (i : ℕ) (d : RowNo × Bor (List Cell)) (done news : List RowChange) (change : RowChange) → i < length rows
    → done ≡ map g (lines (take i rows)) → change ≡ g (lent (get_or rows i d)) → news ≡ done ++ change ∷ [] → news ≡ map g (lines (take (i + 1) rows))
next_change g rows i d done news change within so_far is made =
    made ∙ ap₂ (λ (cs : List RowChange) (c : RowChange). cs ++ c ∷ []) so_far is
    ∙ sym (ap (λ rs. map g (lines rs)) (take_more rows i d within) ∙ mapped_push g (take i rows) (get_or rows i d))

pub next_line : (f : Line → Option Code) (rows : List (RowNo × Bor (List Cell))) (i : ℕ) (d : RowNo × Bor (List Cell)) (all : Option Code) → i < length rows
    → f (lent (get_or rows i d)) ≡ None → first (map f (lines (drop i rows))) ≡ all → first (map f (lines (drop (i + 1) rows))) ≡ all
next_line f rows i d all within none so_far =
    sym (ap (λ rs. first (map f (lines rs))) (drop_more rows i d within) ∙ ap (λ (code : Option Code). or_code code (first (map f (lines (drop (i + 1) rows))))) none) ∙ so_far
