-- A reply has no float.
use Rattle.std.proofs.Common.{◌≡◌, ◌||◌, ℤ, pos, negsuc, List, [], ◌∷◌, false, map, refl, ap₂, Bool}
use Rattle.au_base.specs.declared.cell.Cell.{Cell}
use Rattle.au_base.specs.declared.cell.Cell.TheVariants as cell
use Rattle.au_base.specs.declared.reply.Reply.{Reply}
use Rattle.serde_json.specs.Data.{Data, number, string}
use Rattle.serde_json.specs.Find.{of_integer}
use Rattle.serde_json.specs.View.{items_of}
use Rattle.serde_json.specs.Written.{has_float, items_have_float}
use Rattle.au_http.specs.Replies.{cell_data, reply_data, row_data}

-- items of which none has a float
none_of : {T : Type 0} (f : T → Data) → ((x : T) → has_float (f x) ≡ false) → (xs : List T) → items_have_float (items_of (map f xs)) ≡ false
none_of f none [] = refl
none_of f none (x ∷ xs) = ap₂ (λ (a b : Bool). a || b) (none x) (none_of f none xs)

integer : (z : ℤ) → has_float (number (of_integer z)) ≡ false
integer (pos n) = refl
integer (negsuc n) = refl

in_cell : (c : Cell) → has_float (cell_data c) ≡ false
in_cell cell.Null = refl
in_cell (cell.Num z) = integer z
in_cell (cell.Text t) = refl
in_cell (cell.Moment m) = refl

pub in_reply : (r : Reply) → has_float (reply_data r) ≡ false
in_reply r = ap₂ (λ (a b : Bool). a || (false || (b || false)))
    (none_of string (λ _. refl) r.columns)
    (none_of row_data (none_of cell_data in_cell) r.rows)
