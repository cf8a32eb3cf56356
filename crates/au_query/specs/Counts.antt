-- What SELECT COUNT(*) answers (SQL Language Reference, "COUNT").
use Rattle.std.specs.Prelude.{◌≡◌, ℕ, pos, nat_lt, List, [], ◌∷◌, map, length, filter, codes, Option}
use Rattle.std.specs.Option.{option_to_list}
use Rattle.au_base.specs.declared.cell.Cell.TheVariants as cell
use Rattle.au_base.specs.declared.code.Code.{Code}
use Rattle.au_base.specs.declared.numbers.RowNo.{RowNo}
use Rattle.au_base.specs.declared.reply.Reply.{Reply}
use Rattle.au_base.specs.Codes.{DONE, OVERFLOW, TOO_MANY_COMBINATIONS}
use Rattle.au_base.specs.Limits.{COMBINATIONS}
use Rattle.sql_ast.specs.declared.query.Count.{Count}
use Rattle.au_expr.specs.declared.placed.Placed.{Placed}
use Rattle.au_expr.specs.Names.{first, name_code, or_code}
use Rattle.au_expr.specs.Resolving.{condition_code, placed}
use Rattle.au_expr.specs.Rows.{Range}
use Rattle.au_expr.specs.Sessions.{Session}
use Rattle.au_query.specs.declared.selected.Selected.{Selected}
use Rattle.au_query.specs.declared.source.Source.{Source}
use Rattle.au_query.specs.Answers.{Comes, named_by}
use Rattle.au_query.specs.Combos.{Line, overflows, passes, rows_of}
use Rattle.au_query.specs.Refusals.{code_if_there, where_broken}

-- WHERE over the one range
abbrev pub condition_of : Range → Count → List Placed
condition_of range count = map (placed (range ∷ [])) (option_to_list count.condition)

-- over 10,000,000 rows, and an overflow over any of them
abbrev pub tally_refusal : Session → List Placed → List Line → Option Code
tally_refusal session conditions rows =
    first (
    where_broken (nat_lt COMBINATIONS (length rows)) TOO_MANY_COMBINATIONS
    ∷ where_broken (overflows session conditions (rows ∷ [])) OVERFLOW
    ∷ []
    )

-- 904, and else 932 of WHERE
abbrev pub where_refusal : List Range → Count → Option Code
where_refusal ranges count = or_code (code_if_there (name_code ranges) count.condition) (code_if_there (condition_code ranges) count.condition)

-- the first rule that a COUNT breaks, whose table is there and allowed
abbrev pub count_refusal : Session → Range → List Line → Count → Option Code
count_refusal session range rows count = or_code (where_refusal (range ∷ []) count) (tally_refusal session (condition_of range count) rows)

-- the rows over which WHERE is Yes
abbrev pub passing_rows : Session → List Placed → List Line → List Line
passing_rows session conditions rows = filter (λ (line : Line). passes session conditions (line ∷ [])) rows

abbrev pub numbers_of : List Line → List RowNo
numbers_of rows = map (λ (line : Line). line.0) rows

-- one row with this number
abbrev pub tally_reply : ℕ → Reply
tally_reply n = record { code = DONE; columns = codes "COUNT(*)" ∷ []; count = 1; rows = (cell.Num (pos n) ∷ []) ∷ [] }

-- the number of the rows over which WHERE is Yes; these rows, which take part; and the columns that WHERE names
pub record IsTally (session : Session) (range : Range) (source : Source) (conditions : List Placed) (selected : Selected) : Type 0 where
  pub code : selected.code ≡ DONE
  pub reply : selected.reply ≡ tally_reply (length (passing_rows session conditions (rows_of source)))
  pub touched : selected.touched ≡ (source.table, numbers_of (passing_rows session conditions (rows_of source))) ∷ []
  pub named : selected.named ≡ named_by conditions (range ∷ []) (source ∷ [])

-- what a COUNT gives over its table
abbrev pub IsCounted : Session → Range → Source → Count → Selected → Type 0
IsCounted session range source count selected =
    Comes (count_refusal session range (rows_of source) count) (IsTally session range source (condition_of range count)) selected
