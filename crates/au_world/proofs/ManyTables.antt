-- A FROM of more than 8 tables is refused first.
use Rattle.std.proofs.Common.{◌≡◌, ◌<◌, ◌∷◌, [], ℕ, true, List, length, nat_lt, ap, sym, subst, arith}
use Rattle.std.specs.Prelude.{Some}
use Rattle.au_base.specs.Codes.{TOO_MANY_COMBINATIONS}
use Rattle.au_base.specs.Limits.{FROM_TABLES}
use Rattle.au_expr.specs.Names.{or_code, first}
use Rattle.au_expr.specs.Rows.{Range}
use Rattle.au_expr.specs.Sessions.{Session}
use Rattle.au_query.specs.declared.selected.Selected.{Selected}
use Rattle.au_query.specs.Answers.{Comes, refused}
use Rattle.au_query.specs.Queries.{query_of}
use Rattle.au_query.specs.Refusals.{kind_refusal, name_refusal, overflow_refusal, select_refusal, too_many_combinations, too_many_rows, too_many_tables, where_broken}
use Rattle.sql_ast.specs.declared.query.Select.{Select}
use Rattle.au_world.specs.Selecting.{IsDone, IsSelectedFrom, Seen, rows_of_seen}

more : (m n : ℕ) → m < n → nat_lt m n ≡ true
more m n less = grind (arith, less)

pub many_refused : (session : Session) (ranges : List Range) (seen : List Seen) (select : Select) (selected : Selected) → FROM_TABLES < length ranges
    → selected ≡ refused TOO_MANY_COMBINATIONS → IsSelectedFrom session ranges seen select selected
unfolding IsSelectedFrom
many_refused session ranges seen select selected many is =
    let rows = rows_of_seen seen in
    let later = first (name_refusal ranges select ∷ kind_refusal ranges select ∷ too_many_combinations rows ∷ overflow_refusal session (query_of ranges select) rows ∷ too_many_rows session (query_of ranges select) rows ∷ []) in
    let first_is : select_refusal session ranges rows select ≡ Some TOO_MANY_COMBINATIONS = ap (λ b. or_code (where_broken b TOO_MANY_COMBINATIONS) later) (more FROM_TABLES (length ranges) many) in
    subst (λ refusal. Comes refusal (IsDone session ranges seen select) selected) (sym first_is) is
