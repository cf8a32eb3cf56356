-- What a query gives over sources it gives over what they tell.
use Rattle.std.proofs.Common.{◌≡◌, ◌∙◌, ◌∷◌, [], List, map, sym, ap, subst}
use Rattle.std.specs.Prelude.{Option, None, Some}
use Rattle.au_base.specs.declared.code.Code.{Code}
use Rattle.au_expr.specs.declared.placed.Placed.{Placed}
use Rattle.au_expr.specs.Rows.{Range}
use Rattle.au_expr.specs.Sessions.{Session}
use Rattle.au_query.specs.declared.selected.Selected.{Selected}
use Rattle.au_query.specs.declared.source.Source.{Source}
use Rattle.au_query.specs.Answers as answers
use Rattle.au_query.specs.Answers.{Comes, IsReply, columns_at, is_named, takes_part, trees_of}
use Rattle.au_query.specs.Combos.{combos, rows_of, views}
use Rattle.au_query.specs.Counts as counts
use Rattle.au_query.specs.Counts.{condition_of, count_refusal, passing_rows}
use Rattle.au_query.specs.Queries.{query_of}
use Rattle.au_query.specs.Refusals.{select_refusal}
use Rattle.au_world.specs.Inside.{told_by}
use Rattle.au_world.proofs.Told.{named_told, touched_told, views_told}
use Rattle.au_world.specs.Selecting.{IsCountedFrom, IsDone, IsSelectedFrom, IsTally, Seen, touched_over}
use Rattle.sql_ast.specs.declared.query.Count.{Count}
use Rattle.sql_ast.specs.declared.query.Select.{Select}

-- what is done, refused or not
pub comes : (refusal : Option Code) (Done Other : Selected → Type 0) (selected : Selected) → (Done selected → Other selected) → Comes refusal Done selected → Comes refusal Other selected
comes None Done Other selected turn is = turn is
comes (Some code) Done Other selected turn is = is

done_told : (session : Session) (ranges : List Range) (sources : List Source) (select : Select) (selected : Selected)
    → answers.IsDone session ranges sources select selected → IsDone session ranges (map told_by sources) select selected
done_told session ranges sources select selected done =
    let conditions = (query_of ranges select).conditions in
    let same = ap (combos session conditions) (views_told sources) in
    record {
      code = done.code;
      reply = subst (λ passing. IsReply session ranges passing select selected.reply) same done.reply;
      touched = done.touched ∙ sym (touched_told (combos session conditions (views sources)) sources) ∙ ap (λ passing. touched_over passing (map told_by sources)) same;
      named = done.named ∙ sym (named_told (trees_of (query_of ranges select)) ranges sources);
    }

pub selected_told : (session : Session) (ranges : List Range) (sources : List Source) (seen : List Seen) (select : Select) (selected : Selected)
    → map told_by sources ≡ seen → answers.IsSelected session ranges sources select selected → IsSelectedFrom session ranges seen select selected
unfolding IsSelectedFrom
selected_told session ranges sources seen select selected are is =
    subst (λ all. IsSelectedFrom session ranges all select selected) are
    (subst (λ rows. Comes (select_refusal session ranges rows select) (IsDone session ranges (map told_by sources) select) selected) (views_told sources)
    (comes (select_refusal session ranges (views sources) select) (answers.IsDone session ranges sources select) (IsDone session ranges (map told_by sources) select) selected
    (done_told session ranges sources select selected) is))

tally_told : (session : Session) (range : Range) (source : Source) (conditions : List Placed) (selected : Selected)
    → counts.IsTally session range source conditions selected → IsTally session range (told_by source) conditions selected
tally_told session range source conditions selected tally = record {
  code = tally.code;
  reply = tally.reply;
  touched = tally.touched;
  named = tally.named ∙ sym (named_told conditions (range ∷ []) (source ∷ []));
}

pub counted_told : (session : Session) (range : Range) (source : Source) (seen : Seen) (count : Count) (selected : Selected)
    → told_by source ≡ seen → counts.IsCounted session range source count selected → IsCountedFrom session range seen count selected
unfolding IsCountedFrom
counted_told session range source seen count selected are is =
    subst (λ one. IsCountedFrom session range one count selected) are
    (comes (count_refusal session range (rows_of source) count) (counts.IsTally session range source (condition_of range count)) (IsTally session range (told_by source) (condition_of range count)) selected
    (tally_told session range source (condition_of range count) selected) is)
