use Rattle.au_writing.proofs.Planned.{PlanLaws, plans_written}
use Rattle.au_writing.proofs.Seen.{RowLaws}
use Rattle.au_writing.proofs.laws.plans_can_be_written.Goals as goal

pub returns : goal.returns
returns c =
    let rows : RowLaws = record {
      untouched = c.laid_rows_answer.ensures.untouched;
      once = c.laid_rows_answer.ensures.once;
      behind = c.laid_rows_answer.ensures.behind;
      old_once = c.laid_rows_answer.ensures.old_once;
      laid = c.laid_rows_answer.ensures.laid;
      stands = c.rows_stand_by_tables.ensures.there;
      viewed = c.rows_stand_by_tables.ensures.viewed;
      ordered = c.rows_are_what_they_answer.ensures.ordered;
      forth = c.rows_are_triples.ensures.forth;
      listed = c.rows_are_triples.ensures.ordered;
      used = c.numbers_stay_few.ensures.used;
    } in
    let laws : PlanLaws = record { rows = rows; stays = c.keys_differ_by_points.ensures.changed; more = c.numbers_stay_few.ensures.one_more; gives = c.values_are_sound.ensures } in
    plans_written laws
