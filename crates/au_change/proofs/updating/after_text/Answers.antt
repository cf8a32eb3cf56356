use Rattle.au_query.specs.Combos.{lines}
use Rattle.au_change.proofs.Chosen.{chosen_comes, refused_rows}
use Rattle.au_change.proofs.updating.after_text.Goals as goal

pub returns-in-Ok : goal.returns-in-Ok
returns-in-Ok c = chosen_comes c.args.asked.now c.requires.asked (lines c.in-Ok.rows.items) c.after_choice.result c.requires.text (rw c.in-Ok.is at c.in_ok-rows.ensures.chosen) c.after_choice.ensures

pub returns-in-Err : goal.returns-in-Err
returns-in-Err c = refused_rows c.args.asked.now c.requires.asked c.in-Err.code c.refused.result c.requires.text (rw c.in-Err.is at c.in_ok-rows.ensures.chosen) c.refused.ensures
