use Rattle.au_entries.specs.Changing.{changed_all}
use Rattle.au_replay.proofs.WholeLaws.{touched_from, touched_to}
use Rattle.au_replay.proofs.laws.touched_parts_suffice.Goals as goal

pub returns : goal.returns
returns c conditions image kept changes lawful whole go = (
  λ after. touched_from c.changes_keep_laws.ensures.one conditions image changes (changed_all conditions.tree changes kept) after,
  λ touched. touched_to c.changes_keep_laws.ensures.one conditions image changes kept lawful whole go touched,
)
