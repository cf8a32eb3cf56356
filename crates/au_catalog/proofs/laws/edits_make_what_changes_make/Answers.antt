use Rattle.au_catalog.proofs.Edited.{all_make}
use Rattle.au_catalog.proofs.laws.edits_make_what_changes_make.Goals as goal

pub returns : goal.returns
returns c = all_make
