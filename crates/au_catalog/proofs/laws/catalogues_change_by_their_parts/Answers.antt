use Rattle.au_catalog.proofs.Parts.{by_parts}
use Rattle.au_catalog.proofs.laws.catalogues_change_by_their_parts.Goals as goal

pub returns : goal.returns
returns c = by_parts
