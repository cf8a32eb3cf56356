use Rattle.std.proofs.Common.{arith}
use Rattle.au_replay.specs.Reading.{conditions}
use Rattle.au_opening.specs.Opening.{opening}
use Rattle.au_opening.proofs.Standing.{few_changes, opening_kept, opening_sys}
use Rattle.au_opening.proofs.laws.opening_is_kept.Goals as goal

pub returns-clause-kept : goal.returns-clause-kept
returns-clause-kept c password = opening_kept conditions password

pub returns-clause-sys : goal.returns-clause-sys
returns-clause-sys c password = opening_sys password

pub returns-clause-spellable : goal.returns-clause-spellable
returns-clause-spellable c password =
    c.images_lead_back.ensures.spellable conditions (opening password) (opening_kept conditions password)
    (let few = few_changes password in omega (arith, few)) (omega arith)
