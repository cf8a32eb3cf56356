use Rattle.au_opening.specs.Opening.{opening}
use Rattle.au_replay.specs.Reading.{conditions}
use Rattle.au_step.proofs.kept_laws.images_come_back.Goals as goal

pub returns-clause-kept : goal.returns-clause-kept
returns-clause-kept c = λ kept lawful ends. (c.images_lead_back.ensures.goes conditions kept lawful ends, c.images_lead_back.ensures.back conditions kept lawful)

pub returns-clause-opening : goal.returns-clause-opening
returns-clause-opening c = λ password.
    let kept = opening password in
    let lawful = c.opening_is_kept.ensures.kept password in
    (c.images_lead_back.ensures.goes conditions kept lawful (c.opening_is_kept.ensures.sys password), c.images_lead_back.ensures.back conditions kept lawful)
