use Rattle.au_kept.proofs.Counted.{image_few}
use Rattle.au_kept.proofs.Images.{image_goes, image_leads, image_spellable}
use Rattle.au_kept.proofs.laws.images_lead_back.Goals as goal

pub returns-clause-spellable : goal.returns-clause-spellable
returns-clause-spellable c = image_spellable

pub returns-clause-few : goal.returns-clause-few
returns-clause-few c = image_few

pub returns-clause-back : goal.returns-clause-back
returns-clause-back c = image_leads (record { goes = c.images_come_back.ensures.goes; back = c.images_come_back.ensures.back })

pub returns-clause-goes : goal.returns-clause-goes
returns-clause-goes c = image_goes (record { goes = c.images_come_back.ensures.goes; back = c.images_come_back.ensures.back })
