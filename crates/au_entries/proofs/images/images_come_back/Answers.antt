use Rattle.au_entries.proofs.Imaged.{image_back, image_goes}
use Rattle.au_entries.proofs.images.images_come_back.Goals as goal

pub returns-clause-goes : goal.returns-clause-goes
returns-clause-goes c = image_goes (record {
  system = c.grants_in_order_come_back.ensures.system;
  role = c.grants_in_order_come_back.ensures.role;
  object = c.grants_in_order_come_back.ensures.object;
})

pub returns-clause-back : goal.returns-clause-back
returns-clause-back c = image_back (record {
  system = c.grants_in_order_come_back.ensures.system;
  role = c.grants_in_order_come_back.ensures.role;
  object = c.grants_in_order_come_back.ensures.object;
})
