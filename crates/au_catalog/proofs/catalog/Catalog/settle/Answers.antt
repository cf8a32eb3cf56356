use Rattle.std.proofs.Common.{◌∙◌, List, ap}
use Rattle.au_catalog.specs.declared.edit.Edit.{Edit}
use Rattle.au_catalog.specs.Staging.{edited_all}
use Rattle.au_catalog.proofs.Edited.{all_make}
use Rattle.au_catalog.proofs.catalog.Catalog.settle.Goals as goal

pub returns-clause-changes : goal.returns-clause-changes
returns-clause-changes c = λ tree changes staged.
    c.make_on.ensures.after ∙ ap (λ (edits : List Edit). edited_all edits c.args.self.now) staged ∙ all_make tree changes c.args.self.now
