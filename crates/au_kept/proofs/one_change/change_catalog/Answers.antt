use Rattle.std.proofs.Common.{◌∙◌, List, ap, ap₂, map}
use Rattle.au_catalog.specs.Settling.{catalog_after_all, condition_texts}
use Rattle.au_catalog.specs.Staging.{IsStaged}
use Rattle.au_entries.specs.declared.change.Change.{Change}
use Rattle.au_replay.specs.Reading.{conditions}
use Rattle.au_kept.proofs.one_change.change_catalog.Goals as goal

pub returns : goal.returns
returns c =
    let given = c.from_ref.result.now in
    let staged : IsStaged conditions.tree given c.in_ok-staged.staged =
    c.in_ok-staged.ensures.staged conditions.tree (ap (λ (changes : List Change). map conditions.tree (condition_texts changes)) c.from_ref.ensures.value ∙ c.in_ok-trees.ensures) in
    c.settle.ensures.changes conditions.tree given staged ∙ ap₂ (catalog_after_all conditions.tree) c.from_ref.ensures.value c.in_ok-staged.ensures.unchanged
