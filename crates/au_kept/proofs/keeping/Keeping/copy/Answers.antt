use Rattle.std.proofs.Common.{◌∙◌, List, sym, subst}
use Rattle.std.specs.List.{AllByRecursion}
use Rattle.au_entries.specs.declared.change.Change.{Change}
use Rattle.au_entries.specs.Imaging.{image_changes}
use Rattle.au_kept.specs.Building.{kept_in}
use Rattle.au_kept.proofs.Rebuilt.{copied_is}
use Rattle.au_kept.proofs.Shortness.{all_short}
use Rattle.au_replay.specs.Reading.{HasShortText, conditions}
use Rattle.au_kept.proofs.keeping.Keeping.copy.Goals as goal

pub go_on_all-requires-clause-short : goal.go_on_all-requires-clause-short
go_on_all-requires-clause-short c =
    subst (λ (changes : List Change). AllByRecursion HasShortText changes) (sym (c.as_slice.ensures ∙ c.in_ok-changes.ensures))
    (all_short (image_changes c.args.self.now.kept) c.holds_together.ensures.kept.spelled.entries)

pub returns-clause-kept : goal.returns-clause-kept
returns-clause-kept c =
    let kept = c.args.self.now.kept in
    let lawful = c.holds_together.ensures.kept.lawful in
    copied_is kept (kept_in c.in_ok-building.building) (kept_in c.go_on_all.new.building) c.as_slice.result.now c.in_ok-go_on_all.field-0 c.in_ok-building.ensures.1 (c.as_slice.ensures ∙ c.in_ok-changes.ensures)
    (c.images_come_back.ensures.goes conditions kept lawful) (c.images_come_back.ensures.back conditions kept lawful) c.in_ok-go_on_all.ensures.goes c.in_ok-go_on_all.ensures.kept
