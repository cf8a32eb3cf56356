use Rattle.std.proofs.Common.{◌↔◌, List, ap, ◌∙◌, subst}
use Rattle.std.specs.Prelude.{IsTrue}
use Rattle.au_base.specs.BuiltIn.{sys}
use Rattle.au_entries.specs.declared.change.Change.{Change}
use Rattle.au_entries.specs.Changing.{changed_all}
use Rattle.au_entries.specs.Replaying.{AllGoOn, has_user}
use Rattle.au_kept.specs.Building.{kept_in}
use Rattle.au_kept.proofs.Rebuilt.{all_whole, none_goes, not_whole}
use Rattle.au_replay.specs.Reading.{conditions}
use Rattle.au_replay.specs.Touched.{IsWholeWhereTouched}
use Rattle.au_kept.proofs.keeping.Keeping.built.Goals as goal

pub returns-then-not-branch : goal.returns-then-not-branch
returns-then-not-branch c =
    let begun = kept_in c.in_ok-building.building in
    none_goes (c.sights_suffice.ensures.goes conditions) c.args.parts.now c.args.self.now.kept begun c.in_ok-go_on_all.field-0 c.in_ok-building.ensures.kept c.if-not-branch.true
    (subst (λ (changes : List Change). IsTrue c.in_ok-go_on_all.field-0 ↔ AllGoOn conditions c.args.parts.now.image begun changes) c.as_slice-changes.ensures c.in_ok-go_on_all.ensures.goes)

pub returns-then-not-branch-2 : goal.returns-then-not-branch-2
returns-then-not-branch-2 c =
    let begun = kept_in c.in_ok-building.building in
    let made = kept_in c.go_on_all.new.building in
    not_whole (c.sights_suffice.ensures.goes conditions) (c.touched_parts_suffice.ensures conditions) c.args.parts.now c.args.self.now.kept begun made c.in_ok-is_whole.field-0 c.holds_together.ensures.kept c.in_ok-building.ensures.kept
    (c.in_ok-go_on_all.ensures.kept c.if-not-branch.false ∙ ap (λ (changes : List Change). changed_all conditions.tree changes begun) c.as_slice-changes.ensures) c.if-not-branch-2.true
    (subst (λ (changes : List Change). IsTrue c.in_ok-is_whole.field-0 ↔ (IsTrue (has_user made sys) × IsWholeWhereTouched changes made)) c.as_slice-changes.ensures c.in_ok-is_whole.ensures)

pub returns : goal.returns
returns c =
    let begun = kept_in c.in_ok-building.building in
    let made = kept_in c.go_on_all.new.building in
    all_whole (c.sights_suffice.ensures.goes conditions) (c.touched_parts_suffice.ensures conditions) c.args.parts.now c.args.self.now.kept begun c.go_on_all.new.building c.holds_together.ensures.kept c.in_ok-building.ensures.kept
    (c.in_ok-go_on_all.ensures.kept c.if-not-branch.false ∙ ap (λ (changes : List Change). changed_all conditions.tree changes begun) c.as_slice-changes.ensures)
    (c.in_ok-go_on_all.ensures.firm c.if-not-branch.false)
    (subst (λ (changes : List Change). AllGoOn conditions c.args.parts.now.image begun changes) c.as_slice-changes.ensures (c.in_ok-go_on_all.ensures.goes.0 c.if-not-branch.false))
    (subst (λ (changes : List Change). IsTrue (has_user made sys) × IsWholeWhereTouched changes made) c.as_slice-changes.ensures (c.in_ok-is_whole.ensures.0 c.if-not-branch-2.false))
