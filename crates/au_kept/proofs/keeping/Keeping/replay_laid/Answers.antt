use Rattle.std.proofs.Common.{◌∙◌, Bool, List, false, ap, subst}
use Rattle.std.specs.Prelude.{◌↔◌, IsTrue}
use Rattle.au_entries.specs.declared.change.Change.{Change}
use Rattle.au_entries.specs.declared.kept.Kept.{Kept}
use Rattle.au_entries.specs.Changing.{changed_all}
use Rattle.au_entries.specs.Frames.{PartsGoOn}
use Rattle.au_kept.proofs.Replayed.{IsGood, parts_after, parts_refused, parts_told}
use Rattle.au_replay.specs.Reading.{conditions}
use Rattle.au_kept.proofs.keeping.Keeping.replay_laid.Goals as goal

pub returns-then-not-may_follow-clause-goes : goal.returns-then-not-may_follow-clause-goes
returns-then-not-may_follow-clause-goes c =
    parts_refused c.args.self.now.kept c.args.stamp c.args.changes c.may_follow.result c.requires.rows c.if-not-may_follow.true c.may_follow.ensures

pub returns-clause-goes : goal.returns-clause-goes
returns-clause-goes c =
    let may = c.may_follow.ensures.0 c.if-not-may_follow.false in
    subst (λ (b : Bool). IsTrue b ↔ PartsGoOn conditions false c.args.self.now.kept c.args.stamp c.args.changes) c.if-not-branch.false
    (parts_told c.args.self.now.kept c.args.stamp c.args.changes c.in_ok-lay_rows.field-0 c.requires.rows may.0 may.1
    (subst (λ (changes : List Change). IsTrue c.in_ok-lay_rows.field-0 ↔ IsGood c.args.self.now.kept changes) c.as_slice.ensures
    (subst (λ (k : Kept). IsTrue c.in_ok-lay_rows.field-0 ↔ IsGood k c.as_slice.result.now) c.in_ok-make_room.ensures.kept c.in_ok-lay_rows.ensures.goes)))

pub returns-clause-after : goal.returns-clause-after
returns-clause-after c = λ goes.
    parts_after c.args.self.now.kept c.lay_rows.new.self.kept _ c.args.stamp c.args.purge c.args.changes c.args.records
    (c.in_ok-lay_rows.ensures.after c.if-not-branch.false ∙ ap (λ (changes : List Change). changed_all conditions.tree changes c.make_room.new.self.kept) c.as_slice.ensures
    ∙ ap (changed_all conditions.tree c.args.changes) c.in_ok-make_room.ensures.kept)
    c.end_frame.ensures.kept
