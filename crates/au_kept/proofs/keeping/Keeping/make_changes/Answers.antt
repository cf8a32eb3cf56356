use Rattle.std.proofs.Common.{◌∙◌, List, refl, ap, subst, sym}
use Rattle.std.specs.List.{AllByRecursion}
use Rattle.au_entries.specs.declared.kept.Kept.{Kept}
use Rattle.au_entries.specs.declared.trail_record.Record.{Record}
use Rattle.au_entries.specs.Frames.{after_parts}
use Rattle.au_replay.specs.Reading.{conditions}
use Rattle.au_kept.proofs.InPlace.{few_goes, few_grants, few_ready, few_refused, few_rowless}
use Rattle.rec_codec.specs.Records.{trail_record}
use Rattle.au_kept.proofs.keeping.Keeping.make_changes.Goals as goal

pub returns-then-not-may_follow-clause-goes : goal.returns-then-not-may_follow-clause-goes
returns-then-not-may_follow-clause-goes c = few_refused c.args.self.now.kept c.args.stamp c.args.changes.now c.may_follow.result c.requires.few c.if-not-may_follow.true c.may_follow.ensures

pub stage-requires-clause-rowless : goal.stage-requires-clause-rowless
stage-requires-clause-rowless c = few_rowless c.args.self.now.kept c.args.changes.now c.requires.few

pub stage-requires-clause-few : goal.stage-requires-clause-few
stage-requires-clause-few c = few_grants c.changes_add_one_grant_at_most.ensures.new conditions.tree c.args.self.now.kept c.args.changes.now c.requires.few

pub settle-requires-clause-can : goal.settle-requires-clause-can
settle-requires-clause-can c = (
  c.args.changes.now,
  c.in_ok-staged.ensures.staged,
  few_ready c.changes_add_one_grant_at_most.ensures.new c.touched_parts_suffice.ensures c.args.self.now c.stage.new.self c.args.changes.now c.into_vec.result.items c.args.stamp
      c.in_ok-staged.ensures.kept c.in_ok-staged.ensures.logs c.holds_together.ensures.kept c.requires.few (c.in_ok-takes.ensures.0 c.if-not-branch.false) c.requires.moment c.requires.spelled
      (subst (λ (told : List Record). AllByRecursion trail_record.IsSpellable told) (sym c.into_vec.ensures) c.requires.told) c.requires.alone,
)

pub returns-clause-goes : goal.returns-clause-goes
returns-clause-goes c =
    let may = c.may_follow.ensures.0 c.if-not-may_follow.false in
    let sound = c.holds_together.ensures.kept in (
      λ holds. few_goes c.changes_add_one_grant_at_most.ensures.new c.touched_parts_suffice.ensures c.args.self.now.kept c.args.stamp c.args.changes.now sound.lawful sound.whole c.requires.few may.0 may.1
          (c.in_ok-takes.ensures.0 c.if-not-branch.false),
      λ goes. refl,
    )

pub returns-clause-after : goal.returns-clause-after
returns-clause-after c = λ goes.
    c.settle.ensures.kept c.args.changes.now c.args.changes.now c.in_ok-staged.ensures.staged refl
    ∙ ap (λ (told : List Record). after_parts conditions.tree c.args.stamp c.args.purge c.args.changes.now told c.stage.new.self.kept) c.into_vec.ensures
    ∙ ap (λ (k : Kept). after_parts conditions.tree c.args.stamp c.args.purge c.args.changes.now c.args.records k) c.in_ok-staged.ensures.kept
