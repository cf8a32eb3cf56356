use Rattle.std.proofs.Common.{◌∙◌, subst, sym}
use Rattle.au_kept.specs.Sound.{IsKept}
use Rattle.au_kept.specs.descent.Laying.{kept_seen}
use Rattle.au_kept.proofs.Rowed.{changed_kept}
use Rattle.au_replay.specs.Reading.{conditions}
use Rattle.au_kept.proofs.laying_rows.replay_on.Goals as goal

pub keep-requires-clause-kept : goal.keep-requires-clause-kept
keep-requires-clause-kept c =
    let good = c.in-Ok-true.ensures.goes.0 c.in-Ok-true.field-0-test in
    subst (IsKept conditions) (sym (c.in-Ok-true.ensures.seen c.in-Ok-true.field-0-test))
    (changed_kept c.changes_keep_laws.ensures.all conditions c.args.changes.now (kept_seen c.args.catalog.now c.args.grants.now c.args.desk.now c.args.instance) c.requires.spelled c.requires.kept good.0 good.1)

pub returns-in-Ok-true-clause-kept : goal.returns-in-Ok-true-clause-kept
returns-in-Ok-true-clause-kept c =
    let good = c.in-Ok-true.ensures.goes.0 c.in-Ok-true.field-0-test in
    subst (IsKept conditions) (sym (c.keep.ensures.kept ∙ c.in-Ok-true.ensures.seen c.in-Ok-true.field-0-test))
    (changed_kept c.changes_keep_laws.ensures.all conditions c.args.changes.now (kept_seen c.args.catalog.now c.args.grants.now c.args.desk.now c.args.instance) c.requires.spelled c.requires.kept good.0 good.1)
