use Rattle.std.proofs.Common.{false, subst, sym}
use Rattle.std.specs.Prelude.{◌↔◌, IsTrue}
use Rattle.au_entries.specs.declared.change.Change.{Change}
use Rattle.au_entries.specs.Replaying.{GoesOn}
use Rattle.au_kept.specs.descent.Laying.{kept_seen}
use Rattle.au_kept.proofs.Shown.{told_by}
use Rattle.au_replay.specs.Reading.{conditions}
use Rattle.au_kept.proofs.laying_rows.lay_one.Goals as goal

pub returns-in-Put-clause-goes : goal.returns-in-Put-clause-goes
returns-in-Put-clause-goes c =
    told_by (GoesOn conditions false (kept_seen c.args.catalog.now c.args.grants.now c.args.desk.now c.args.instance) c.args.change.now) c.may_put-goes.result
    (subst (λ (change : Change). IsTrue c.may_put-goes.result ↔ GoesOn conditions false (kept_seen c.args.catalog.now c.args.grants.now c.args.desk.now c.args.instance) change) (sym c.in-Put.is) c.may_put-goes.ensures)
    c.put_row.result c.put_row.ensures.goes
