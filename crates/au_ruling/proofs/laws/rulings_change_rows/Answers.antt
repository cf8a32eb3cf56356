use Rattle.au_ruling.specs.Kinds.{kind_of}
use Rattle.au_ruling.proofs.Rows.{defined_purges_none, no_rows, only_rows, rows_written, undone_no_rows}
use Rattle.au_ruling.proofs.laws.rulings_change_rows.Goals as goal

pub returns-clause-rows : goal.returns-clause-rows
returns-clause-rows c basis statement ruling desk holds is_desk sound stated comes =
    rows_written basis desk holds is_desk sound c.plans_can_be_written.ensures (kind_of statement) statement ruling stated comes

pub returns-clause-only : goal.returns-clause-only
returns-clause-only c basis statement ruling comes on_rows = only_rows (kind_of statement) basis statement ruling comes on_rows

pub returns-clause-rowless : goal.returns-clause-rowless
returns-clause-rowless c basis statement ruling comes other = no_rows (kind_of statement) basis statement ruling comes other

pub returns-clause-undone : goal.returns-clause-undone
returns-clause-undone c basis statement ruling comes undone = undone_no_rows (kind_of statement) basis statement ruling comes undone

pub returns-clause-defined : goal.returns-clause-defined
returns-clause-defined c basis statement ruling comes is = defined_purges_none (kind_of statement) basis statement ruling comes is
