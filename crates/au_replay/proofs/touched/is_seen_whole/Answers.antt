use Rattle.std.proofs.Common.{◌↔◌, List, Option, subst}
use Rattle.std.specs.Prelude.{IfOk, IsTrue}
use Rattle.au_base.specs.declared.cell.Cell.{Cell}
use Rattle.au_replay.specs.Sights.{rows_seen}
use Rattle.au_replay.specs.descent.Touched.{IsSeenWhole}
use Rattle.au_replay.proofs.touched.is_seen_whole.Goals as goal

pub returns-in-Some : goal.returns-in-Some
returns-in-Some c =
    subst (λ (content : Option (List Cell)). IfOk c.is_content_whole.result (λ whole. IsTrue whole ↔ IsSeenWhole (rows_seen c.args.sight.now.desk.now) c.args.table.now c.args.row content))
    c.in-Some.ensures c.is_content_whole.ensures
