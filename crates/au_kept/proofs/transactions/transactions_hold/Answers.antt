use Rattle.std.proofs.Common.{refl}
use Rattle.au_kept.proofs.CommitRows.{LaidLaws}
use Rattle.au_kept.proofs.Committing.{CommitLaws}
use Rattle.au_kept.proofs.Settled.{Triples}
use Rattle.au_kept.proofs.Together.{DeskLaws, TogetherLaws, quiet_holds, settled_holds}
use Rattle.au_kept.proofs.Written.{back_holds, same_holds, written_holds}
use Rattle.au_kept.proofs.transactions.transactions_hold.Goals as goal

pub returns-clause-same : goal.returns-clause-same
returns-clause-same c = λ kept before after h. same_holds c.desks_stay_keyed.ensures.same kept kept before after h refl

pub returns-clause-quiet : goal.returns-clause-quiet
returns-clause-quiet c =
    let laid : LaidLaws = record { untouched = c.laid_rows_answer.ensures.untouched; named = c.laid_rows_answer.ensures.named; laid = c.laid_rows_answer.ensures.laid; found = c.rows_stand_by_tables.ensures.found; stands = c.rows_stand_by_tables.ensures.there; ordered = c.rows_are_what_they_answer.ensures.ordered; listed = c.rows_are_triples.ensures.ordered } in
    let triples : Triples = record { forth = c.rows_are_triples.ensures.forth; gone = c.rows_are_triples.ensures.gone; left = c.rows_are_triples.ensures.left; put = c.rows_are_triples.ensures.put } in
    let commit : CommitLaws = record { laid = laid; triples = triples; settles = c.finals_settle.ensures.settle; lawful = c.changes_keep_laws.ensures.all } in
    let keys = c.desks_stay_keyed.ensures in
    let desks : DeskLaws = record { same = keys.same; quiet = keys.quiet; committed = keys.committed; opened = keys.opened; dropped = keys.dropped } in
    let laws : TogetherLaws = record { commit = commit; desks = desks; back = c.rows_are_triples.ensures.back; gone = c.tables_go_with_their_rows.ensures.left } in
    quiet_holds laws

pub returns-clause-written : goal.returns-clause-written
returns-clause-written c = λ kept before after client changes h apart writable from keys sound tables rows one.
    written_holds c.desks_stay_keyed.ensures.written kept kept before after client changes h refl apart writable from keys sound tables rows one.own_are one.others_are

pub returns-clause-ended : goal.returns-clause-ended
returns-clause-ended c = λ kept before after client h tables rows one. back_holds c.desks_stay_keyed.ensures.rolled_back kept kept before after client h refl tables rows one.own_are one.others_are

pub returns-clause-settled : goal.returns-clause-settled
returns-clause-settled c =
    let laid : LaidLaws = record { untouched = c.laid_rows_answer.ensures.untouched; named = c.laid_rows_answer.ensures.named; laid = c.laid_rows_answer.ensures.laid; found = c.rows_stand_by_tables.ensures.found; stands = c.rows_stand_by_tables.ensures.there; ordered = c.rows_are_what_they_answer.ensures.ordered; listed = c.rows_are_triples.ensures.ordered } in
    let triples : Triples = record { forth = c.rows_are_triples.ensures.forth; gone = c.rows_are_triples.ensures.gone; left = c.rows_are_triples.ensures.left; put = c.rows_are_triples.ensures.put } in
    let commit : CommitLaws = record { laid = laid; triples = triples; settles = c.finals_settle.ensures.settle; lawful = c.changes_keep_laws.ensures.all } in
    let keys = c.desks_stay_keyed.ensures in
    let desks : DeskLaws = record { same = keys.same; quiet = keys.quiet; committed = keys.committed; opened = keys.opened; dropped = keys.dropped } in
    let laws : TogetherLaws = record { commit = commit; desks = desks; back = c.rows_are_triples.ensures.back; gone = c.tables_go_with_their_rows.ensures.left } in
    settled_holds laws
