use Rattle.au_kept.proofs.CommitRows.{LaidLaws}
use Rattle.au_kept.proofs.Committing.{CommitLaws, alone, few, followed, goes, kept, left, spelled}
use Rattle.au_kept.proofs.Settled.{Triples}
use Rattle.au_kept.proofs.commits.commits_can_settle.Goals as goal

pub returns-clause-alone : goal.returns-clause-alone
returns-clause-alone c =
    let laid : LaidLaws = record { untouched = c.laid_rows_answer.ensures.untouched; named = c.laid_rows_answer.ensures.named; laid = c.laid_rows_answer.ensures.laid; found = c.rows_stand_by_tables.ensures.found; stands = c.rows_stand_by_tables.ensures.there; ordered = c.rows_are_what_they_answer.ensures.ordered; listed = c.rows_are_triples.ensures.ordered } in
    let triples : Triples = record { forth = c.rows_are_triples.ensures.forth; gone = c.rows_are_triples.ensures.gone; left = c.rows_are_triples.ensures.left; put = c.rows_are_triples.ensures.put } in
    let laws : CommitLaws = record { laid = laid; triples = triples; settles = c.finals_settle.ensures.settle; lawful = c.changes_keep_laws.ensures.all } in
    alone laws

pub returns-clause-followed : goal.returns-clause-followed
returns-clause-followed c =
    let laid : LaidLaws = record { untouched = c.laid_rows_answer.ensures.untouched; named = c.laid_rows_answer.ensures.named; laid = c.laid_rows_answer.ensures.laid; found = c.rows_stand_by_tables.ensures.found; stands = c.rows_stand_by_tables.ensures.there; ordered = c.rows_are_what_they_answer.ensures.ordered; listed = c.rows_are_triples.ensures.ordered } in
    let triples : Triples = record { forth = c.rows_are_triples.ensures.forth; gone = c.rows_are_triples.ensures.gone; left = c.rows_are_triples.ensures.left; put = c.rows_are_triples.ensures.put } in
    let laws : CommitLaws = record { laid = laid; triples = triples; settles = c.finals_settle.ensures.settle; lawful = c.changes_keep_laws.ensures.all } in
    followed laws

pub returns-clause-kept : goal.returns-clause-kept
returns-clause-kept c =
    let laid : LaidLaws = record { untouched = c.laid_rows_answer.ensures.untouched; named = c.laid_rows_answer.ensures.named; laid = c.laid_rows_answer.ensures.laid; found = c.rows_stand_by_tables.ensures.found; stands = c.rows_stand_by_tables.ensures.there; ordered = c.rows_are_what_they_answer.ensures.ordered; listed = c.rows_are_triples.ensures.ordered } in
    let triples : Triples = record { forth = c.rows_are_triples.ensures.forth; gone = c.rows_are_triples.ensures.gone; left = c.rows_are_triples.ensures.left; put = c.rows_are_triples.ensures.put } in
    let laws : CommitLaws = record { laid = laid; triples = triples; settles = c.finals_settle.ensures.settle; lawful = c.changes_keep_laws.ensures.all } in
    kept laws

pub returns-clause-few : goal.returns-clause-few
returns-clause-few c =
    let laid : LaidLaws = record { untouched = c.laid_rows_answer.ensures.untouched; named = c.laid_rows_answer.ensures.named; laid = c.laid_rows_answer.ensures.laid; found = c.rows_stand_by_tables.ensures.found; stands = c.rows_stand_by_tables.ensures.there; ordered = c.rows_are_what_they_answer.ensures.ordered; listed = c.rows_are_triples.ensures.ordered } in
    let triples : Triples = record { forth = c.rows_are_triples.ensures.forth; gone = c.rows_are_triples.ensures.gone; left = c.rows_are_triples.ensures.left; put = c.rows_are_triples.ensures.put } in
    let laws : CommitLaws = record { laid = laid; triples = triples; settles = c.finals_settle.ensures.settle; lawful = c.changes_keep_laws.ensures.all } in
    few laws

pub returns-clause-spelled : goal.returns-clause-spelled
returns-clause-spelled c =
    let laid : LaidLaws = record { untouched = c.laid_rows_answer.ensures.untouched; named = c.laid_rows_answer.ensures.named; laid = c.laid_rows_answer.ensures.laid; found = c.rows_stand_by_tables.ensures.found; stands = c.rows_stand_by_tables.ensures.there; ordered = c.rows_are_what_they_answer.ensures.ordered; listed = c.rows_are_triples.ensures.ordered } in
    let triples : Triples = record { forth = c.rows_are_triples.ensures.forth; gone = c.rows_are_triples.ensures.gone; left = c.rows_are_triples.ensures.left; put = c.rows_are_triples.ensures.put } in
    let laws : CommitLaws = record { laid = laid; triples = triples; settles = c.finals_settle.ensures.settle; lawful = c.changes_keep_laws.ensures.all } in
    spelled laws

pub returns-clause-goes : goal.returns-clause-goes
returns-clause-goes c =
    let laid : LaidLaws = record { untouched = c.laid_rows_answer.ensures.untouched; named = c.laid_rows_answer.ensures.named; laid = c.laid_rows_answer.ensures.laid; found = c.rows_stand_by_tables.ensures.found; stands = c.rows_stand_by_tables.ensures.there; ordered = c.rows_are_what_they_answer.ensures.ordered; listed = c.rows_are_triples.ensures.ordered } in
    let triples : Triples = record { forth = c.rows_are_triples.ensures.forth; gone = c.rows_are_triples.ensures.gone; left = c.rows_are_triples.ensures.left; put = c.rows_are_triples.ensures.put } in
    let laws : CommitLaws = record { laid = laid; triples = triples; settles = c.finals_settle.ensures.settle; lawful = c.changes_keep_laws.ensures.all } in
    goes laws

pub returns-clause-left : goal.returns-clause-left
returns-clause-left c =
    let laid : LaidLaws = record { untouched = c.laid_rows_answer.ensures.untouched; named = c.laid_rows_answer.ensures.named; laid = c.laid_rows_answer.ensures.laid; found = c.rows_stand_by_tables.ensures.found; stands = c.rows_stand_by_tables.ensures.there; ordered = c.rows_are_what_they_answer.ensures.ordered; listed = c.rows_are_triples.ensures.ordered } in
    let triples : Triples = record { forth = c.rows_are_triples.ensures.forth; gone = c.rows_are_triples.ensures.gone; left = c.rows_are_triples.ensures.left; put = c.rows_are_triples.ensures.put } in
    let laws : CommitLaws = record { laid = laid; triples = triples; settles = c.finals_settle.ensures.settle; lawful = c.changes_keep_laws.ensures.all } in
    left laws
