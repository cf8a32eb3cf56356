use Rattle.std.proofs.Common.{◌≡◌, ◌∙◌, ◌++◌, List, [], ap, ap₂, sym, subst}
use Rattle.std.specs.Prelude.{Some}
use Rattle.au_base.specs.declared.numbers.ClientNo.{ClientNo}
use Rattle.au_txn.specs.declared.change.RowChange.{RowChange}
use Rattle.au_txn.specs.Logs.{changes_of}
use Rattle.au_engine.specs.declared.outcome.RowsChange.{RowsChange}
use Rattle.au_engine.specs.Inside.{rows_left}
use Rattle.au_engine.proofs.Settled.{left_by_test, none_some, other_number, some_other}
use Rattle.au_engine.proofs.settling.settle_rows.Goals as goal

pub returns-in-Commits-clause-lists : goal.returns-in-Commits-clause-lists
returns-in-Commits-clause-lists c = λ q.
    let client = c.args.client in
    let old = changes_of q c.args.keeping.now.logs in
    let new = changes_of q c.keep-in-Commits.new.keeping.logs in
    subst (λ (r : RowsChange). new ≡ rows_left client r q old) (sym c.in-Commits.is)
    (left_by_test client q [] old new (λ same. c.keep-in-Commits.ensures.own q (ap (λ (x : ClientNo). Some x) (sym same))) (λ apart. c.keep-in-Commits.ensures.others q (some_other client q apart)))

pub returns-in-Writes-clause-lists : goal.returns-in-Writes-clause-lists
returns-in-Writes-clause-lists c = λ q.
    let client = c.args.client in
    let logs = c.args.keeping.now.logs in
    let new = changes_of q c.keep-in-Writes.new.keeping.logs in
    let kept = c.keep-in-Writes.ensures.others q (none_some q) in
    subst (λ (r : RowsChange). new ≡ rows_left client r q (changes_of q logs)) (sym c.in-Writes.is)
    (left_by_test client q (changes_of q logs ++ c.in-Writes.changes) (changes_of q logs) new
    (λ same. kept ∙ (ap (λ (x : ClientNo). changes_of x c.write.new.self.logs) same ∙ (c.write.ensures.own
    ∙ ap₂ (λ (x : ClientNo) (cs : List RowChange). changes_of x logs ++ cs) (sym same) c.into_vec.ensures)))
    (λ apart. kept ∙ c.write.ensures.others q (other_number client q apart)))

pub returns-in-Undoes-clause-lists : goal.returns-in-Undoes-clause-lists
returns-in-Undoes-clause-lists c = λ q.
    let client = c.args.client in
    let logs = c.args.keeping.now.logs in
    let new = changes_of q c.keep-in-Undoes.new.keeping.logs in
    let kept = c.keep-in-Undoes.ensures.others q (none_some q) in
    subst (λ (r : RowsChange). new ≡ rows_left client r q (changes_of q logs)) (sym c.in-Undoes.is)
    (left_by_test client q [] (changes_of q logs) new
    (λ same. kept ∙ (ap (λ (x : ClientNo). changes_of x c.rollback.new.self.logs) same ∙ c.rollback.ensures.own))
    (λ apart. kept ∙ c.rollback.ensures.others q (other_number client q apart)))
