use Rattle.std.proofs.Common.{◌≡◌, ◌∙◌, List, [], ap, subst}
use Rattle.std.specs.Prelude.{filter}
use Rattle.std.specs.List.{flat_map}
use Rattle.au_base.specs.declared.numbers.ClientNo.{ClientNo}
use Rattle.au_kept.specs.Keeping.{desk_of}
use Rattle.au_step.specs.declared.session.Session.{Session}
use Rattle.au_step.specs.Step.{busy_of}
use Rattle.au_txn.specs.Desks.{Contents as Desk, open_of}
use Rattle.au_txn.specs.Transactions.{names_table}
use Rattle.au_engine.specs.Inside.{busy_by}
use Rattle.au_engine.specs.Reserved.{Reserved}
use Rattle.au_engine.proofs.BusyTables.{busy_all, none_busy, seats_at}
use Rattle.au_engine.proofs.engine.Engine.busy_tables.Goals as goal

pub returns-then-are_settled : goal.returns-then-are_settled
returns-then-are_settled c =
    let a = c.args in
    let e = c.self.inside in
    let quiet = subst (λ (d : Desk). (q : ClientNo) → filter (λ table. names_table table (open_of d q)) a.tables.now ≡ []) c.desk-desk.ensures (c.are_settled.ensures c.if-are_settled.true) in
    c.new.ensures ∙ (none_busy e.keeping a.commits a.client a.tables.now e.sessions.items quiet
    ∙ (busy_all a.commits a.client e.keeping.logs a.tables.now e.sessions.items
    ∙ ap (λ (e : Reserved). flat_map (busy_of a.tables.now) (seats_at a.commits a.client e.state.sessions)) c.self.view_is))

pub returns : goal.returns
returns c =
    let a = c.args in
    let e = c.self.inside in
    c.in_ok-busy.ensures
    ∙ (ap (λ (d : Desk). flat_map (busy_by d.logs a.commits a.client a.tables.now) c.as_slice.result.now) c.desk-desk.ensures
    ∙ (ap (λ (l : List Session). flat_map (busy_by e.keeping.logs a.commits a.client a.tables.now) l) c.as_slice.ensures.value
    ∙ (busy_all a.commits a.client e.keeping.logs a.tables.now e.sessions.items
    ∙ ap (λ (e : Reserved). flat_map (busy_of a.tables.now) (seats_at a.commits a.client e.state.sessions)) c.self.view_is)))
