use Rattle.std.proofs.Common.{◌≡◌, ◌∙◌, Bool, List, ℕ, map, ap, ap₂, subst}
use Rattle.std.specs.List.{flat_map}
use Rattle.au_audit.specs.Statements.{tables_of}
use Rattle.au_base.specs.declared.table.TableName.{TableName}
use Rattle.au_ruling.specs.Kinds.{commits}
use Rattle.au_step.specs.declared.session.Session.{Session}
use Rattle.au_step.specs.State.{OpenSession}
use Rattle.au_step.specs.Step.{busy_of}
use Rattle.au_engine.specs.Reserved.{Reserved}
use Rattle.au_engine.proofs.BusyTables.{busy_state, seats_at, users_at}
use Rattle.au_engine.proofs.engine.Engine.busy.Goals as goal

pub returns : goal.returns
returns c =
    let a = c.args in
    let m = a.self.now.state in
    let e = c.self.inside in
    let client = a.session.now.client in
    let first = commits a.statement.now in
    let users = c.in_ok-connected.ensures
    ∙ (ap (λ (l : List Session). map (λ (s : Session). s.user) l) c.as_slice.ensures.value
    ∙ (users_at first client e.keeping.logs e.sessions.items
    ∙ ap (λ (e : Reserved). map (λ (s : OpenSession). s.session.user) (seats_at first client e.state.sessions)) c.self.view_is)) in
    let busy = c.in_ok-tables.ensures
    ∙ ap₂ (λ (b : Bool) (ts : List TableName). flat_map (busy_of ts) (seats_at b client m.sessions)) c.commits.ensures (c.as_slice-2.ensures ∙ c.in_ok-named.ensures) in
    busy_state first m client c.in_ok-connected.connected (tables_of a.session.now.user a.statement.now) c.in_ok-tables.tables users busy
