use Rattle.std.proofs.Common.{List, ◌++◌, None, append-nil, sym, subst}
use Rattle.au_session.specs.declared.drawn.DoorEntry.{DoorEntry}
use Rattle.au_session.specs.Stands.{DoorStands, drawn_entries}
use Rattle.au_server.specs.descent.Closing.{ClosesTo}
use Rattle.au_server.proofs.Returning.{closed_by}
use Rattle.au_server.proofs.serving.close.Goals as goal

pub returns-clause-closes : goal.returns-clause-closes
returns-clause-closes g c = λ history stands.
    let lobby = g.L.Lobby in
    let door = c.draw.new.self in
    let stood = λ (l : List DoorEntry). DoorStands (lobby.visits door.lobby) (lobby.faults door.lobby) door.drawn door.back door.failed l in
    let drawn : stood (history ++ drawn_entries None) = rw c.in_default.is at c.draw.ensures.history history stands in
    subst (λ (l : _). ClosesTo c.end_of.result c.args.asked history (lobby.visits l) (lobby.faults l)) (sym c.into_lobby-2.ensures)
    (closed_by c.end_of.result c.args.asked history (lobby.visits door.lobby) (lobby.faults door.lobby) door.drawn door.back door.short door.failed
    door.kept (subst stood (append-nil history) drawn) c.end_of.ensures.done c.end_of.ensures.fault)
