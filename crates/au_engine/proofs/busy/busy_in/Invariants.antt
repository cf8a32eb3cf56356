use Rattle.std.proofs.Common.{◌≡◌, take}
use Rattle.std.specs.List.{flat_map}
use Rattle.au_engine.specs.Inside.{busy_by}
use Rattle.au_engine.proofs.busy.busy_in.Given as goal

abbrev pub invariant-loop-session : goal.invariant-loop-session
invariant-loop-session l = l.busy ≡ flat_map (busy_by l.desk.logs l.commits l.client l.tables) (take l.session-index l.sessions)
