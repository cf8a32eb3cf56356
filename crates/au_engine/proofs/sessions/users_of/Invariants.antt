use Rattle.std.proofs.Common.{◌≡◌, map, take}
use Rattle.au_engine.proofs.sessions.users_of.Given as goal

abbrev pub invariant-loop-session : goal.invariant-loop-session
invariant-loop-session l = l.users ≡ map (λ session. session.user) (take l.session-index l.sessions)
