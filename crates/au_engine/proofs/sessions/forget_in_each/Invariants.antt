use Rattle.std.proofs.Common.{◌≡◌, ◌++◌, map, take, drop, vec_capacity, vec_len}
use Rattle.au_engine.specs.Sessions.{forgotten}
use Rattle.au_engine.proofs.sessions.forget_in_each.Given as goal

abbrev pub invariant-loop-place : goal.invariant-loop-place
invariant-loop-place l = record {
  items : l.sessions.items ≡ map (forgotten l.forgets) (take l.place l.fn.sessions.items) ++ drop l.place l.fn.sessions.items;
  len : vec_len l.sessions ≡ vec_len l.fn.sessions;
  capacity : vec_capacity l.sessions ≡ vec_capacity l.fn.sessions;
}
