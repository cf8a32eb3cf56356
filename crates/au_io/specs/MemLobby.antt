-- What is seen of a lobby in memory.
use Rattle.std.specs.Prelude.{ℕ, ◌+◌, ◌-◌, ◌≤◌, List, length, map, reverse}
use Rattle.std.proofs.Common.{arith}
use Rattle.std.proofs.lemmas.List.{length-map}
use Rattle.au_io.specs.declared.mem_link.MemLink.{MemLink}
use Rattle.au_io.specs.declared.mem_lobby.MemLobby.{MemLobby}
use Rattle.au_io.specs.FaultPlan.{plan_of}
use Rattle.au_io.specs.Faults.{Plan}
use Rattle.au_io.specs.MemLink.{link_told}
use Rattle.au_io.specs.Visits.{Visits}

-- how many it handed out, what those tell that are left, the last first, and what those tell that were finished
abbrev pub lobby_visits : MemLobby → Visits
lobby_visits lobby = record {
  handed = lobby.total - length lobby.waiting.items;
  left = map link_told (reverse lobby.waiting.items);
  finished = map link_told lobby.finished.items;
}

-- how often it has failed
abbrev pub lobby_faults : MemLobby → ℕ
lobby_faults lobby = lobby.plan.faults

-- the calls that are to fail, and the number of the next call
abbrev pub lobby_plan : MemLobby → Plan
lobby_plan lobby = plan_of lobby.plan

-- no more are finished than were handed out
pub within_law : (finished waiting : List MemLink) (total : ℕ) → length finished + length waiting ≤ total → length (map link_told finished) ≤ total - length waiting
within_law finished waiting total within = omega (arith, within, length-map finished link_told)
