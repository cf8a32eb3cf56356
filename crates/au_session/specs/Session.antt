-- One connection: what was taken of it and given to it, and the entries that its steps left.
use Rattle.std.specs.Prelude.{◌≡◌, ◌≢◌, ◌⊎◌, ℕ, List, [], ◌++◌, Option}
use Rattle.std.specs.Io.KnownBytes.{Consumes}
use Rattle.au_base.specs.declared.numbers.ClientNo.{ClientNo}
use Rattle.au_http.specs.declared.requests.Need.TheVariants.{More}
use Rattle.au_http.specs.Pipelines.{AreRequests}
use Rattle.au_http.specs.Requests.{Needs}
use Rattle.au_http.specs.Responses.{refusal_text}
use Rattle.au_io.specs.Faults.{HasRisen}
use Rattle.au_io.specs.Stream.{Grows}
use Rattle.au_io.specs.Visits.{Told}
use Rattle.au_store.specs.declared.entry.Entry.{Entry}
use Rattle.au_turn.specs.declared.pass.Pass.{Pass}
use Rattle.au_turn.specs.Pass.{WentOnBy}
use Rattle.au_session.specs.declared.ended.Ended.{Ended}
use Rattle.au_session.specs.declared.ended.Ended.TheVariants as ended
use Rattle.au_session.specs.Entries.{AllLeave}
use Rattle.au_session.specs.Exchanges.{AreGiven, AreGivenAnd, AreGivenUpTo, Exchange, IsOver, LastCloses, requests_of, responses_of}

-- what a connection tells
abbrev pub told_of : {K : Type 0} → (K → Option (List ℕ)) → (K → Option (List ℕ)) → (K → Option (List ℕ)) → (K → ℕ) → K → Told
told_of left taken given faults link = record { left = left link; taken = taken link; given = given link; faults = faults link }

-- From f to g bytes were taken, which are the requests of the exchanges and then the rest, and these bytes were given. From p
-- to q the pass made these entries, among others that it saw.
pub record Talk {T : Type 0} (f g : Told) (p q : Pass T Entry) (exchanges : List Exchange) (rest gave : List ℕ) (made : List Entry) : Type 0 where
  pub bytes : List ℕ
  pub came : List Entry
  pub left : Consumes f.left g.left bytes
  pub taken : Grows f.taken g.taken bytes
  pub given : Grows f.given g.given gave
  pub requests : AreRequests bytes (requests_of exchanges) rest
  pub went : WentOnBy came made p q

-- why no more requests are answered, and what was given then
abbrev pub EndsBy : Told → Told → List Exchange → (rest gave : List ℕ) → Ended → Type 0
-- the connection ended between two requests, or the last response closes it
EndsBy f g exchanges rest gave ended.Closed =
    (g.faults ≡ f.faults)
    × ((IsOver g.left exchanges rest gave × (rest ≡ [])) ⊎ (LastCloses exchanges × (gave ≡ responses_of exchanges)))
-- it ended inside a request
EndsBy f g exchanges rest gave ended.Cut = (g.faults ≡ f.faults) × IsOver g.left exchanges rest gave × (rest ≢ [])
-- the next request is refused, and the refusal was given
EndsBy f g exchanges rest gave (ended.Refused status) =
    (g.faults ≡ f.faults) × AreGivenAnd (refusal_text status) status exchanges rest gave
-- it failed: as more of a request was asked for, or as a response or a refusal was given
EndsBy f g exchanges rest gave ended.LinkFault =
    HasRisen f.faults g.faults
    × ((AreGiven exchanges gave × Needs rest More)
    ⊎ ((front : List ℕ) × (AreGivenUpTo front exchanges gave ⊎ ((status : ℕ) × AreGivenAnd front status exchanges rest gave))))
-- there was no memory: for a request, or for the last response
EndsBy f g exchanges rest gave ended.Memory = (g.faults ≡ f.faults) × (AreGiven exchanges gave ⊎ AreGivenUpTo [] exchanges gave)

-- the client was answered on one connection, and then its session ended by these entries
pub record Served {T : Type 0} (client : ClientNo) (f g : Told) (p q : Pass T Entry) (end : Ended) (ending : List Entry) : Type 0 where
  pub exchanges : List Exchange
  pub rest : List ℕ
  pub gave : List ℕ
  pub made : List Entry
  pub left : AllLeave client exchanges made
  pub talk : Talk f g p q exchanges rest gave (made ++ ending)
  pub ends : EndsBy f g exchanges rest gave end
