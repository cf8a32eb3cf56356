-- Connections that were answered.
use Rattle.std.specs.Prelude.{◌≡◌, ◌≢◌, ◌⊎◌, ℕ, List, [], ◌∷◌, Option, Some, ⊤}
use Rattle.au_http.specs.Pipelines.{AreRequests}
use Rattle.au_http.specs.Responses.{refusal_text}
use Rattle.au_io.specs.Visits.{Told}
use Rattle.au_session.specs.declared.ended.Ended.{Ended}
use Rattle.au_session.specs.declared.ended.Ended.TheVariants as ended
use Rattle.au_session.specs.Exchanges.{AreGivenAnd, Exchange, IsOver, LastCloses, requests_of, responses_of}

-- One response was given to each whole request that was taken, in order. Behind them stands the refusal, where what follows is
-- refused, and nothing else. Nothing is left to be taken, unless the last response closes the connection or is a refusal.
pub record AnsweredBy (bytes out : List ℕ) (left : Option (List ℕ)) : Type 0 where
  pub exchanges : List Exchange
  pub rest : List ℕ
  pub requests : AreRequests bytes (requests_of exchanges) rest
  pub ends : (LastCloses exchanges × (out ≡ responses_of exchanges))
      ⊎ (IsOver left exchanges rest out ⊎ ((status : ℕ) × AreGivenAnd (refusal_text status) status exchanges rest out))

-- a connection that has failed counts as answered, and so does one that doesn't tell its bytes
abbrev pub Answered : Told → Type 0
Answered t = t.faults ≡ 0 → (bytes out : List ℕ) → t.taken ≡ Some bytes → t.given ≡ Some out → AnsweredBy bytes out t.left

-- each of the connections was answered
abbrev pub AllAnswered : List Told → Type 0
AllAnswered [] = ⊤
AllAnswered (t ∷ ts) = Answered t × AllAnswered ts

-- a connection that ended in this way may come back to its door: it was answered, unless there was no memory
abbrev pub MayComeBack : Ended → Told → Type 0
MayComeBack end t = end ≢ ended.Memory → Answered t
