-- What the bytes of a connection need that follow its last request (RFC 9112, sections 2.1 and 6.3; the order
-- of the refusals and the limits are this project's profile).
use Rattle.std.specs.Prelude.{◌≡◌, ◌⊎◌, ℕ, ◌+◌, ◌<◌, ◌≤◌, nat_lt, Bool, List, length, take, if◌then◌else◌, Option, Some, None, option_and_then, ⊤}
use Rattle.httparse.specs.Grammar.{RequestHead}
use Rattle.au_base.specs.declared.ask.Ask.{Ask}
use Rattle.au_http.specs.declared.refusals.Verdict.{Verdict}
use Rattle.au_http.specs.declared.refusals.Verdict.TheVariants.{Refused, Taken}
use Rattle.au_http.specs.declared.requests.Need.{Need}
use Rattle.au_http.specs.declared.requests.Need.TheVariants.{More, Got, Bad}
use Rattle.au_http.specs.Bodies.{ask_of}
use Rattle.au_http.specs.HeadEnds.{HasHead, HasNoHead, head_limit}
use Rattle.au_http.specs.Heads.{Head, head_of, IsHead, IsNoHead}
use Rattle.au_http.specs.Refusals.{body_length, closes, refusal_of}
use Rattle.au_http.specs.Responses.{IsRefusal}
use Rattle.au_http.specs.Routes.{route_of}

-- with no end of a head among so many bytes: more, up to the limit
abbrev pub unended_need : ℕ → Need
unended_need count = if nat_lt count head_limit then More else Bad 413

-- a whole request is what it asks for, and is refused where its body doesn't say that
abbrev pub whole_need : Option Ask → (used : ℕ) → (close : Bool) → Need
whole_need None used close = Bad 400
whole_need (Some asked) used close = Got used asked close

-- a head that isn't refused, of so many bytes, waits for all bytes of its body
abbrev pub taken_need : Head → (size : ℕ) → (rest : List ℕ) → Need
taken_need h size rest =
    if nat_lt (length rest) (body_length h) then More
    else whole_need (option_and_then (λ route. ask_of route (take (body_length h) rest)) (route_of h.target)) (size + body_length h) (closes h)

-- what a head needs: it is refused at once, or its body is looked at
abbrev pub need_after : Option ℕ → Head → (size : ℕ) → (rest : List ℕ) → Need
need_after (Some status) h size rest = Bad status
need_after None h size rest = taken_need h size rest

abbrev pub head_need : Head → (size : ℕ) → (rest : List ℕ) → Need
head_need h size rest = need_after (refusal_of h) h size rest

-- a head has no reading and is refused, or needs what its reading does
abbrev pub NeedsBehind : (head rest : List ℕ) → Need → Type 0
NeedsBehind head rest need =
    (IsNoHead head × (need ≡ Bad 400))
    ⊎ ((h : RequestHead) × IsHead head h × (need ≡ head_need (head_of h) (length head) rest))

-- bytes need more or too much where no head ends in them, or what the head needs that they begin with
abbrev pub Needs : List ℕ → Need → Type 0
Needs bytes need =
    (HasNoHead bytes × (need ≡ unended_need (length bytes)))
    ⊎ ((head : List ℕ) × (rest : List ℕ) × HasHead bytes head rest × NeedsBehind head rest need)

-- a request takes up some of the bytes, and a refusal has a status of its own
abbrev pub FitsBytes : ℕ → Need → Type 0
FitsBytes count More = ⊤
FitsBytes count (Got used asked close) = (0 < used) × (used ≤ count)
FitsBytes count (Bad status) = IsRefusal status

-- ---- for private clauses

-- what a verdict on a head of so many bytes comes to
abbrev pub verdict_need : Verdict → (size : ℕ) → (rest : List ℕ) → Need
verdict_need (Refused status) size rest = Bad status
verdict_need (Taken route count close) size rest =
    if nat_lt (length rest) count then More else whole_need (ask_of route (take count rest)) (size + count) close
