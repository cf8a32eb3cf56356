-- Requests and their responses, one after another on a connection (RFC 9112, section 9.3.2).
use Rattle.std.specs.Prelude.{◌≡◌, ℕ, Bool, true, false, List, [], ◌∷◌, ◌++◌, map, flat_map, Option, ⊤}
use Rattle.std.specs.Io.KnownBytes.{IsAtEnd}
use mathlib.Core.List.{IsPrefix}
use Rattle.au_base.specs.declared.ask.Ask.{Ask}
use Rattle.au_base.specs.declared.reply.Said.{Said}
use Rattle.au_http.specs.declared.requests.Need.TheVariants.{Bad, More}
use Rattle.au_http.specs.Pipelines.{Request}
use Rattle.au_http.specs.Replies.{said_text}
use Rattle.au_http.specs.Requests.{Needs}
use Rattle.au_http.specs.Responses.{refusal_text, response_text, status_of}

-- what a request asks, whether the connection closes after its response, and what is said to it
pub record Exchange : Type 0 where
  pub ask : Ask
  pub close : Bool
  pub said : Said

-- the request of an exchange
abbrev pub request_of : Exchange → Request
request_of x = (x.ask, x.close)

-- the requests, in order
abbrev pub requests_of : List Exchange → List Request
requests_of xs = map request_of xs

-- the response of an exchange
abbrev pub response_of : Exchange → List ℕ
response_of x = response_text (status_of x.ask x.said) x.close (said_text x.said)

-- the responses, in order
abbrev pub responses_of : List Exchange → List ℕ
responses_of xs = flat_map response_of xs

-- no response closes the connection
abbrev pub AllOpen : List Exchange → Type 0
AllOpen [] = ⊤
AllOpen (x ∷ xs) = (x.close ≡ false) × AllOpen xs

-- the last exchange, and those before it, none of which closes the connection
pub record EndsWith (before : List Exchange) (last : Exchange) (exchanges : List Exchange) : Type 0 where
  pub list : exchanges ≡ before ++ last ∷ []
  pub unclosed : AllOpen before

-- the last response closes the connection, and no other does
abbrev pub LastCloses : List Exchange → Type 0
LastCloses exchanges = (before : List Exchange) × (last : Exchange) × EndsWith before last exchanges × (last.close ≡ true)

-- each response was given, and none closes the connection
pub record AreGiven (exchanges : List Exchange) (gave : List ℕ) : Type 0 where
  pub text : gave ≡ responses_of exchanges
  pub unclosed : AllOpen exchanges

-- each response was given, and of the last one only this front
pub record AreGivenUpTo (front : List ℕ) (exchanges : List Exchange) (gave : List ℕ) : Type 0 where
  pub before : List Exchange
  pub last : Exchange
  pub ends : EndsWith before last exchanges
  pub begins : IsPrefix front (response_of last)
  pub text : gave ≡ responses_of before ++ front

-- each response was given, and then this front of the refusal of what comes next
pub record AreGivenAnd (front : List ℕ) (status : ℕ) (exchanges : List Exchange) (rest gave : List ℕ) : Type 0 where
  pub unclosed : AllOpen exchanges
  pub refused : Needs rest (Bad status)
  pub begins : IsPrefix front (refusal_text status)
  pub text : gave ≡ responses_of exchanges ++ front

-- each response was given, none closes the connection, the next request isn't whole, and no byte is left to be taken
pub record IsOver (left : Option (List ℕ)) (exchanges : List Exchange) (rest gave : List ℕ) : Type 0 where
  pub given : AreGiven exchanges gave
  pub unwhole : Needs rest More
  pub ended : IsAtEnd left
