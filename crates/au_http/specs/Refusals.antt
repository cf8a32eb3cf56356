-- What the head of a request is refused for (RFC 9112, sections 3.2, 6.1 to 6.3 and 9.6; RFC 9110, sections
-- 15.5.1, 15.5.5, 15.5.6 and 15.5.14; the order of the refusals and the limits are this project's profile).
use Rattle.std.specs.Prelude.{◌≡◌, ℕ, ◌==◌, ◌&&◌, ◌||◌, not, nat_lt, nat_le, Bool, List, [], ◌∷◌, length, if◌then◌else◌, map, filter, codes, Option, Some, None, is_none, option_map, unwrap_or}
use Rattle.std.specs.List.{find, list_all, list_any}
use Rattle.std.specs.Char.{is_ascii_digit}
use Rattle.std.specs.Str.{bytes_eq, str_eq_ignore_ascii_case}
use Rattle.std.specs.Str.Parse.{digits_value}
use Rattle.au_http.specs.declared.refusals.Verdict.{Verdict}
use Rattle.au_http.specs.declared.refusals.Verdict.TheVariants.{Refused, Taken}
use Rattle.au_http.specs.Heads.{Field, Head}
use Rattle.au_http.specs.Routes.{route_of}

-- the values of the fields of that name, in any case
abbrev pub values_of : List ℕ → List Field → List (List ℕ)
values_of name fields = map (λ f. f.1) (filter (λ f. str_eq_ignore_ascii_case f.0 name) fields)

-- HTTP/1.1 has exactly one Host field
unfoldable pub has_host : Head → Bool
has_host h = (h.minor == 0) || (length (values_of (codes "host") h.fields) == 1)

-- the one method that is served
unfoldable pub is_post : Head → Bool
is_post h = bytes_eq h.method (codes "POST")

-- the number that 1 to 10 digits are
abbrev pub number_of : List ℕ → Option ℕ
number_of value =
    if nat_le 1 (length value) && nat_le (length value) 10 && list_all is_ascii_digit value then Some (digits_value 10 value)
    else None

-- the length that the values of Content-Length give: none for two, or for one that is no number
abbrev pub length_of : List (List ℕ) → Option ℕ
length_of [] = Some 0
length_of (value ∷ []) = number_of value
length_of (value ∷ second ∷ more) = None

-- the length of the body, which Content-Length alone tells: none where it is unclear
unfoldable pub stated_length : Head → Option ℕ
stated_length h =
    if length (values_of (codes "transfer-encoding") h.fields) == 0 then length_of (values_of (codes "content-length") h.fields)
    else None

-- how many bytes of body follow the head
abbrev pub body_length : Head → ℕ
body_length h = unwrap_or (stated_length h) 0

-- the most bytes of a body
abbrev pub body_limit : ℕ
body_limit = 262_144

-- each refusal of a head, and its status, in their order
abbrev pub refusals : Head → List (Bool × ℕ)
refusals h =
    (not (has_host h), 400)
    ∷ (is_none (route_of h.target), 404)
    ∷ (not (is_post h), 405)
    ∷ (is_none (stated_length h), 400)
    ∷ (nat_lt body_limit (body_length h), 413)
    ∷ []

-- the status of the first refusal that holds
abbrev pub refusal_of : Head → Option ℕ
refusal_of h = option_map (λ r. r.1) (find (λ r. r.0) (refusals h))

-- the connection closes after HTTP/1.0, and where a Connection field is `close` in any case
unfoldable pub closes : Head → Bool
closes h = (h.minor == 0) || list_any (λ v. str_eq_ignore_ascii_case v (codes "close")) (values_of (codes "connection") h.fields)

-- ---- for private clauses

-- the head is refused with this status, or a body of so many bytes follows it
abbrev pub Decides : Head → Verdict → Type 0
Decides h (Refused status) = refusal_of h ≡ Some status
Decides h (Taken route count close) =
    (refusal_of h ≡ None) × (route_of h.target ≡ Some route) × (count ≡ body_length h) × (close ≡ closes h)
