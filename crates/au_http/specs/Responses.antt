-- The bytes of a response (RFC 9112, sections 2.1 and 4; RFC 9110, sections 8.3, 8.6, 10.2.1 and 15.5.6;
-- which fields there are, and their order, is this project's profile).
use Rattle.std.specs.Prelude.{◌≡◌, ◌⊎◌, ℕ, ◌==◌, ◌||◌, Bool, true, List, [], ◌∷◌, ◌++◌, length, codes, decimal, unwrap_or, if◌then◌else◌}
use Rattle.au_base.specs.declared.ask.Ask.{Ask}
use Rattle.au_base.specs.declared.ask.Ask.TheVariants as ask
use Rattle.au_base.specs.declared.reply.Said.{Said}
use Rattle.au_base.specs.declared.reply.Said.TheVariants as said
use Rattle.http.specs.StatusCode.{reason_phrase}
use Rattle.serde_json.specs.Data.{unsigned, number, object, no_members, member}
use Rattle.serde_json.specs.Written.{compact_text}

-- a line with its end, CR LF
abbrev pub line : List ℕ → List ℕ
line text = text ++ 13 ∷ 10 ∷ []

-- the line, where the test holds
abbrev pub line_if : Bool → List ℕ → List ℕ
line_if test text = if test then line text else []

-- the phrase of a status
unfoldable pub phrase_of : ℕ → List ℕ
phrase_of status = unwrap_or (reason_phrase status) []

-- the version, the status and its phrase
unfoldable pub status_line : ℕ → List ℕ
status_line status = line (codes "HTTP/1.1 " ++ decimal status ++ 32 ∷ phrase_of status)

-- with 405, the one method that is allowed
unfoldable pub allow_line : ℕ → List ℕ
allow_line status = line_if (status == 405) (codes "Allow: POST")

-- a body is JSON, of so many bytes
unfoldable pub content_lines : ℕ → List ℕ
content_lines count = line (codes "Content-Type: application/json") ++ line (codes "Content-Length: " ++ decimal count)

-- where the connection closes
unfoldable pub connection_line : Bool → List ℕ
connection_line close = line_if close (codes "Connection: close")

-- the bytes before a body of so many bytes
abbrev pub head_text : (status : ℕ) (close : Bool) (count : ℕ) → List ℕ
head_text status close count =
    status_line status ++ allow_line status ++ content_lines count ++ connection_line close ++ line []

-- a response: its head, and its body
unfoldable pub response_text : (status : ℕ) (close : Bool) (body : List ℕ) → List ℕ
response_text status close body = head_text status close (length body) ++ body

-- the codes of a logon that is refused: the user or the password is wrong, or CREATE SESSION is missing
abbrev pub is_logon_refusal : ℕ → Bool
is_logon_refusal code = (code == 1017) || (code == 1045)

-- the status of a reply to a logon
abbrev pub logon_status : ℕ → ℕ
logon_status code = if is_logon_refusal code then 403 else 200

-- the status of a reply, by what was asked
abbrev pub reply_status : Ask → ℕ → ℕ
reply_status (ask.Logon user password) code = logon_status code
reply_status ask.Local code = 200
reply_status (ask.Sql text) code = 200
reply_status ask.Logoff code = 200

-- 200 for a reply, but 403 for a logon that was refused; 500, 507 and 503 for the faults
abbrev pub status_of : Ask → Said → ℕ
status_of asked (said.Replied r) = reply_status asked r.code.0
status_of asked said.Disk = 500
status_of asked (said.Full needed limit) = 507
status_of asked said.Memory = 503

-- the body of a request's refusal: an object with the status
unfoldable pub error_text : ℕ → List ℕ
error_text status = compact_text (object (member (codes "error") (number (unsigned status)) no_members))

-- the response to a request that is refused with this status, after which the connection closes
unfoldable pub refusal_text : ℕ → List ℕ
refusal_text status = response_text status true (error_text status)

-- the statuses of refused requests
abbrev pub IsRefusal : ℕ → Type 0
IsRefusal status = (status ≡ 400) ⊎ ((status ≡ 404) ⊎ ((status ≡ 405) ⊎ (status ≡ 413)))
