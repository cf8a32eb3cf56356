-- What the head of a request says (RFC 9112, sections 3 and 5), by the grammar of the crate `httparse`.
use Rattle.std.specs.Prelude.{◌≡◌, ◌≤◌, ℕ, List, [], length, map, take, IsUtf8}
use Rattle.httparse.specs.Grammar.{RequestHead, ReadsRequest}
use Rattle.httparse.specs.Spans.{span_bytes, header_bytes, name_and_value, IsWithin, IsSectionWithin}
use Rattle.au_http.specs.declared.heads.HeadSpans.{HeadSpans}

-- a field's name, and its value without the white space around it
abbrev pub Field : Type 0
Field = List ℕ × List ℕ

-- what is asked, in which version of HTTP/1, with which fields
pub record Head : Type 0 where
  pub method : List ℕ
  pub target : List ℕ
  pub minor : ℕ
  pub fields : List Field

-- a head of the grammar without its layout
abbrev pub head_of : RequestHead → Head
head_of h = record { method = h.method; target = h.target; minor = h.minor; fields = map name_and_value h.fields }

-- the most fields of a head
abbrev pub field_limit : ℕ
field_limit = 64

-- the bytes are this head of the grammar, and it has few enough fields
pub record IsHead (bytes : List ℕ) (h : RequestHead) : Type 0 where
  pub reads : ReadsRequest bytes h []
  pub few : length h.fields ≤ field_limit

-- the bytes have no reading as a head, or too many fields
abbrev pub IsNoHead : List ℕ → Type 0
IsNoHead bytes = (h : RequestHead) → ¬ (IsHead bytes h)

-- ---- for private clauses

-- what the spans cover
abbrev pub spanned : List ℕ → HeadSpans → Head
spanned bytes s =
    record {
      method = span_bytes bytes s.method;
      target = span_bytes bytes s.target;
      minor = s.minor;
      fields = map (header_bytes bytes) (take s.count s.fields);
    }

-- each span lies in the bytes, and the target is text
pub record AreSpans (bytes : List ℕ) (s : HeadSpans) : Type 0 where
  pub method : IsWithin (length bytes) s.method
  pub target : IsWithin (length bytes) s.target
  pub fields : IsSectionWithin bytes s.fields (length bytes) s.count
  pub text : IsUtf8 (span_bytes bytes s.target)

-- the spans cover the parts of the head that the bytes are
abbrev pub SpansHead : List ℕ → HeadSpans → Type 0
SpansHead bytes s = AreSpans bytes s × ((h : RequestHead) × IsHead bytes h × (spanned bytes s ≡ head_of h))
