use Rattle.std.proofs.Common.{◌≡◌, map, take}
use Rattle.httparse.specs.Spans.{header_bytes}
use Rattle.au_http.specs.Refusals.{values_of}
use Rattle.au_http.proofs.heads.values.Given as goal

abbrev pub invariant-loop-field : goal.invariant-loop-field
invariant-loop-field l = map (λ s. s.now) l.found.items ≡ values_of l.name (map (header_bytes l.head) (take l.field-index (take l.spans.count l.spans.fields)))
