use Rattle.std.proofs.Common.{◌≡◌, ◌≤◌, None, get_or, vec_len, vec_capacity}
use Rattle.au_rows.specs.Links.{Linked, live}
use Rattle.au_rows.proofs.links.link_all.Given as goal

-- the entries before the index are linked
abbrev pub invariant-loop-at : goal.invariant-loop-at
invariant-loop-at l = record {
  linked : Linked l.entries.items (λ lane. get_or l.tops.items lane None) l.at;
  live : live l.entries.items ≡ live l.fn.entries.items;
  len : vec_len l.entries ≡ vec_len l.fn.entries;
  capacity : vec_capacity l.entries ≡ vec_capacity l.fn.entries;
  within : l.at ≤ l.at-end;
  lanes : vec_len l.tops ≡ 4096;
}
