use Rattle.std.proofs.Common.{◌≡◌, ◌≤◌, ℕ, Option, vec_len, vec_capacity}
use Rattle.au_rows.specs.Links.{Linked, live}
use Rattle.au_rows.proofs.links.trim.Given as goal

abbrev pub invariant-loop-turn : goal.invariant-loop-turn
invariant-loop-turn l = record {
  linked : (tops : ℕ → Option ℕ) → Linked l.fn.entries.items tops (vec_len l.fn.entries) → Linked l.entries.items tops (vec_len l.entries);
  live : live l.entries.items ≡ live l.fn.entries.items;
  len : vec_len l.entries ≤ vec_len l.fn.entries;
  capacity : vec_capacity l.entries ≡ vec_capacity l.fn.entries;
}
