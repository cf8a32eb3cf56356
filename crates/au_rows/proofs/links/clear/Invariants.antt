use Rattle.std.proofs.Common.{◌≡◌, ◌<◌, ◌≤◌, ℕ, None, get_or, vec_len}
use Rattle.au_rows.proofs.links.clear.Given as goal

abbrev pub invariant-loop-lane : goal.invariant-loop-lane
invariant-loop-lane l = record {
  none : (lane : ℕ) → lane < l.lane → get_or l.tops.items lane None ≡ None;
  len : vec_len l.tops ≡ vec_len l.fn.tops;
  within : l.lane ≤ l.lane-end;
}
