use Rattle.std.proofs.Common.{◌≡◌, ◌+◌, drop, option_map}
use Rattle.au_http.specs.HeadWalk.{end_from}
use Rattle.au_http.specs.declared.head_end.Place.TheVariants.{Start}
use Rattle.au_http.proofs.head_end.walk.Given as goal

abbrev pub invariant-loop-i : goal.invariant-loop-i
invariant-loop-i l = end_from Start l.bytes ≡ option_map (λ n. n + l.i) (end_from l.place (drop l.i l.bytes))
