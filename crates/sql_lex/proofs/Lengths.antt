-- Lengths of runs.
use Rattle.std.proofs.lemmas.List.Sums.{prefix_len-le-length}

pub ruleset lengths = (prefix_len-le-length)
