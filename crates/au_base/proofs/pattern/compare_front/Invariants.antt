use Rattle.std.proofs.Common.{length, ◌≤◌}
use denote.Text.{Utf8}
use denote.Shadow.{shadow}
use Rattle.std.specs.Str.{chars}
use Rattle.au_base.specs.Likes.{GoOn}
use Rattle.au_base.proofs.pattern.compare_front.Given as goal

abbrev pub invariant-loop-later_names : goal.invariant-loop-later_names
invariant-loop-later_names l =
    shadow (Utf8 l.rest) × shadow (Utf8 l.names) × GoOn (chars l.pattern) (chars l.text) (chars l.names) (chars l.rest) × (length l.rest ≤ length l.text) × (length l.names ≤ length l.pattern)

abbrev pub decreases-loop-later_names : goal.decreases-loop-later_names
decreases-loop-later_names l = length l.names
