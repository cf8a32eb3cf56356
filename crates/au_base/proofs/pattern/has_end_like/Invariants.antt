use Rattle.std.proofs.Common.{length, ◌+◌, ◌∷◌, ◌↔◌}
use denote.Text.{Utf8}
use denote.Shadow.{shadow}
use Rattle.std.specs.Str.{chars}
use Rattle.au_base.specs.Likes.{IsLike}
use Rattle.au_base.proofs.pattern.has_end_like.Given as goal

abbrev pub invariant-loop-later_end : goal.invariant-loop-later_end
invariant-loop-later_end l =
    shadow (Utf8 l.end) × shadow (Utf8 l.wanted) × (IsLike (37 ∷ chars l.pattern) (chars l.text) ↔ IsLike (37 ∷ chars l.wanted) (chars l.end))

abbrev pub decreases-loop-later_end : goal.decreases-loop-later_end
decreases-loop-later_end l = length l.end + length l.wanted
