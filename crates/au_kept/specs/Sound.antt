-- What is so of all that is kept, in every state that frames lead to.
use Rattle.au_entries.specs.declared.kept.Kept.{Kept}
use Rattle.au_entries.specs.Lawful.{IsLawful, IsWhole}
use Rattle.au_entries.specs.Replaying.{Conditions}
use Rattle.au_image.specs.Image.{IsSpelled}

-- What is kept is lawful, as after each change, is whole, as after each frame, and has a spelling. That SYS is a user isn't
-- among it, since nothing is kept before the first frame; it is so after each frame.
pub record IsKept (conditions : Conditions) (kept : Kept) : Type 0 where
  pub lawful : IsLawful conditions kept
  pub whole : IsWhole kept
  pub spelled : IsSpelled kept
