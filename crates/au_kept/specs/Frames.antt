-- When frames of the journal go on from what is kept, and what they make of it (the rule by which a journal is replayed is
-- this project's profile).
use Rattle.std.specs.Prelude.{◌≡◌, ℕ, true, false, ⊤, List, [], ◌∷◌, Some, None}
use Rattle.std.specs.List.{AllByRecursion}
use Rattle.au_entries.specs.declared.kept.Kept.{Kept}
use Rattle.au_entries.specs.Frames.{PartsGoOn, after_parts}
use Rattle.au_entries.specs.Imaging.{nothing}
use Rattle.au_entries.specs.Replaying.{Conditions}
use Rattle.rec_codec.specs.declared.frame.Frame.{Frame}
use Rattle.rec_codec.specs.declared.frame.Frame.TheVariants.{Image, Event, Purge}
use Rattle.sql_ast.specs.declared.expression.Expr.{Expr}

-- the frame goes on from what is kept
abbrev pub IsReplayable : Conditions → Kept → Frame → Type 0
IsReplayable conditions kept (Image last changes records) = PartsGoOn conditions true kept last changes
IsReplayable conditions kept (Event stamp changes records) = PartsGoOn conditions false kept stamp changes
IsReplayable conditions kept (Purge stamp before changes records) = PartsGoOn conditions false kept stamp changes

-- what is kept after the frame: a purge takes records away before its own follow
abbrev pub after_frame : (List ℕ → Expr) → Kept → Frame → Kept
after_frame tree kept (Image last changes records) = after_parts tree last None changes records kept
after_frame tree kept (Event stamp changes records) = after_parts tree stamp None changes records kept
after_frame tree kept (Purge stamp before changes records) = after_parts tree stamp (Some before) changes records kept

-- the frame is an image
abbrev pub IsImage : Frame → Type 0
IsImage (Image last changes records) = ⊤
IsImage (Event stamp changes records) = ⊥
IsImage (Purge stamp before changes records) = ⊥

-- the frames lead from what is kept to this: each goes on from what those before it leave
abbrev pub LeadTo : Conditions → Kept → List Frame → Kept → Type 0
LeadTo conditions kept [] next = kept ≡ next
LeadTo conditions kept (frame ∷ frames) next = IsReplayable conditions kept frame × LeadTo conditions (after_frame conditions.tree kept frame) frames next

-- What the frames of a journal leave: the first is an image, no other is, and they lead from nothing to this.
abbrev pub Replays : Conditions → List Frame → Kept → Type 0
Replays conditions [] kept = ⊥
Replays conditions (frame ∷ frames) kept = IsImage frame × AllByRecursion (λ other. ¬ IsImage other) frames × LeadTo conditions nothing (frame ∷ frames) kept
