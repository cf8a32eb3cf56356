-- Which rows of a table suffice for conditions over it.
use Rattle.std.proofs.Common.{◌≡◌, ◌∙◌, inr, List, [], ◌∷◌, refl, sym, subst}
use Rattle.std.specs.List.{AllByRecursion, Contains}
use Rattle.au_base.specs.declared.table.TableName.{TableName}
use Rattle.au_expr.specs.declared.placed.Placed.{Placed}
use Rattle.au_expr.specs.Sessions.{Session}
use Rattle.au_query.specs.Combos.{IsSoundLine, Line}
use Rattle.au_query.specs.Fixed.{NeverOverflows}
use Rattle.au_world.specs.Cutting.{IsCut, Suffices}
use Rattle.au_world.specs.Selecting.{Seen}
use Rattle.au_world.proofs.CutCounts.{same_passing}
use Rattle.au_world.proofs.LookUps.{part_sound}
use Rattle.au_world.proofs.Members.{kept}

-- the whole table does
pub whole_suffices : (session : Session) (conditions : List Placed) (whole rows : List Line) → rows ≡ whole → AllByRecursion IsSoundLine rows → Suffices session conditions whole rows
whole_suffices session conditions whole rows are sound =
    subst (λ all. Suffices session conditions all rows) are (record { passing = refl; overflowing = refl; sound = sound; seen = λ line has. has })

-- and what is left of it where the rest can't take part, and the conditions can't overflow
pub part_suffices : (session : Session) (conditions : List Placed) (names : List TableName) (whole part : Seen)
    → IsCut session conditions names 0 whole part → NeverOverflows session conditions → AllByRecursion IsSoundLine whole.1
    → Suffices session conditions whole.1 part.1
part_suffices session conditions names whole part cut never sound =
    let sound_part = part_sound session conditions names (0, whole) part (inr cut) sound in
    record {
      passing = same_passing session conditions names whole part cut;
      overflowing = never (part.1 ∷ []) (sound_part, tt) ∙ sym (never (whole.1 ∷ []) (sound, tt));
      sound = sound_part;
      seen = λ line has. kept (λ (row : Line). cut.keeps row.0) whole.1 line (subst (λ rows. Contains rows line) cut.rows has);
    }
