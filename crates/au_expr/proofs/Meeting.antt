-- An AND is Yes exactly where each part of it is.
use Rattle.std.proofs.Common.{◌≡◌, ◌∙◌, refl, ap, Bool, true, false, List, [], ◌∷◌, map, if◌then◌else◌, sym, ◌&&◌}
use Rattle.std.specs.List.{list_all, list_any}
use Rattle.au_base.specs.declared.truth.Truth.{Truth}
use Rattle.au_base.specs.declared.truth.Truth.TheVariants.{No, Unknown, Yes}
use Rattle.au_base.specs.Truths.{conjunction}
use Rattle.au_base.specs.declared.cell.Cell.{Cell}
use Rattle.au_expr.specs.declared.placed.Placed.{Placed}
use Rattle.au_expr.specs.declared.placed.Placed.TheVariants as tree
use Rattle.au_expr.specs.declared.placed.Placed.TheOpen as placed_part
use Rattle.au_expr.specs.declared.placed.Placed.TheFolds.{fold-roll-Placed}
use Rattle.au_expr.specs.Placing.{step, value_at, values_at}
use Rattle.au_expr.specs.Sessions.{Session}
use Rattle.au_expr.specs.Operators.{and_value, least}
use Rattle.au_expr.specs.Values.{Value, Is, Holds, Overflows, is_met, is_overflow, truth_in, unless_overflow}

-- an AND of a truth that isn't Yes isn't met
not_met : (t s : Truth) → is_met (Holds t) ≡ false → is_met (Holds (conjunction t s)) ≡ false
not_met No No h = refl
not_met No Unknown h = refl
not_met No Yes h = refl
not_met Unknown No h = refl
not_met Unknown Unknown h = refl
not_met Unknown Yes h = refl
not_met Yes s h = absurd (cc)

yes_and : (t : Truth) → conjunction Yes t ≡ t
yes_and No = refl
yes_and Unknown = refl
yes_and Yes = refl

unless_not : (b : Bool) (t : Truth) → is_met (Holds t) ≡ false → is_met (if b then Overflows else Holds t) ≡ false
unless_not true t h = refl
unless_not false t h = h

pub met : (parts : List Value) → is_met (and_value parts) ≡ list_all is_met parts
met [] = refl
met (Overflows ∷ parts) = refl
met (Is c ∷ parts) = unless_not (list_any is_overflow parts) (conjunction Unknown (least (map truth_in parts))) (not_met Unknown (least (map truth_in parts)) refl)
met (Holds No ∷ parts) = unless_not (list_any is_overflow parts) (conjunction No (least (map truth_in parts))) (not_met No (least (map truth_in parts)) refl)
met (Holds Unknown ∷ parts) = unless_not (list_any is_overflow parts) (conjunction Unknown (least (map truth_in parts))) (not_met Unknown (least (map truth_in parts)) refl)
met (Holds Yes ∷ parts) = ap (λ t. is_met (unless_overflow parts (Holds t))) (yes_and (least (map truth_in parts))) ∙ met parts

mapped : (rows : List (List Cell)) (session : Session) (parts : List Placed) → list_all is_met (values_at rows session parts) ≡ list_all (λ (part : Placed). is_met (value_at rows session part)) parts
mapped rows session [] = refl
mapped rows session (part ∷ parts) = ap (λ b. is_met (value_at rows session part) && b) (mapped rows session parts)

pub met_trees : (parts : List Placed) (session : Session) (rows : List (List Cell))
    → is_met (value_at rows session (tree.And parts)) ≡ list_all (λ (part : Placed). is_met (value_at rows session part)) parts
met_trees parts session rows =
    ap is_met (ap (value_at rows session) (sym (tree.rolls-And parts)) ∙ fold-roll-Placed Value (step rows session) (placed_part.And parts))
    ∙ met (values_at rows session parts) ∙ mapped rows session parts
