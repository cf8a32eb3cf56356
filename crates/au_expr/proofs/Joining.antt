-- Truths that are joined one by one, from the left, are what all of them give together.
use Rattle.std.proofs.Common.{◌≡◌, ◌∙◌, refl, sym, ap, Bool, true, false, List, [], ◌∷◌, map, if◌then◌else◌}
use Rattle.std.specs.List.{list_any}
use Rattle.au_base.specs.declared.cell.Cell.{Cell}
use Rattle.au_base.specs.declared.truth.Truth.{Truth}
use Rattle.au_base.specs.declared.truth.Truth.TheVariants.{No, Unknown, Yes}
use Rattle.au_base.specs.Truths.{conjunction, disjunction}
use Rattle.sql_ast.specs.declared.expression.Relation.TheVariants as relation
use Rattle.au_expr.specs.Descent.{joined, all_from, any_from, among_from, turned_value}
use Rattle.au_expr.specs.Operators.{least, greatest, and_value, or_value, in_value, between_value, compare_value, compared, turned, among}
use Rattle.au_expr.specs.Values.{Value, Is, Holds, Overflows, truth_in, cell_in, is_overflow, unless_overflow}

pub between_is : (negated : Bool) (part low high : Value)
    → turned_value negated (joined conjunction (compare_value relation.GreaterEqual part low) (compare_value relation.LessEqual part high)) ≡ between_value negated part low high
between_is negated Overflows low high = refl
between_is negated (Is a) Overflows high = refl
between_is negated (Is a) (Is b) Overflows = refl
between_is negated (Is a) (Is b) (Is c) = refl
between_is negated (Is a) (Is b) (Holds t) = refl
between_is negated (Is a) (Holds s) Overflows = refl
between_is negated (Is a) (Holds s) (Is c) = refl
between_is negated (Is a) (Holds s) (Holds t) = refl
between_is negated (Holds r) Overflows high = refl
between_is negated (Holds r) (Is b) Overflows = refl
between_is negated (Holds r) (Is b) (Is c) = refl
between_is negated (Holds r) (Is b) (Holds t) = refl
between_is negated (Holds r) (Holds s) Overflows = refl
between_is negated (Holds r) (Holds s) (Is c) = refl
between_is negated (Holds r) (Holds s) (Holds t) = refl

and_assoc : (a b c : Truth) → conjunction (conjunction a b) c ≡ conjunction a (conjunction b c)
and_assoc No No No = refl
and_assoc No No Unknown = refl
and_assoc No No Yes = refl
and_assoc No Unknown No = refl
and_assoc No Unknown Unknown = refl
and_assoc No Unknown Yes = refl
and_assoc No Yes No = refl
and_assoc No Yes Unknown = refl
and_assoc No Yes Yes = refl
and_assoc Unknown No No = refl
and_assoc Unknown No Unknown = refl
and_assoc Unknown No Yes = refl
and_assoc Unknown Unknown No = refl
and_assoc Unknown Unknown Unknown = refl
and_assoc Unknown Unknown Yes = refl
and_assoc Unknown Yes No = refl
and_assoc Unknown Yes Unknown = refl
and_assoc Unknown Yes Yes = refl
and_assoc Yes No No = refl
and_assoc Yes No Unknown = refl
and_assoc Yes No Yes = refl
and_assoc Yes Unknown No = refl
and_assoc Yes Unknown Unknown = refl
and_assoc Yes Unknown Yes = refl
and_assoc Yes Yes No = refl
and_assoc Yes Yes Unknown = refl
and_assoc Yes Yes Yes = refl

or_assoc : (a b c : Truth) → disjunction (disjunction a b) c ≡ disjunction a (disjunction b c)
or_assoc No No No = refl
or_assoc No No Unknown = refl
or_assoc No No Yes = refl
or_assoc No Unknown No = refl
or_assoc No Unknown Unknown = refl
or_assoc No Unknown Yes = refl
or_assoc No Yes No = refl
or_assoc No Yes Unknown = refl
or_assoc No Yes Yes = refl
or_assoc Unknown No No = refl
or_assoc Unknown No Unknown = refl
or_assoc Unknown No Yes = refl
or_assoc Unknown Unknown No = refl
or_assoc Unknown Unknown Unknown = refl
or_assoc Unknown Unknown Yes = refl
or_assoc Unknown Yes No = refl
or_assoc Unknown Yes Unknown = refl
or_assoc Unknown Yes Yes = refl
or_assoc Yes No No = refl
or_assoc Yes No Unknown = refl
or_assoc Yes No Yes = refl
or_assoc Yes Unknown No = refl
or_assoc Yes Unknown Unknown = refl
or_assoc Yes Unknown Yes = refl
or_assoc Yes Yes No = refl
or_assoc Yes Yes Unknown = refl
or_assoc Yes Yes Yes = refl

and_unit : (t : Truth) → conjunction t Yes ≡ t
and_unit No = refl
and_unit Unknown = refl
and_unit Yes = refl

or_unit : (t : Truth) → disjunction t No ≡ t
or_unit No = refl
or_unit Unknown = refl
or_unit Yes = refl

unit_and : (t : Truth) → conjunction Yes t ≡ t
unit_and No = refl
unit_and Unknown = refl
unit_and Yes = refl

unit_or : (t : Truth) → disjunction No t ≡ t
unit_or No = refl
unit_or Unknown = refl
unit_or Yes = refl

-- an overflow stays one
all_overflow : (vs : List Value) → all_from Overflows vs ≡ Overflows
all_overflow [] = refl
all_overflow (v ∷ vs) = all_overflow vs

any_overflow : (vs : List Value) → any_from Overflows vs ≡ Overflows
any_overflow [] = refl
any_overflow (v ∷ vs) = any_overflow vs

all_after : (t : Truth) (vs : List Value) → all_from (Holds t) vs ≡ unless_overflow vs (Holds (conjunction t (least (map truth_in vs))))
all_after t [] = ap Holds (sym (and_unit t))
all_after t (Overflows ∷ vs) = all_overflow vs
all_after t (Is c ∷ vs) = all_after (conjunction t Unknown) vs ∙ ap (λ s. unless_overflow vs (Holds s)) (and_assoc t Unknown (least (map truth_in vs)))
all_after t (Holds s ∷ vs) = all_after (conjunction t s) vs ∙ ap (λ s. unless_overflow vs (Holds s)) (and_assoc t s (least (map truth_in vs)))

any_after : (t : Truth) (vs : List Value) → any_from (Holds t) vs ≡ unless_overflow vs (Holds (disjunction t (greatest (map truth_in vs))))
any_after t [] = ap Holds (sym (or_unit t))
any_after t (Overflows ∷ vs) = any_overflow vs
any_after t (Is c ∷ vs) = any_after (disjunction t Unknown) vs ∙ ap (λ s. unless_overflow vs (Holds s)) (or_assoc t Unknown (greatest (map truth_in vs)))
any_after t (Holds s ∷ vs) = any_after (disjunction t s) vs ∙ ap (λ s. unless_overflow vs (Holds s)) (or_assoc t s (greatest (map truth_in vs)))

pub all_is : (vs : List Value) → all_from (Holds Yes) vs ≡ and_value vs
all_is vs = all_after Yes vs ∙ ap (λ s. unless_overflow vs (Holds s)) (unit_and (least (map truth_in vs)))

pub any_is : (vs : List Value) → any_from (Holds No) vs ≡ or_value vs
any_is vs = any_after No vs ∙ ap (λ s. unless_overflow vs (Holds s)) (unit_or (greatest (map truth_in vs)))

-- IN
among_overflow : (w : Value) (vs : List Value) → among_from w Overflows vs ≡ Overflows
among_overflow w [] = refl
among_overflow w (v ∷ vs) = among_overflow w vs

abbrev equalities : Cell → List Value → Truth
equalities a vs = among a (map cell_in vs)

among_after : (w : Value) → is_overflow w ≡ false → (t : Truth) (vs : List Value)
    → among_from w (Holds t) vs ≡ unless_overflow vs (Holds (disjunction t (equalities (cell_in w) vs)))
among_after w known t [] = ap Holds (sym (or_unit t))
among_after Overflows known t (v ∷ vs) = absurd (cc)
among_after (Is a) known t (Overflows ∷ vs) = among_overflow (Is a) vs
among_after (Is a) known t (Is b ∷ vs) =
    among_after (Is a) known (disjunction t (compared relation.Equal a b)) vs
    ∙ ap (λ s. unless_overflow vs (Holds s)) (or_assoc t (compared relation.Equal a b) (equalities a vs))
among_after (Is a) known t (Holds s ∷ vs) =
    among_after (Is a) known (disjunction t (compared relation.Equal a (cell_in (Holds s)))) vs
    ∙ ap (λ s. unless_overflow vs (Holds s)) (or_assoc t (compared relation.Equal a (cell_in (Holds s))) (equalities a vs))
among_after (Holds r) known t (Overflows ∷ vs) = among_overflow (Holds r) vs
among_after (Holds r) known t (Is b ∷ vs) =
    among_after (Holds r) known (disjunction t (compared relation.Equal (cell_in (Holds r)) b)) vs
    ∙ ap (λ s. unless_overflow vs (Holds s)) (or_assoc t (compared relation.Equal (cell_in (Holds r)) b) (equalities (cell_in (Holds r)) vs))
among_after (Holds r) known t (Holds s ∷ vs) =
    among_after (Holds r) known (disjunction t (compared relation.Equal (cell_in (Holds r)) (cell_in (Holds s)))) vs
    ∙ ap (λ s. unless_overflow vs (Holds s)) (or_assoc t (compared relation.Equal (cell_in (Holds r)) (cell_in (Holds s))) (equalities (cell_in (Holds r)) vs))

turned_unless : (negated : Bool) (vs : List Value) (t : Truth) → turned_value negated (unless_overflow vs (Holds t)) ≡ unless_overflow vs (Holds (turned negated t))
turned_unless negated vs t = by_case (list_any is_overflow vs)
  where
    by_case : (b : Bool) → turned_value negated (if b then Overflows else Holds t) ≡ (if b then Overflows else Holds (turned negated t))
    by_case true = refl
    by_case false = refl

pub among_is : (negated : Bool) (w : Value) (vs : List Value)
    → turned_value negated (among_from w (unless_overflow (w ∷ []) (Holds No)) vs) ≡ in_value negated w vs
among_is negated Overflows vs = ap (turned_value negated) (among_overflow Overflows vs)
among_is negated (Is a) vs =
    ap (turned_value negated) (among_after (Is a) refl No vs ∙ ap (λ s. unless_overflow vs (Holds s)) (unit_or (equalities a vs)))
    ∙ turned_unless negated vs (equalities a vs)
among_is negated (Holds r) vs =
    ap (turned_value negated) (among_after (Holds r) refl No vs ∙ ap (λ s. unless_overflow vs (Holds s)) (unit_or (equalities (cell_in (Holds r)) vs)))
    ∙ turned_unless negated vs (equalities (cell_in (Holds r)) vs)
