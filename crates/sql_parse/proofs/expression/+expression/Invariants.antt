use Rattle.std.proofs.Common.{◌≡◌, ◌+◌, ◌-◌, ◌*◌, [], ◌∷◌, length}
use Rattle.std.specs.Prelude.{codes}
use Rattle.sql_lex.specs.declared.token.Kind.TheVariants.{Word}
use Rattle.sql_parse.specs.Symbols.{kinds, sees, star, comma}
use Rattle.sql_parse.specs.descent.Reading.{◌>>=◌, many, after, parted, signed, summand}
use Rattle.sql_parse.specs.descent.Reading as spec
use Rattle.sql_parse.proofs.expression.+expression.Given as goal

abbrev pub decreases-inside : goal.decreases-inside
decreases-inside l = 20 * l.depth

abbrev pub decreases-atom : goal.decreases-atom
decreases-atom l = 20 * l.depth + 1

abbrev pub decreases-factor : goal.decreases-factor
decreases-factor l = 20 * l.depth + 2

abbrev pub decreases-product : goal.decreases-product
decreases-product l = 20 * l.depth + 3

abbrev pub decreases-term : goal.decreases-term
decreases-term l = 20 * l.depth + 4

abbrev pub decreases-summation : goal.decreases-summation
decreases-summation l = 20 * l.depth + 5

abbrev pub decreases-sum : goal.decreases-sum
decreases-sum l = 20 * l.depth + 6

abbrev pub decreases-sums : goal.decreases-sums
decreases-sums l = 20 * l.depth + 7

abbrev pub decreases-tested : goal.decreases-tested
decreases-tested l = 20 * l.depth + 8

abbrev pub decreases-unit : goal.decreases-unit
decreases-unit l = 20 * l.depth + 9

abbrev pub decreases-conj : goal.decreases-conj
decreases-conj l = 20 * l.depth + 10

abbrev pub decreases-cond : goal.decreases-cond
decreases-cond l = 20 * l.depth + 11

abbrev pub invariant-cond-loop-turn : goal.invariant-cond-loop-turn
invariant-cond-loop-turn l =
    parted (Word (codes "OR")) (spec.conj (spec.inside l.fn.depth)) (kinds l.fn.tokens) ≡ many (sees (Word (codes "OR"))) (after (spec.conj (spec.inside l.fn.depth))) (l._turn-end - l._turn) l.parts (kinds l.rest)

abbrev pub invariant-conj-loop-turn : goal.invariant-conj-loop-turn
invariant-conj-loop-turn l =
    parted (Word (codes "AND")) (spec.unit (spec.inside l.fn.depth)) (kinds l.fn.tokens) ≡ many (sees (Word (codes "AND"))) (after (spec.unit (spec.inside l.fn.depth))) (l._turn-end - l._turn) l.parts (kinds l.rest)

abbrev pub invariant-sums-loop-turn : goal.invariant-sums-loop-turn
invariant-sums-loop-turn l =
    parted (comma) (spec.sum (spec.inside l.fn.depth)) (kinds l.fn.tokens) ≡ many (sees (comma)) (after (spec.sum (spec.inside l.fn.depth))) (l._turn-end - l._turn) l.parts (kinds l.rest)

abbrev pub invariant-product-loop-turn : goal.invariant-product-loop-turn
invariant-product-loop-turn l =
    let factor = spec.factor (spec.inside l.fn.depth) in
    many (sees star) (after factor) (length (kinds l.fn.tokens)) (l.fn.first ∷ []) (kinds l.fn.tokens) ≡ many (sees star) (after factor) (l._turn-end - l._turn) l.parts (kinds l.rest)

abbrev pub invariant-summation-loop-turn : goal.invariant-summation-loop-turn
invariant-summation-loop-turn l =
    let inner = spec.inside l.fn.depth in
    spec.further_summands inner l.fn.first (kinds l.fn.tokens) ≡ many signed (summand inner) (l._turn-end - l._turn) l.parts (kinds l.rest)
