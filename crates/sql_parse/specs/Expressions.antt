-- The grammar of expressions and conditions, rule by rule (SQL Language Reference, "Expressions", "Conditions" and
-- "SYS_CONTEXT"; the choice of rules is this project's profile).
use Rattle.std.specs.Prelude.{◌≡◌, ℕ, zero, suc, Bool, true, false, List, [], ◌∷◌, Some, None, codes, map}
use Rattle.sql_lex.specs.declared.token.Kind.{Kind}
use Rattle.sql_lex.specs.declared.token.Kind.TheVariants.{Word, Quoted, Number, Text, Mark}
use Rattle.sql_ast.specs.declared.context.Attribute.{Attribute}
use Rattle.sql_ast.specs.declared.expression.Expr.{Expr}
use Rattle.sql_ast.specs.declared.expression.Expr.TheVariants as e
use Rattle.sql_ast.specs.declared.expression.Relation.{Relation}
use Rattle.sql_ast.specs.declared.expression.Relation.TheVariants as relation
use Rattle.sql_ast.specs.Attributes.{attribute_name, namespace}
use Rattle.std.specs.Char.{to_ascii_uppercase}
use Rattle.au_base.specs.Moments.{TellsMoment}
use Rattle.sql_lex.specs.declared.token.Mark.TheVariants as mark
use Rattle.sql_parse.specs.Symbols.{opening, closing, star, plus, comma, minus, dot, is_free}
use Rattle.sql_parse.specs.Rules.{Many, Parted}

-- a quoted name, or a word that isn't reserved
pub data IsName : Kind → List ℕ → Type 0 where
  quoted : {n : List ℕ} → IsName (Quoted n) n
  word : {w : List ℕ} → is_free w ≡ true → IsName (Word w) w

-- column = [name .] name
pub data Column : List Kind → Expr → List Kind → Type 0 where
  bare : {k : Kind} {n : List ℕ} {o : List Kind} → IsName k n → Column (k ∷ o) (e.Column None n) o
  qualified : {k l : Kind} {t n : List ℕ} {o : List Kind} → IsName k t → IsName l n → Column (k ∷ dot ∷ l ∷ o) (e.Column (Some t) n) o

-- one part alone, or all of them under one node
abbrev pub joined : (List Expr → Expr) → List Expr → Expr
joined make (x ∷ []) = x
joined make xs = make xs

-- `x {k x}`, as one part alone or as all of them under one node
pub data Joined (k : Kind) (make : List Expr → Expr) (Item : List Kind → Expr → List Kind → Type 0) : List Kind → Expr → List Kind → Type 0 where
  joins : {i o : List Kind} {xs : List Expr} → Parted k Item i xs o → Joined k make Item i (joined make xs) o

-- a summand alone, or all of them
abbrev pub summed : List (Bool × Expr) → Expr
summed (x ∷ []) = x.1
summed xs = e.Sum xs

-- compare = = | <> | != | < | <= | > | >=
pub data Compare : Kind → Relation → Type 0 where
  equal : Compare (Mark mark.Equal) relation.Equal
  unequal : Compare (Mark mark.LessGreater) relation.Unequal
  unequal_too : Compare (Mark mark.NotEqual) relation.Unequal
  less : Compare (Mark mark.Less) relation.Less
  less_equal : Compare (Mark mark.LessEqual) relation.LessEqual
  greater : Compare (Mark mark.Greater) relation.Greater
  greater_equal : Compare (Mark mark.GreaterEqual) relation.GreaterEqual

-- [NOT], and whether it stands there
pub data Negation : List Kind → Bool → List Kind → Type 0 where
  plain : {o : List Kind} → Negation o false o
  negated : {o : List Kind} → Negation (Word (codes "NOT") ∷ o) true o

-- in upper case
abbrev pub upper : List ℕ → List ℕ
upper text = map to_ascii_uppercase text

-- the name of an attribute that SYS_CONTEXT tells
abbrev pub IsAttribute : List ℕ → Type 0
IsAttribute t = (attribute : Attribute) × (t ≡ attribute_name attribute)

-- `Inner` is the rule of a condition within parentheses.
module _ (Inner : List Kind → Expr → List Kind → Type 0) where
  -- atom = number | literal | NULL | column | USER | SYSTIMESTAMP | TIMESTAMP literal
  --      | SYS_CONTEXT ( literal , literal ) | ( cond )
  pub data Atom : List Kind → Expr → List Kind → Type 0 where
    number : {n : _} {o : List Kind} → Atom (Number n ∷ o) (e.Number n) o
    literal : {t : List ℕ} {o : List Kind} → Atom (Text t ∷ o) (e.Literal t) o
    null : {o : List Kind} → Atom (Word (codes "NULL") ∷ o) e.Null o
    user : {o : List Kind} → Atom (Word (codes "USER") ∷ o) e.User o
    now : {o : List Kind} → Atom (Word (codes "SYSTIMESTAMP") ∷ o) e.Now o
    column : {i o : List Kind} {x : Expr} → Column i x o → Atom i x o
    moment : {t : List ℕ} {m : ℕ} {o : List Kind} → TellsMoment t m → Atom (Word (codes "TIMESTAMP") ∷ Text t ∷ o) (e.Moment m) o
    context : {n t : List ℕ} {o : List Kind} → upper n ≡ namespace → IsAttribute (upper t)
        → Atom (Word (codes "SYS_CONTEXT") ∷ opening ∷ Text n ∷ comma ∷ Text t ∷ closing ∷ o) (e.Context (upper t)) o
    inner : {i o : List Kind} {x : Expr} → Inner i x (closing ∷ o) → Atom (opening ∷ i) x o

  -- factor = [-] atom
  pub data Factor : List Kind → Expr → List Kind → Type 0 where
    plain : {i o : List Kind} {x : Expr} → Atom i x o → Factor i x o
    negated : {i o : List Kind} {x : Expr} → Atom i x o → Factor (minus ∷ i) (e.Negate x) o

  -- term = factor {* factor}
  abbrev pub Term : List Kind → Expr → List Kind → Type 0
  Term = Joined star e.Product Factor

  -- (+ | -) term, and whether it is taken away
  pub data Summand : List Kind → Bool × Expr → List Kind → Type 0 where
    added : {i o : List Kind} {x : Expr} → Term i x o → Summand (plus ∷ i) (false, x) o
    subtracted : {i o : List Kind} {x : Expr} → Term i x o → Summand (minus ∷ i) (true, x) o

  -- sum = term {(+ | -) term}
  pub data Sum : List Kind → Expr → List Kind → Type 0 where
    sums : {i m o : List Kind} {x : Expr} {xs : List (Bool × Expr)} → Term i x m → Many Summand m xs o → Sum i (summed ((false, x) ∷ xs)) o

  -- test = sum [ compare sum | IS [NOT] NULL | [NOT] LIKE sum | [NOT] IN ( sum {, sum} ) | [NOT] BETWEEN sum AND sum ]
  pub data Test : List Kind → Expr → List Kind → Type 0 where
    alone : {i o : List Kind} {x : Expr} → Sum i x o → Test i x o
    compares : {i m o : List Kind} {x y : Expr} {k : Kind} {r : Relation} → Sum i x (k ∷ m) → Compare k r → Sum m y o → Test i (e.Compare r x y) o
    is_null : {i m o : List Kind} {x : Expr} {b : Bool} → Sum i x (Word (codes "IS") ∷ m) → Negation m b (Word (codes "NULL") ∷ o) → Test i (e.IsNull x b) o
    like : {i m n o : List Kind} {x y : Expr} {b : Bool} → Sum i x m → Negation m b (Word (codes "LIKE") ∷ n) → Sum n y o → Test i (e.Like x y b) o
    within : {i m n o : List Kind} {x : Expr} {ys : List Expr} {b : Bool} → Sum i x m → Negation m b (Word (codes "IN") ∷ opening ∷ n) → Parted comma Sum n ys (closing ∷ o) → Test i (e.In x ys b) o
    between : {i m n p o : List Kind} {x low high : Expr} {b : Bool} → Sum i x m → Negation m b (Word (codes "BETWEEN") ∷ n) → Sum n low (Word (codes "AND") ∷ p) → Sum p high o → Test i (e.Between x low high b) o

  -- unit = [NOT] test
  pub data IsUnit : List Kind → Expr → List Kind → Type 0 where
    plain : {i o : List Kind} {x : Expr} → Test i x o → IsUnit i x o
    negated : {i o : List Kind} {x : Expr} → Test i x o → IsUnit (Word (codes "NOT") ∷ i) (e.Not x) o

  -- conj = unit {AND unit}
  abbrev pub Conj : List Kind → Expr → List Kind → Type 0
  Conj = Joined (Word (codes "AND")) e.And IsUnit

  -- cond = conj {OR conj}
  abbrev pub Cond : List Kind → Expr → List Kind → Type 0
  Cond = Joined (Word (codes "OR")) e.Or Conj

-- a condition within parentheses, which nests this deep at most
abbrev pub Within : ℕ → List Kind → Expr → List Kind → Type 0
Within zero i x o = ⊥
Within (suc n) i x o = Cond (Within n) i x o
