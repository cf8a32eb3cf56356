-- Reading by descent: what each function of the code answers.
use Rattle.std.specs.Prelude.{◌≡◌, ℕ, zero, suc, Bool, false, ◌||◌, ◌&&◌, ◌==◌, if◌then◌else◌, List, [], ◌∷◌, ◌++◌, length, Option, Some, None, Result, Ok, Err, codes}
use Rattle.std.specs.List.{list_any}
use Rattle.std.specs.Str.{bytes_eq}
use Rattle.sql_lex.specs.declared.token.Kind.{Kind}
use Rattle.sql_lex.specs.declared.token.Kind.TheVariants.{Word, Quoted, Number, Text, Mark}
use Rattle.sql_ast.specs.declared.context.Attribute.{Attribute}
use Rattle.sql_ast.specs.declared.expression.Expr.{Expr}
use Rattle.sql_ast.specs.declared.expression.Expr.TheVariants as e
use Rattle.sql_ast.specs.declared.expression.Relation.{Relation}
use Rattle.sql_ast.specs.declared.expression.Relation.TheVariants as relation
use Rattle.sql_ast.specs.Attributes.{attribute_name, each_attribute, namespace}
use Rattle.sql_parse.specs.declared.stop.Stop.{Stop}
use Rattle.sql_parse.specs.declared.stop.Stop.TheVariants as stop
use Rattle.sql_parse.specs.Symbols.{mark_number, sees, opening, closing, star, plus, comma, minus, dot, is_free}
use Rattle.sql_lex.specs.declared.token.Mark.{Mark as MarkName}
use Rattle.sql_lex.specs.declared.token.Mark.TheVariants as mark
use Rattle.sql_parse.specs.Expressions.{joined, summed, upper}
use Rattle.sql_parse.specs.descent.MomentReading.{moment_read}

abbrev pub Reader : Type 0 → Type 0
Reader A = List Kind → Option (A × List Kind)

infixl 10 ◌>>=◌
abbrev pub ◌>>=◌ : {A B : Type 0} → Option A → (A → Option B) → Option B
None >>= f = None
(Some x) >>= f = f x

-- the same reading with another value
abbrev pub under : {A B : Type 0} → (A → B) → Option (A × List Kind) → Option (B × List Kind)
under f None = None
under f (Some x) = Some (f x.0, x.1)

-- what was read, where that is all
abbrev pub whole : {A : Type 0} → Option (A × List Kind) → Option A
whole None = None
whole (Some (x, [])) = Some x
whole (Some (x, t ∷ ts)) = None

-- What a function returned, seen by view, is what reading gives, unless memory ran out.
abbrev pub Fails : {Y : Type 0} → Stop → Option Y → Type 0
Fails stop.Memory read = Unit {0}
Fails stop.Unread read = read ≡ None

abbrev pub Gives : {X Y : Type 0} → (X → Y) → Result X Stop → Option Y → Type 0
Gives view (Ok x) read = read ≡ Some (view x)
Gives view (Err e) read = Fails e read

abbrev pub behind : List Kind → List Kind
behind [] = []
behind (t ∷ ts) = ts

abbrev pub expect : Kind → List Kind → Option (List Kind)
expect k i = if sees k i then Some (behind i) else None

-- The number bounds the turns. Each takes a token, so the count of tokens is enough.
unfoldable pub many : {A : Type 0} → (List Kind → Bool) → Reader A → ℕ → List A → Reader (List A)
many starts item zero found i = Some (found, i)
many starts item (suc n) found i = if starts i then (item i >>= λ x. many starts item n (found ++ x.0 ∷ []) x.1) else Some (found, i)

abbrev pub after : {A : Type 0} → Reader A → Reader A
after item i = item (behind i)

unfoldable pub parted : {A : Type 0} → Kind → Reader A → Reader (List A)
parted k item i = item i >>= λ x. many (sees k) (after item) (length x.1) (x.0 ∷ []) x.1

-- the one part, or all of them where there are others
abbrev pub sole : {A : Type 0} → List A → Result A (List A)
sole [] = Err []
sole (x ∷ []) = Ok x
sole (x ∷ y ∷ zs) = Err (x ∷ y ∷ zs)

abbrev pub name_of : Kind → Option (List ℕ)
name_of (Quoted n) = Some n
name_of (Word w) = if is_free w then Some w else None
name_of _ = None

unfoldable pub name : Reader (List ℕ)
name [] = None
name (k ∷ o) = name_of k >>= λ n. Some (n, o)

unfoldable pub column : Reader Expr
column i = name i >>= λ n. if sees dot n.1 then (name (behind n.1) >>= λ m. Some (e.Column (Some n.0) m.0, m.1)) else Some (e.Column None n.0, n.1)

abbrev pub relation_of_mark : MarkName → Option Relation
relation_of_mark mark.Equal = Some relation.Equal
relation_of_mark mark.LessGreater = Some relation.Unequal
relation_of_mark mark.NotEqual = Some relation.Unequal
relation_of_mark mark.Less = Some relation.Less
relation_of_mark mark.LessEqual = Some relation.LessEqual
relation_of_mark mark.Greater = Some relation.Greater
relation_of_mark mark.GreaterEqual = Some relation.GreaterEqual
relation_of_mark _ = None

abbrev pub relation_of : Kind → Option Relation
relation_of (Mark m) = relation_of_mark m
relation_of _ = None

unfoldable pub relation_at : List Kind → Option Relation
relation_at [] = None
relation_at (k ∷ o) = relation_of k

abbrev pub negates : List Kind → Bool
negates = sees (Word (codes "NOT"))

abbrev pub past_not : List Kind → List Kind
past_not i = if negates i then behind i else i

abbrev pub literal_of : Kind → Option (List ℕ)
literal_of (Text t) = Some t
literal_of _ = None

-- a text literal
unfoldable pub literal : Reader (List ℕ)
literal [] = None
literal (k ∷ o) = literal_of k >>= λ t. Some (t, o)

-- behind TIMESTAMP
unfoldable pub moment : Reader Expr
moment i = literal i >>= λ t. moment_read t.0 >>= λ m. Some (e.Moment m, t.1)

-- whether the attribute has this name
unfoldable pub is_named : List ℕ → Attribute → Bool
is_named t attribute = bytes_eq t (attribute_name attribute)

-- whether an attribute has this name
unfoldable pub is_attribute : List ℕ → Bool
is_attribute t = list_any (is_named t) each_attribute

abbrev pub attribute_of : List ℕ → List ℕ → List Kind → Option (Expr × List Kind)
attribute_of n t o = if bytes_eq (upper n) namespace && is_attribute (upper t) then Some (e.Context (upper t), o) else None

-- behind the opening parenthesis of SYS_CONTEXT
unfoldable pub context : Reader Expr
context i = literal i >>= λ n. expect comma n.1 >>= λ m. literal m >>= λ t. expect closing t.1 >>= λ o. attribute_of n.0 t.0 o

-- what a word begins
unfoldable pub worded_atom : Reader Expr
worded_atom i =
    if sees (Word (codes "NULL")) i then Some (e.Null, behind i) else (if sees (Word (codes "USER")) i then Some (e.User, behind i)
    else (if sees (Word (codes "SYSTIMESTAMP")) i then Some (e.Now, behind i) else (if sees (Word (codes "TIMESTAMP")) i then moment (behind i)
    else (if sees (Word (codes "SYS_CONTEXT")) i && sees opening (behind i) then context (behind (behind i)) else column i))))

-- whether a sign comes next
abbrev pub signed : List Kind → Bool
signed i = sees plus i || sees minus i

module _ (inner : List Kind → Option (Expr × List Kind)) where
  abbrev pub parenthesized : Reader Expr
  parenthesized i = inner i >>= λ x. expect closing x.1 >>= λ o. Some (x.0, o)

  unfoldable pub atom : Reader Expr
  atom [] = None
  atom (Number n ∷ o) = Some (e.Number n, o)
  atom (Text t ∷ o) = Some (e.Literal t, o)
  atom (Mark m ∷ o) = if mark_number m == 0 then parenthesized o else None
  atom (Quoted n ∷ o) = column (Quoted n ∷ o)
  atom (Word w ∷ o) = worded_atom (Word w ∷ o)

  unfoldable pub factor : Reader Expr
  factor i = if sees minus i then under e.Negate (atom (behind i)) else atom i

  unfoldable pub term : Reader Expr
  term i = under (joined e.Product) (parted star factor i)

  -- behind the first factor of a term
  unfoldable pub product : Expr → Reader Expr
  product x i = under (joined e.Product) (many (sees star) (after factor) (length i) (x ∷ []) i)

  abbrev pub summand : Reader (Bool × Expr)
  summand i = under (λ x. (sees minus i, x)) (term (behind i))

  unfoldable pub summands : Reader (List (Bool × Expr))
  summands i = term i >>= λ x. many signed summand (length x.1) ((false, x.0) ∷ []) x.1

  -- behind the first term of a sum
  unfoldable pub further_summands : Expr → Reader (List (Bool × Expr))
  further_summands x i = many signed summand (length i) ((false, x) ∷ []) i

  unfoldable pub summation : Expr → Reader Expr
  summation x i = under summed (further_summands x i)

  unfoldable pub sum : Reader Expr
  sum i = under summed (summands i)

  abbrev pub is_null : Expr → Reader Expr
  is_null x i = expect (Word (codes "NULL")) (past_not i) >>= λ o. Some (e.IsNull x (negates i), o)

  abbrev pub like : Expr → Bool → Reader Expr
  like x b i = under (λ y. e.Like x y b) (sum i)

  unfoldable pub within : Expr → Bool → Reader Expr
  within x b i = expect opening i >>= λ n. parted comma sum n >>= λ ys. expect closing ys.1 >>= λ o. Some (e.In x ys.0 b, o)

  unfoldable pub between : Expr → Bool → Reader Expr
  between x b i = sum i >>= λ low. expect (Word (codes "AND")) low.1 >>= λ n. under (λ high. e.Between x low.0 high b) (sum n)

  abbrev pub worded : Expr → List Kind → Bool → Reader Expr
  worded x i b j =
      if sees (Word (codes "LIKE")) j then like x b (behind j) else (if sees (Word (codes "IN")) j then within x b (behind j)
      else (if sees (Word (codes "BETWEEN")) j then between x b (behind j) else (if b then None else Some (x, i))))

  abbrev pub tested_by : Expr → List Kind → Option Relation → Option (Expr × List Kind)
  tested_by x i (Some r) = under (e.Compare r x) (sum (behind i))
  tested_by x i None = if sees (Word (codes "IS")) i then is_null x (behind i) else worded x i (negates i) (past_not i)

  unfoldable pub tested : Expr → Reader Expr
  tested x i = tested_by x i (relation_at i)

  unfoldable pub testing : Reader Expr
  testing i = sum i >>= λ x. tested x.0 x.1

  unfoldable pub unit : Reader Expr
  unit i = if negates i then under e.Not (testing (behind i)) else testing i

  unfoldable pub conj : Reader Expr
  conj i = under (joined e.And) (parted (Word (codes "AND")) unit i)

  unfoldable pub cond : Reader Expr
  cond i = under (joined e.Or) (parted (Word (codes "OR")) conj i)

unfoldable pub inside : ℕ → Reader Expr
inside zero i = None
inside (suc n) i = cond (inside n) i
