-- Reading queries by descent: what each function of the code answers.
use Rattle.std.specs.Prelude.{ℕ, Bool, true, false, ◌||◌, ◌&&◌, if◌then◌else◌, List, [], length, Option, Some, None, codes}
use Rattle.sql_lex.specs.declared.token.Kind.{Kind}
use Rattle.sql_lex.specs.declared.token.Kind.TheVariants.{Word}
use Rattle.sql_ast.specs.declared.expression.Expr.{Expr}
use Rattle.sql_ast.specs.declared.query.Count.{Count}
use Rattle.sql_ast.specs.declared.query.FromClause.{FromClause}
use Rattle.sql_ast.specs.declared.query.Item.{Item}
use Rattle.sql_ast.specs.declared.query.Items.{Items}
use Rattle.sql_ast.specs.declared.query.Items.TheVariants as items
use Rattle.sql_ast.specs.declared.query.Join.{Join}
use Rattle.sql_ast.specs.declared.query.Select.{Select}
use Rattle.sql_ast.specs.declared.query.SortKey.{SortKey}
use Rattle.sql_parse.specs.Symbols.{sees, opening, closing, star, comma}
use Rattle.sql_parse.specs.descent.Reading.{Reader, ◌>>=◌, under, behind, expect, many, parted, name, sum, cond}
use Rattle.sql_parse.specs.descent.ReadTables.{alias, aliased, clause, past, qualified}
use Rattle.sql_parse.specs.descent.ReadChanges.{filter}

abbrev pub key_of : Option (List ℕ) × List ℕ → Bool → SortKey
key_of q d = record { table = q.0; column = q.1; descending = d }

unfoldable pub order : Reader SortKey
order i = qualified i >>= λ q.
    if sees (Word (codes "DESC")) q.1 then Some (key_of q.0 true, behind q.1) else Some (key_of q.0 false, past (Word (codes "ASC")) q.1)

-- behind ORDER
unfoldable pub orders : Reader (List SortKey)
orders i = expect (Word (codes "BY")) i >>= λ n. parted comma order n

abbrev pub sorted : Reader (Option (List SortKey))
sorted = clause (Word (codes "ORDER")) orders

-- whether another table of FROM comes next
abbrev pub goes_on : List Kind → Bool
goes_on i = sees comma i || sees (Word (codes "INNER")) i || sees (Word (codes "JOIN")) i

-- whether COUNT and its parenthesis come next
abbrev pub counts : List Kind → Bool
counts i = sees (Word (codes "COUNT")) i && sees opening (behind i)

module _ (inner : List Kind → Option (Expr × List Kind)) where
  unfoldable pub item : Reader Item
  item i = sum inner i >>= λ x.
      if sees (Word (codes "AS")) x.1 then under (λ a. record { value = x.0; alias = Some a }) (name (behind x.1))
      else under (λ a. record { value = x.0; alias = a }) (alias x.1)

  unfoldable pub items_at : Reader Items
  items_at i = if sees star i then Some (items.All, behind i) else under items.Listed (parted comma item i)

  -- behind JOIN
  unfoldable pub joined : Reader Join
  joined i = aliased i >>= λ t. expect (Word (codes "ON")) t.1 >>= λ n. under (λ x. record { table = t.0; on = Some x }) (cond inner n)

  unfoldable pub further : Reader Join
  further i =
      if sees comma i then under (λ t. record { table = t; on = None }) (aliased (behind i))
      else (expect (Word (codes "JOIN")) (past (Word (codes "INNER")) i) >>= λ n. joined n)

  unfoldable pub furthers : Reader (List Join)
  furthers i = many goes_on further (length i) [] i

  unfoldable pub from_clause : Reader FromClause
  from_clause i = aliased i >>= λ t. under (λ ts. record { first = t.0; joins = ts }) (furthers t.1)

  -- behind SELECT
  unfoldable pub select : Reader Select
  select i =
      items_at i >>= λ xs. expect (Word (codes "FROM")) xs.1 >>= λ j. from_clause j >>= λ f. filter inner f.1 >>= λ c.
      under (λ s. record { items = xs.0; from = f.0; condition = c.0; order = s }) (sorted c.1)

  -- behind SELECT COUNT and its opening parenthesis
  unfoldable pub count : Reader Count
  count i =
      expect star i >>= λ j. expect closing j >>= λ k. expect (Word (codes "FROM")) k >>= λ m. aliased m >>= λ t.
      under (λ c. record { table = t.0; condition = c }) (filter inner t.1)
