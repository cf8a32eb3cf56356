-- A row statement whose tokens open few parentheses nests no deeper than those allow.
use Rattle.std.proofs.Common.{◌≡◌, ℕ, ◌+◌, ◌<◌, ◌≤◌, true, List, ◌∷◌, refl, arith}
use Rattle.std.specs.Prelude.{codes}
use Rattle.sql_lex.specs.declared.token.Kind.{Kind}
use Rattle.sql_lex.specs.declared.token.Kind.TheVariants.{Word}
use Rattle.sql_ast.specs.declared.expression.Expr.{Expr}
use Rattle.sql_ast.specs.declared.statement.Statement.{Statement}
use Rattle.sql_parse.specs.Symbols.{closing, comma, dot, equal}
use Rattle.sql_parse.specs.Rules.{After, after, before, Maybe, without, written, Parted, Optional, absent, present}
use Rattle.sql_parse.specs.Expressions.{quoted, word, Cond, Sum, Within}
use Rattle.sql_parse.specs.Tables as rules
use Rattle.sql_parse.specs.Changes as g
use Rattle.sql_parse.specs.Queries as q
use Rattle.sql_parse.specs.RowStatements as s
use Rattle.sql_parse.specs.Conditions.{limit, opens_few}
use Rattle.sql_parse.proofs.Depth.{Stays, many_stays, after_stays, parted_stays, sum_stays, cond_stays, within_stays}

-- ---- names and tables

name_stays : (n : ℕ) → Stays n rules.Name rules.Name
name_stays n i o x (rules.name quoted) f = (rules.name quoted, f)
name_stays n i o x (rules.name (word w)) f = (rules.name (word w), f)

qualified_stays : (n : ℕ) → Stays n rules.Qualified rules.Qualified
qualified_stays n i o x (rules.bare {n = a} d) f = let one = name_stays n i o a d f in (rules.bare d, one.1)
qualified_stays n i o x (rules.qualified {m = m} {t = c} {n = a} d e) f =
    let one = name_stays n i (dot ∷ m) c d f in let two = name_stays n m o a e one.1 in (rules.qualified d e, two.1)

table_stays : (n : ℕ) → Stays n rules.Table rules.Table
table_stays n i o x (rules.table {q = q} d) f = let one = qualified_stays n i o q d f in (rules.table d, one.1)

optional_stays : {A : Type 0} (n : ℕ) (P Q : List Kind → A → List Kind → Type 0) → Stays n P Q → Stays n (Optional P) (Optional Q)
optional_stays n P Q s i o x absent f = (absent, f)
optional_stays n P Q s i o x (present {x = y} d) f = let one = s i o y d f in (present one.0, one.1)

aliased_stays : (n : ℕ) → Stays n rules.Aliased rules.Aliased
aliased_stays n i o x (rules.aliased {m = m} {t = c} {a = a} d e) f =
    let one = table_stays n i m c d f in let two = optional_stays n rules.Name rules.Name (name_stays n) m o a e one.1 in (rules.aliased d e, two.1)

-- a list in parentheses that are the first to open
parenthesized_stays : {A : Type 0} (P Q : List Kind → A → List Kind → Type 0) → Stays 1 P Q → Stays 0 (g.Parenthesized P) (g.Parenthesized Q)
parenthesized_stays P Q s i o x (after {i = j} (before d)) f =
    let all = parted_stays 1 P Q s comma (λ i. refl) j (closing ∷ o) x d f in (after (before all.0), all.1)

maybe_stays : (k : Kind) (i o : List Kind) → ((j : List Kind) → opens_few 0 (k ∷ j) ≡ opens_few 0 j) → Maybe k i o → opens_few 0 i ≡ true → opens_few 0 o ≡ true
maybe_stays k i o still without f = f
maybe_stays k i o still written f = rw still at f

-- ---- ORDER BY

order_stays : (n : ℕ) → Stays n q.Order q.Order
order_stays n i o x (q.order {q = c} d q.Direction.plain) f = let one = qualified_stays n i o c d f in (q.order d q.Direction.plain, one.1)
order_stays n i o x (q.order {q = c} d q.ascending) f = let one = qualified_stays n i (Word (codes "ASC") ∷ o) c d f in (q.order d q.ascending, one.1)
order_stays n i o x (q.order {q = c} d q.descending) f = let one = qualified_stays n i (Word (codes "DESC") ∷ o) c d f in (q.order d q.descending, one.1)

order_by_stays : Stays 0 q.OrderBy q.OrderBy
order_by_stays =
    after_stays 0 (After (Word (codes "BY")) (Parted comma q.Order)) (After (Word (codes "BY")) (Parted comma q.Order))
    (after_stays 0 (Parted comma q.Order) (Parted comma q.Order) (parted_stays 0 q.Order q.Order (order_stays 0) comma (λ i. refl)) (Word (codes "BY")) (λ i. refl)) (Word (codes "ORDER")) (λ i. refl)

module _ (P Q : List Kind → Expr → List Kind → Type 0) (deeper : (n : ℕ) → 0 ≤ n → n < limit → Stays (n + 1) P Q) where
  condition_stays : Stays 0 (Cond P) (Cond Q)
  condition_stays = cond_stays 0 P Q deeper 0 (omega arith)

  where_stays : Stays 0 (g.Where P) (g.Where Q)
  where_stays =
      optional_stays 0 (After (Word (codes "WHERE")) (Cond P)) (After (Word (codes "WHERE")) (Cond Q)) (after_stays 0 (Cond P) (Cond Q) condition_stays (Word (codes "WHERE")) (λ i. refl))

  -- ---- statements that change rows

  insert_stays : Stays 0 (g.IsInsert P) (g.IsInsert Q)
  insert_stays i o x (g.insert {i = h} {j = j} {m = m} {t = c} {ns = ns} {xs = xs} d columns values) f =
      let a = table_stays 0 h j c d f in
      let b = optional_stays 0 (g.Parenthesized rules.Name) (g.Parenthesized rules.Name) (parenthesized_stays rules.Name rules.Name (name_stays 1)) j (Word (codes "VALUES") ∷ m) ns columns a.1 in
      let e = parenthesized_stays (Sum P) (Sum Q) (sum_stays 0 P Q deeper 1 (omega arith)) m o xs values b.1 in (g.insert d columns e.0, e.1)

  assigns_stays : Stays 0 (g.Assigns P) (g.Assigns Q)
  assigns_stays i o x (g.assigns {j = j} {n = n} {x = y} d e) f =
      let a = name_stays 0 i (equal ∷ j) n d f in let b = sum_stays 0 P Q deeper 0 (omega arith) j o y e a.1 in (g.assigns d b.0, b.1)

  update_stays : Stays 0 (g.IsUpdate P) (g.IsUpdate Q)
  update_stays i o x (g.update {i = h} {j = j} {m = m} {t = c} {xs = xs} {c = w} d set filter) f =
      let a = table_stays 0 h (Word (codes "SET") ∷ j) c d f in
      let b = parted_stays 0 (g.Assigns P) (g.Assigns Q) assigns_stays comma (λ i. refl) j m xs set a.1 in
      let e = where_stays m o w filter b.1 in (g.update d b.0 e.0, e.1)

  delete_stays : Stays 0 (g.IsDelete P) (g.IsDelete Q)
  delete_stays i o x (g.delete {i = h} {j = j} {m = m} {t = c} {c = w} from d filter) f =
      let start = maybe_stays (Word (codes "FROM")) h j (λ i. refl) from f in
      let a = table_stays 0 j m c d start in let b = where_stays m o w filter a.1 in (g.delete from d b.0, b.1)

  -- ---- queries

  item_stays : Stays 0 (q.IsItem P) (q.IsItem Q)
  item_stays i o x (q.IsItem.plain {x = y} d) f = let one = sum_stays 0 P Q deeper 0 (omega arith) i o y d f in (q.IsItem.plain one.0, one.1)
  item_stays i o x (q.called {m = m} {n = n} {x = y} {a = a} d called e) f =
      let one = sum_stays 0 P Q deeper 0 (omega arith) i m y d f in
      let start = maybe_stays (Word (codes "AS")) m n (λ i. refl) called one.1 in let two = name_stays 0 n o a e start in (q.called one.0 called e, two.1)

  items_stay : Stays 0 (q.AreItems P) (q.AreItems Q)
  items_stay i o x q.all f = (q.all, f)
  items_stay i o x (q.listed {xs = xs} d) f = let all = parted_stays 0 (q.IsItem P) (q.IsItem Q) item_stays comma (λ i. refl) i o xs d f in (q.listed all.0, all.1)

  further_stays : Stays 0 (q.Further P) (q.Further Q)
  further_stays i o x (q.another {i = j} {t = c} d) f = let one = aliased_stays 0 j o c d f in (q.another d, one.1)
  further_stays i o x (q.joins {j = j} {m = m} {t = c} {x = y} inner d e) f =
      let start = maybe_stays (Word (codes "INNER")) i (Word (codes "JOIN") ∷ j) (λ i. refl) inner f in
      let one = aliased_stays 0 j (Word (codes "ON") ∷ m) c d start in let two = condition_stays m o y e one.1 in (q.joins inner d two.0, two.1)

  tables_stay : Stays 0 (q.Tables P) (q.Tables Q)
  tables_stay i o x (q.tables {m = m} {t = c} {ts = ts} d ds) f =
      let one = aliased_stays 0 i m c d f in let others = many_stays 0 (q.Further P) (q.Further Q) further_stays m o ts ds one.1 in (q.tables d others.0, others.1)

  select_stays : Stays 0 (q.IsSelect P) (q.IsSelect Q)
  select_stays i o x (q.select {i = h} {j = j} {m = m} {n = n} {xs = xs} {f = from} {c = w} {s = z} its d filter sorted) f =
      let a = items_stay h (Word (codes "FROM") ∷ j) xs its f in
      let b = tables_stay j m from d a.1 in
      let c = where_stays m n w filter b.1 in
      let e = optional_stays 0 q.OrderBy q.OrderBy order_by_stays n o z sorted c.1 in (q.select a.0 b.0 c.0 sorted, e.1)

  count_stays : Stays 0 (q.IsCount P) (q.IsCount Q)
  count_stays i o x (q.count {i = h} {m = m} {t = c} {c = w} d filter) f =
      let a = aliased_stays 0 h m c d f in let b = where_stays m o w filter a.1 in (q.count d b.0, b.1)

  statement_stays : Stays 0 (s.RowStatement P) (s.RowStatement Q)
  statement_stays i o x (s.selects {x = y} d) f = let one = select_stays i o y d f in (s.selects one.0, one.1)
  statement_stays i o x (s.counts {x = y} d) f = let one = count_stays i o y d f in (s.counts one.0, one.1)
  statement_stays i o x (s.inserts {x = y} d) f = let one = insert_stays i o y d f in (s.inserts one.0, one.1)
  statement_stays i o x (s.updates {x = y} d) f = let one = update_stays i o y d f in (s.updates one.0, one.1)
  statement_stays i o x (s.deletes {x = y} d) f = let one = delete_stays i o y d f in (s.deletes one.0, one.1)
  statement_stays i o x (s.commits {i = j} d) f = (s.commits d, maybe_stays (Word (codes "WORK")) j o (λ i. refl) d f)
  statement_stays i o x (s.rolls_back {i = j} d) f = (s.rolls_back d, maybe_stays (Word (codes "WORK")) j o (λ i. refl) d f)

-- a row statement whose tokens open few parentheses is one at the limit's depth
pub statement_at_limit : (k : ℕ) (ts o : List Kind) (x : Statement) → s.RowStatement (Within k) ts x o → opens_few 0 ts ≡ true → s.RowStatement (Within limit) ts x o
statement_at_limit k ts o x d f =
    (statement_stays (Within k) (Within limit) (λ m le below. within_stays k limit (m + 1) (omega arith) (omega arith)) ts o x d f).0
