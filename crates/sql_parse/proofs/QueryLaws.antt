-- Each reader of a query reads exactly its rule.
use Rattle.std.proofs.Common.{◌≡◌, ℕ, ◌<◌, Bool, true, false, cond, ◌&&◌, List, [], ◌∷◌, length, Option, Some, None, refl, sym, ap, subst, ◌∙◌, arith, inl, inr}
use Rattle.std.specs.Prelude.{codes}
use Rattle.std.specs.Str.{bytes_eq}
use Rattle.std.proofs.lemmas.Slice.Eq.{bytes_eq-Decides}
use Rattle.sql_lex.specs.declared.token.Kind.{Kind}
use Rattle.sql_lex.specs.declared.token.Kind.TheVariants.{Word}
use Rattle.sql_ast.specs.declared.expression.Expr.{Expr}
use Rattle.sql_ast.specs.declared.expression.Expr.TheVariants as e
use Rattle.sql_ast.specs.declared.query.AliasedTable.{AliasedTable}
use Rattle.sql_ast.specs.declared.query.Count.{Count}
use Rattle.sql_ast.specs.declared.query.FromClause.{FromClause}
use Rattle.sql_ast.specs.declared.query.Item.{Item}
use Rattle.sql_ast.specs.declared.query.Items.{Items}
use Rattle.sql_ast.specs.declared.query.Items.TheVariants as items
use Rattle.sql_ast.specs.declared.query.Join.{Join}
use Rattle.sql_ast.specs.declared.query.Select.{Select}
use Rattle.sql_ast.specs.declared.query.SortKey.{SortKey}
use Rattle.sql_parse.specs.Symbols.{same, sees, opening, closing, star, comma, dot, is_free, is_reserved, level}
use Rattle.sql_parse.specs.Rules.{After, after, Many, Maybe, without, written, Optional, absent, present, Parted, parted}
use Rattle.sql_parse.specs.Expressions.{Cond, IsName, Sum, quoted, word}
use Rattle.sql_parse.specs.Tables as rules
use Rattle.sql_parse.specs.Queries as g
use Rattle.sql_parse.specs.descent.Reading as read
use Rattle.sql_parse.specs.descent.Reading.{◌>>=◌, under, behind, expect}
use Rattle.sql_parse.specs.descent.ReadTables as tables
use Rattle.sql_parse.specs.descent.ReadChanges as changes
use Rattle.sql_parse.specs.descent.ReadQueries as queries
use Rattle.sql_parse.proofs.Exact.{bind_some, under_some, some_is, given, chosen, sees_is, expect_is, Exact, Above, Repeats, parted_exact, many_sound, many_complete, many_follows}
use Rattle.sql_parse.proofs.Follow.{OneOf, unseen, above, no_name, WHERE, ORDER, LAST, clause_first, clause_sound, clause_complete, past_sound}
use Rattle.sql_parse.proofs.TableLaws.{qualified_exact, AliasEnds, alias_sound, aliased_exact, name_unseen}
use Rattle.sql_parse.proofs.ExpressionLaws.{no_clash, name_sound, name_complete, excluded, sum_first, begins_sum, no_star, sum_exact, cond_exact}
use Rattle.sql_parse.proofs.ChangeLaws.{where_sound, where_complete}

-- ---- ORDER BY

abbrev ASC : Kind
ASC = Word (codes "ASC")

abbrev DESC : Kind
DESC = Word (codes "DESC")

record OrderEnds (o : List Kind) : Type 0 where
  dotless : sees dot o ≡ false
  no_asc : sees ASC o ≡ false
  no_desc : sees DESC o ≡ false

order_exact : Exact g.Order queries.order OrderEnds
unfolding queries.order
order_exact = record { sound = sound; complete = complete; shorter = shorter }
  where
    ascending : (m : List Kind) (v : Bool) → sees ASC m ≡ v → g.Direction m false (cond v (behind m) m)
    ascending m true e = subst (λ (j : List Kind). g.Direction j false (behind m)) (sym (sees_is ASC m e)) g.ascending
    ascending m false e = g.Direction.plain

    sound : (i : List Kind) (y : SortKey × List Kind) → queries.order i ≡ Some y → g.Order i y.0 y.1
    sound i y h =
        let b = bind_some (tables.qualified i) (λ q. cond (sees DESC q.1) (Some (queries.key_of q.0 true, behind q.1)) (Some (queries.key_of q.0 false, tables.past ASC q.1))) y h in
        let q = qualified_exact.sound i b.0 b.1 in
        elim (chosen (sees DESC b.0.1) (Some (queries.key_of b.0.0 true, behind b.0.1)) (Some (queries.key_of b.0.0 false, tables.past ASC b.0.1)) (Some y) b.2) [
          | inl t ↦
              subst (λ (z : SortKey × List Kind). g.Order i z.0 z.1) (some_is (queries.key_of b.0.0 true, behind b.0.1) y t.1)
              (g.order (subst (λ (o : List Kind). rules.Qualified i b.0.0 o) (sees_is DESC b.0.1 t.0) q) g.descending)
          | inr t ↦
              subst (λ (z : SortKey × List Kind). g.Order i z.0 z.1) (some_is (queries.key_of b.0.0 false, tables.past ASC b.0.1) y t.1)
              (g.order q (ascending b.0.1 (sees ASC b.0.1) refl))
        ]

    complete : (i o : List Kind) (x : SortKey) → g.Order i x o → OrderEnds o → queries.order i ≡ Some (x, o)
    complete i o x (g.order {q = q} d g.Direction.plain) f = rw (qualified_exact.complete i o q d f.dotless, f.no_desc, f.no_asc) refl
    complete i o x (g.order {q = q} d g.ascending) f = rw (qualified_exact.complete i (ASC ∷ o) q d refl) refl
    complete i o x (g.order {q = q} d g.descending) f = rw (qualified_exact.complete i (DESC ∷ o) q d refl) refl

    shorter : (i o : List Kind) (x : SortKey) → g.Order i x o → length o < length i
    shorter i o x (g.order {q = q} d g.Direction.plain) = qualified_exact.shorter i o q d
    shorter i o x (g.order {q = q} d g.ascending) = omega (arith, qualified_exact.shorter i (ASC ∷ o) q d)
    shorter i o x (g.order {q = q} d g.descending) = omega (arith, qualified_exact.shorter i (DESC ∷ o) q d)

By : List Kind → List SortKey → List Kind → Type 0
By = After (Word (codes "BY")) (Parted comma g.Order)

orders_exact : Exact By queries.orders (OneOf LAST)
unfolding queries.orders By
orders_exact = record { sound = sound; complete = complete; shorter = shorter }
  where
    r : Exact (Parted comma g.Order) (read.parted comma queries.order) (OneOf LAST)
    r = parted_exact comma g.Order queries.order OrderEnds order_exact refl (λ i. record { dotless = refl; no_asc = refl; no_desc = refl }) (OneOf LAST)
        (λ o f. record { dotless = unseen dot LAST o refl f; no_asc = unseen ASC LAST o refl f; no_desc = unseen DESC LAST o refl f })
        (λ o f. unseen comma LAST o refl f)

    sound : (i : List Kind) (y : List SortKey × List Kind) → queries.orders i ≡ Some y → By i y.0 y.1
    sound i y h =
        let b = bind_some (expect (Word (codes "BY")) i) (λ n. read.parted comma queries.order n) y h in
        subst (λ (j : List Kind). After (Word (codes "BY")) (Parted comma g.Order) j y.0 y.1) (sym (expect_is (Word (codes "BY")) i b.0 b.1)) (after (r.sound b.0 y b.2))

    complete : (i o : List Kind) (x : List SortKey) → By i x o → OneOf LAST o → queries.orders i ≡ Some (x, o)
    complete i o x (after {i = j} d) f = r.complete j o x d f

    shorter : (i o : List Kind) (x : List SortKey) → By i x o → length o < length i
    shorter i o x (after {i = j} d) = omega (arith, r.shorter j o x d)

sorted_sound : (i : List Kind) (y : Option (List SortKey) × List Kind) → queries.sorted i ≡ Some y → Optional g.OrderBy i y.0 y.1
unfolding By
sorted_sound i y h = clause_sound ORDER By queries.orders (OneOf LAST) orders_exact refl i y h

sorted_complete : (i o : List Kind) (x : Option (List SortKey)) → Optional g.OrderBy i x o → OneOf LAST o → queries.sorted i ≡ Some (x, o)
unfolding By
sorted_complete i o x d f = clause_complete ORDER By queries.orders (OneOf LAST) orders_exact refl i o x d f (unseen ORDER LAST o refl f)

-- ---- items

abbrev AS : Kind
AS = Word (codes "AS")

abbrev FROM : Kind
FROM = Word (codes "FROM")

abbrev COUNT : Kind
COUNT = Word (codes "COUNT")

name_level : (k : Kind) (n : List ℕ) → IsName k n → level k ≡ 7
unfolding is_reserved
name_level k n quoted = refl
name_level k n (word f) =
    rw (
      swapped (codes "AND") n refl f,
      swapped (codes "OR") n refl f,
      swapped (codes "IS") n refl f,
      swapped (codes "NOT") n refl f,
      swapped (codes "LIKE") n refl f,
      swapped (codes "IN") n refl f,
      swapped (codes "BETWEEN") n refl f,
    ) refl
  where
    swapped : (known w : List ℕ) → is_reserved known ≡ true → is_free w ≡ true → same (Word w) (Word known) ≡ false
    swapped known w r f = go (same (Word w) (Word known)) refl
      where
        go : (b : Bool) → same (Word w) (Word known) ≡ b → b ≡ false
        go false h = refl
        go true h =
            let back : bytes_eq known w ≡ true = (bytes_eq-Decides known w).1 (sym ((bytes_eq-Decides w known).0 h)) in
            let clash : bytes_eq known w ≡ false = no_clash known w r f in cc

name_not_as : (k : Kind) (n : List ℕ) (o : List Kind) → IsName k n → sees AS (k ∷ o) ≡ false
unfolding is_reserved
name_not_as k n o d = name_unseen (codes "AS") k n o refl d

record ItemEnds (o : List Kind) : Type 0 where
  sum : Above 3 o
  no_as : sees AS o ≡ false
  nameless : read.name o ≡ None

record FurtherEnds (o : List Kind) : Type 0 where
  alias : AliasEnds o
  cond : Above 6 o

module _ (Inner : List Kind → Expr → List Kind → Type 0) (inner : List Kind → Option (Expr × List Kind)) (r : Exact Inner inner (Above 6)) where
  item_exact : Exact (g.IsItem Inner) (queries.item inner) ItemEnds
  unfolding queries.item
  item_exact = record { sound = sound; complete = complete; shorter = shorter }
    where
      s : Exact (Sum Inner) (read.sum inner) (Above 3)
      s = sum_exact Inner inner r

      aliased : (i m o : List Kind) (x : Expr) (a : Option (List ℕ)) → Sum Inner i x m → Optional rules.Name m a o → g.IsItem Inner i (record { value = x; alias = a }) o
      aliased i m o x a d absent = g.IsItem.plain d
      aliased i m o x a d (present n) = g.called d without n

      sound : (i : List Kind) (y : Item × List Kind) → queries.item inner i ≡ Some y → g.IsItem Inner i y.0 y.1
      sound i y h =
          let b = bind_some (read.sum inner i) (λ x. cond (sees AS x.1) (under (λ a. record { value = x.0; alias = Some a }) (read.name (behind x.1))) (under (λ a. record { value = x.0; alias = a }) (tables.alias x.1))) y h in
          let d = s.sound i b.0 b.1 in
          elim (chosen (sees AS b.0.1) (under (λ a. record { value = b.0.0; alias = Some a }) (read.name (behind b.0.1))) (under (λ a. record { value = b.0.0; alias = a }) (tables.alias b.0.1)) (Some y) b.2) [
            | inl t ↦
                let u = under_some (λ (a : List ℕ). record { value = b.0.0; alias = Some a }) (read.name (behind b.0.1)) y t.1 in
                let n = name_sound (behind b.0.1) u.0 u.1 in
                let here : b.0.1 ≡ AS ∷ n.0 ∷ u.0.1 = sees_is AS b.0.1 t.0 ∙ ap (λ (o : List Kind). AS ∷ o) n.1 in
                subst (λ (z : Item × List Kind). g.IsItem Inner i z.0 z.1) u.2 (g.called (subst (λ (o : List Kind). Sum Inner i b.0.0 o) here d) written (rules.name n.2))
            | inr t ↦
                let u = under_some (λ (a : Option (List ℕ)). record { value = b.0.0; alias = a }) (tables.alias b.0.1) y t.1 in
                subst (λ (z : Item × List Kind). g.IsItem Inner i z.0 z.1) u.2 (aliased i b.0.1 u.0.1 b.0.0 u.0.0 d (alias_sound b.0.1 (read.name b.0.1) refl u.0 u.1))
          ]

      complete : (i o : List Kind) (x : Item) → g.IsItem Inner i x o → ItemEnds o → queries.item inner i ≡ Some (x, o)
      complete i o x (g.IsItem.plain {x = y} d) f = rw (s.complete i o y d f.sum, f.no_as, f.nameless) refl
      complete i o x (g.called {x = y} d without (rules.name {k = k} {n = n} e)) f =
          rw (s.complete i (k ∷ o) y d (omega (arith, name_level k n e)), name_not_as k n o e, name_complete k n o e) refl
      complete i o x (g.called {x = y} d written (rules.name {k = k} {n = n} e)) f = rw (s.complete i (AS ∷ k ∷ o) y d (omega arith), name_complete k n o e) refl

      shorter : (i o : List Kind) (x : Item) → g.IsItem Inner i x o → length o < length i
      shorter i o x (g.IsItem.plain {x = y} d) = s.shorter i o y d
      shorter i o x (g.called {x = y} d without (rules.name {k = k} e)) = omega (arith, s.shorter i (k ∷ o) y d)
      shorter i o x (g.called {x = y} d written (rules.name {k = k} e)) = omega (arith, s.shorter i (AS ∷ k ∷ o) y d)

  -- the items end where FROM stands
  listed_exact : Exact (Parted comma (g.IsItem Inner)) (read.parted comma (queries.item inner)) (OneOf (FROM ∷ []))
  unfolding is_reserved
  listed_exact =
      let ks : List Kind = FROM ∷ [] in
      parted_exact comma (g.IsItem Inner) (queries.item inner) ItemEnds item_exact refl (λ i. record { sum = omega arith; no_as = refl; nameless = no_name (comma ∷ []) (comma ∷ i) refl refl }) (OneOf ks)
      (λ o f. record { sum = above 3 ks o (omega arith) refl f; no_as = unseen AS ks o refl f; nameless = no_name ks o refl f })
      (λ o f. unseen comma ks o refl f)

  items_sound : (i : List Kind) (y : Items × List Kind) → queries.items_at inner i ≡ Some y → g.AreItems Inner i y.0 y.1
  unfolding queries.items_at
  items_sound i y h =
      elim (chosen (sees star i) (Some (items.All, behind i)) (under items.Listed (read.parted comma (queries.item inner) i)) (Some y) h) [
        | inl t ↦ subst (λ (z : Items × List Kind). g.AreItems Inner i z.0 z.1) (some_is (items.All, behind i) y t.1) (subst (λ (j : List Kind). g.AreItems Inner j items.All (behind i)) (sym (sees_is star i t.0)) g.all)
        | inr t ↦
            let u = under_some items.Listed (read.parted comma (queries.item inner) i) y t.1 in
            subst (λ (z : Items × List Kind). g.AreItems Inner i z.0 z.1) u.2 (g.listed (listed_exact.sound i u.0 u.1))
      ]

  item_no_star : (i o : List Kind) (x : Item) → g.IsItem Inner i x o → sees star i ≡ false
  item_no_star i o x (g.IsItem.plain {x = y} d) = excluded begins_sum star i no_star (sum_first Inner inner r i o y d)
  item_no_star i o x (g.called {m = m} {x = y} d a n) = excluded begins_sum star i no_star (sum_first Inner inner r i m y d)

  items_complete : (i o : List Kind) (x : Items) → g.AreItems Inner i x (FROM ∷ o) → queries.items_at inner i ≡ Some (x, FROM ∷ o)
  unfolding queries.items_at
  items_complete i o x g.all = refl
  items_complete i o x (g.listed {xs = xs} (parted {m = m} {x = y} d ds)) =
      rw (item_no_star i m y d, listed_exact.complete i (FROM ∷ o) xs (parted d ds) refl) refl

  -- ---- FROM

  joined_sound : (h i : List Kind) (y : Join × List Kind) → Maybe (Word (codes "INNER")) h (Word (codes "JOIN") ∷ i) → queries.joined inner i ≡ Some y → g.Further Inner h y.0 y.1
  unfolding queries.joined
  joined_sound h i y j e =
      let a = bind_some (tables.aliased i) (λ t. expect (Word (codes "ON")) t.1 >>= λ n. under (λ x. record { table = t.0; on = Some x }) (read.cond inner n)) y e in
      let b = bind_some (expect (Word (codes "ON")) a.0.1) (λ n. under (λ x. record { table = a.0.0; on = Some x }) (read.cond inner n)) y a.2 in
      let u = under_some (λ (x : Expr). record { table = a.0.0; on = Some x }) (read.cond inner b.0) y b.2 in
      let table : rules.Aliased i a.0.0 (Word (codes "ON") ∷ b.0) = subst (λ (o : List Kind). rules.Aliased i a.0.0 o) (expect_is (Word (codes "ON")) a.0.1 b.0 b.1) (aliased_exact.sound i a.0 a.1) in
      subst (λ (z : Join × List Kind). g.Further Inner h z.0 z.1) u.2 (g.joins j table ((cond_exact Inner inner r).sound b.0 u.0 u.1))

  joined_complete : (i m o : List Kind) (a : AliasedTable) (x : Expr) → rules.Aliased i a (Word (codes "ON") ∷ m) → Cond Inner m x o → Above 6 o → queries.joined inner i ≡ Some (record { table = a; on = Some x }, o)
  unfolding queries.joined is_reserved
  joined_complete i m o a x d e f =
      rw (
        aliased_exact.complete i (Word (codes "ON") ∷ m) a d (record { dotless = refl; nameless = no_name (Word (codes "ON") ∷ []) (Word (codes "ON") ∷ m) refl refl }),
        (cond_exact Inner inner r).complete m o x e f,
      ) refl

  further_repeats : Repeats (g.Further Inner) (queries.further inner) queries.goes_on FurtherEnds
  unfolding queries.further is_reserved
  further_repeats = record { sound = sound; complete = complete; begins = begins; follows = follows; shorter = shorter }
    where
      sound : (i : List Kind) (y : Join × List Kind) → queries.goes_on i ≡ true → queries.further inner i ≡ Some y → g.Further Inner i y.0 y.1
      sound i y s h =
          elim (chosen (sees comma i) (under (λ t. record { table = t; on = None }) (tables.aliased (behind i))) _ (Some y) h) [
            | inl t ↦
                let u = under_some (λ (t : AliasedTable). record { table = t; on = None }) (tables.aliased (behind i)) y t.1 in
                subst (λ (z : Join × List Kind). g.Further Inner i z.0 z.1) u.2
                (subst (λ (j : List Kind). g.Further Inner j (record { table = u.0.0; on = None }) u.0.1) (sym (sees_is comma i t.0)) (g.another (aliased_exact.sound (behind i) u.0 u.1)))
            | inr t ↦
                let start = tables.past (Word (codes "INNER")) i in
                let b = bind_some (expect (Word (codes "JOIN")) start) (λ n. queries.joined inner n) y t.1 in
                let here : Maybe (Word (codes "INNER")) i (Word (codes "JOIN") ∷ b.0) =
                subst (λ (j : List Kind). Maybe (Word (codes "INNER")) i j) (expect_is (Word (codes "JOIN")) start b.0 b.1) (past_sound (Word (codes "INNER")) i) in
                joined_sound i b.0 y here b.2
          ]

      complete : (i o : List Kind) (x : Join) → g.Further Inner i x o → FurtherEnds o → queries.further inner i ≡ Some (x, o)
      complete i o x (g.another {i = j} {t = a} d) f = rw (aliased_exact.complete j o a d f.alias) refl
      complete i o x (g.joins {j = j} {m = m} {t = a} {x = y} without d e) f = rw (joined_complete j m o a y d e f.cond) refl
      complete i o x (g.joins {j = j} {m = m} {t = a} {x = y} written d e) f = rw (joined_complete j m o a y d e f.cond) refl

      begins : (i o : List Kind) (x : Join) → g.Further Inner i x o → queries.goes_on i ≡ true
      begins i o x (g.another d) = refl
      begins i o x (g.joins without d e) = refl
      begins i o x (g.joins written d e) = refl

      follows : (i o : List Kind) (x : Join) → g.Further Inner i x o → FurtherEnds i
      follows i o x (g.another d) = record { alias = record { dotless = refl; nameless = no_name (comma ∷ []) i refl refl }; cond = omega arith }
      follows i o x (g.joins without d e) = record { alias = record { dotless = refl; nameless = no_name (Word (codes "JOIN") ∷ []) i refl refl }; cond = omega arith }
      follows i o x (g.joins written d e) = record { alias = record { dotless = refl; nameless = no_name (Word (codes "INNER") ∷ []) i refl refl }; cond = omega arith }

      shorter : (i o : List Kind) (x : Join) → g.Further Inner i x o → length o < length i
      shorter i o x (g.another {i = j} {t = a} d) = omega (arith, aliased_exact.shorter j o a d)
      shorter i o x (g.joins {j = j} {m = m} {t = a} {x = y} without d e) = omega (arith, aliased_exact.shorter j (Word (codes "ON") ∷ m) a d, (cond_exact Inner inner r).shorter m o y e)
      shorter i o x (g.joins {j = j} {m = m} {t = a} {x = y} written d e) = omega (arith, aliased_exact.shorter j (Word (codes "ON") ∷ m) a d, (cond_exact Inner inner r).shorter m o y e)

  from_sound : (i : List Kind) (y : FromClause × List Kind) → queries.from_clause inner i ≡ Some y → g.Tables Inner i y.0 y.1
  unfolding queries.from_clause queries.furthers
  from_sound i y h =
      let a = bind_some (tables.aliased i) (λ t. under (λ ts. record { first = t.0; joins = ts }) (queries.furthers inner t.1)) y h in
      let u = under_some (λ (ts : List Join). record { first = a.0.0; joins = ts }) (queries.furthers inner a.0.1) y a.2 in
      let many = many_sound (g.Further Inner) (queries.further inner) queries.goes_on FurtherEnds further_repeats (length a.0.1) [] a.0.1 u.0 u.1 in
      let joins : Many (g.Further Inner) a.0.1 u.0.0 u.0.1 = subst (λ (ts : List Join). Many (g.Further Inner) a.0.1 ts u.0.1) (sym many.1) many.2 in
      subst (λ (z : FromClause × List Kind). g.Tables Inner i z.0 z.1) u.2 (g.tables (aliased_exact.sound i a.0 a.1) joins)

  from_complete : (i o : List Kind) (x : FromClause) → g.Tables Inner i x o → FurtherEnds o → queries.goes_on o ≡ false → queries.from_clause inner i ≡ Some (x, o)
  unfolding queries.from_clause queries.furthers
  from_complete i o x (g.tables {m = m} {t = a} {ts = ts} d ds) f stops =
      let first : FurtherEnds m = many_follows (g.Further Inner) (queries.further inner) queries.goes_on FurtherEnds further_repeats m o ts ds f in
      rw (
        aliased_exact.complete i m a d first.alias,
        many_complete (g.Further Inner) (queries.further inner) queries.goes_on FurtherEnds further_repeats (length m) [] m o ts ds f stops (omega arith),
      ) refl

  -- ---- SELECT

  pub select_sound : (i : List Kind) (y : Select × List Kind) → queries.select inner i ≡ Some y → g.IsSelect Inner (Word (codes "SELECT") ∷ i) y.0 y.1
  unfolding queries.select
  select_sound i y h =
      let b = bind_some (queries.items_at inner i) _ y h in
      let d = bind_some (expect FROM b.0.1) _ y b.2 in
      let k = bind_some (queries.from_clause inner d.0) _ y d.2 in
      let w = bind_some (changes.filter inner k.0.1) (λ c. under (λ s. record { items = b.0.0; from = k.0.0; condition = c.0; order = s }) (queries.sorted c.1)) y k.2 in
      let u = under_some (λ (s : Option (List SortKey)). record { items = b.0.0; from = k.0.0; condition = w.0.0; order = s }) (queries.sorted w.0.1) y w.2 in
      let its : g.AreItems Inner i b.0.0 (FROM ∷ d.0) = subst (λ (o : List Kind). g.AreItems Inner i b.0.0 o) (expect_is FROM b.0.1 d.0 d.1) (items_sound i b.0 b.1) in
      subst (λ (z : Select × List Kind). g.IsSelect Inner (Word (codes "SELECT") ∷ i) z.0 z.1) u.2
      (g.select its (from_sound d.0 k.0 k.1) (where_sound Inner inner r k.0.1 w.0 w.1) (sorted_sound w.0.1 u.0 u.1))

  pub select_complete : (i o : List Kind) (x : Select) → g.IsSelect Inner i x o → OneOf LAST o → queries.select inner (behind i) ≡ Some (x, o)
  unfolding queries.select is_reserved By
  select_complete i o x (g.select {i = h} {j = j} {m = m} {n = n} {xs = xs} {f = tables} {c = c} {s = s} its d filter sorted) f =
      let at_n : OneOf (ORDER ∷ LAST) n = clause_first ORDER By LAST n o s refl sorted f in
      let at_m : OneOf (WHERE ∷ ORDER ∷ LAST) m = clause_first WHERE (Cond Inner) (ORDER ∷ LAST) m n c refl filter at_n in
      let ks : List Kind = WHERE ∷ ORDER ∷ LAST in
      let ends : FurtherEnds m = record { alias = record { dotless = unseen dot ks m refl at_m; nameless = no_name ks m refl at_m }; cond = above 6 ks m (omega arith) refl at_m } in
      let stops : queries.goes_on m ≡ false = rw (unseen comma ks m refl at_m, unseen (Word (codes "INNER")) ks m refl at_m, unseen (Word (codes "JOIN")) ks m refl at_m) refl in
      rw (
        items_complete h j xs its,
        from_complete j m tables d ends stops,
        where_complete Inner inner r m n c filter (above 6 (ORDER ∷ LAST) n (omega arith) refl at_n) (unseen WHERE (ORDER ∷ LAST) n refl at_n),
        sorted_complete n o s sorted f,
      ) refl

  -- ---- COUNT

  pub count_sound : (i : List Kind) (y : Count × List Kind) → queries.count inner i ≡ Some y → g.IsCount Inner (Word (codes "SELECT") ∷ Word (codes "COUNT") ∷ opening ∷ i) y.0 y.1
  unfolding queries.count
  count_sound i y h =
      let a = bind_some (expect star i) _ y h in
      let b = bind_some (expect closing a.0) _ y a.2 in
      let d = bind_some (expect FROM b.0) _ y b.2 in
      let k = bind_some (tables.aliased d.0) (λ t. under (λ c. record { table = t.0; condition = c }) (changes.filter inner t.1)) y d.2 in
      let u = under_some (λ (c : Option Expr). record { table = k.0.0; condition = c }) (changes.filter inner k.0.1) y k.2 in
      let here : i ≡ star ∷ closing ∷ FROM ∷ d.0 =
      expect_is star i a.0 a.1 ∙ ap (λ (o : List Kind). star ∷ o) (expect_is closing a.0 b.0 b.1) ∙ ap (λ (o : List Kind). star ∷ closing ∷ o) (expect_is FROM b.0 d.0 d.1) in
      subst (λ (z : Count × List Kind). g.IsCount Inner (Word (codes "SELECT") ∷ Word (codes "COUNT") ∷ opening ∷ i) z.0 z.1) u.2
      (subst (λ (j : List Kind). g.IsCount Inner (Word (codes "SELECT") ∷ Word (codes "COUNT") ∷ opening ∷ j) (record { table = k.0.0; condition = u.0.0 }) u.0.1) (sym here)
      (g.count (aliased_exact.sound d.0 k.0 k.1) (where_sound Inner inner r k.0.1 u.0 u.1)))

  pub count_complete : (i o : List Kind) (x : Count) → g.IsCount Inner i x o → OneOf LAST o → queries.count inner (behind (behind (behind i))) ≡ Some (x, o)
  unfolding queries.count is_reserved
  count_complete i o x (g.count {i = h} {m = m} {t = a} {c = c} d filter) f =
      let ks : List Kind = WHERE ∷ LAST in
      let at_m : OneOf ks m = clause_first WHERE (Cond Inner) LAST m o c refl filter f in
      rw (
        aliased_exact.complete h m a d (record { dotless = unseen dot ks m refl at_m; nameless = no_name ks m refl at_m }),
        where_complete Inner inner r m o c filter (above 6 LAST o (omega arith) refl f) (unseen WHERE LAST o refl f),
      ) refl

  -- COUNT before a parenthesis is a column that no item goes on from
  count_item : (i : List Kind) → read.parted comma (queries.item inner) (COUNT ∷ opening ∷ i) ≡ Some (record { value = e.Column None (codes "COUNT"); alias = None } ∷ [], opening ∷ i)
  unfolding read.parted read.many queries.item read.sum read.summands read.term read.factor read.atom read.worded_atom read.column read.name is_reserved
  count_item i = refl

  pub no_count : (i o : List Kind) (x : Items) → g.AreItems Inner i x (FROM ∷ o) → queries.counts i ≡ false
  no_count i o x g.all = refl
  no_count i o x (g.listed {xs = xs} d) = go (queries.counts i) refl
    where
      go : (b : Bool) → queries.counts i ≡ b → b ≡ false
      go false h = refl
      go true h =
          let s = both (sees COUNT i) (sees opening (behind i)) h in
          let here : i ≡ COUNT ∷ opening ∷ behind (behind i) = sees_is COUNT i s.0 ∙ ap (λ (j : List Kind). COUNT ∷ j) (sees_is opening (behind i) s.1) in
          let is : read.parted comma (queries.item inner) (COUNT ∷ opening ∷ behind (behind i)) ≡ Some (xs, FROM ∷ o) =
          subst (λ (j : List Kind). read.parted comma (queries.item inner) j ≡ Some (xs, FROM ∷ o)) here (listed_exact.complete i (FROM ∷ o) xs d refl) in
          absurd (apart (behind (behind i)) o (record { value = e.Column None (codes "COUNT"); alias = None } ∷ []) xs (sym (count_item (behind (behind i))) ∙ is))
        where
          both : (a b : Bool) → (a && b) ≡ true → (a ≡ true) × (b ≡ true)
          both true b h = (refl, h)
          both false b h = absurd cc

          same_rest : (x y : List Item × List Kind) → given x ≡ given y → x.1 ≡ y.1
          same_rest x y h = ap (λ (z : List Item × List Kind). z.1) (some_is x y h)

          apart : (p q : List Kind) (xs ys : List Item) → given {A = List Item × List Kind} (xs, opening ∷ p) ≡ given {A = List Item × List Kind} (ys, FROM ∷ q) → ⊥
          apart p q xs ys h = let rest : opening ∷ p ≡ FROM ∷ q = same_rest (xs, opening ∷ p) (ys, FROM ∷ q) h in cc
