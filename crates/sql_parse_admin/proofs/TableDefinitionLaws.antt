-- CREATE TABLE is read exactly by its rules.
use Rattle.std.proofs.Common.{◌≡◌, ℕ, pos, negsuc, ◌<◌, ◌≤◌, Bool, true, false, ◌&&◌, ◌||◌, List, [], ◌∷◌, length, Option, Some, refl, sym, ap, subst, ◌∙◌, arith, inl, inr}
use Rattle.std.specs.Prelude.{Result, codes, nat_le}
use Rattle.std.specs.List.{list_any}
use Rattle.std.proofs.lemmas.Bool.{leb-true, le-leb, and_parts}
use Rattle.au_base.specs.declared.table.ColumnKind.{ColumnKind}
use Rattle.au_base.specs.declared.table.ColumnKind.TheVariants as column_kind
use Rattle.au_base.specs.declared.table.TableReference.{TableReference}
use Rattle.au_base.specs.declared.memory.Memory.{Memory}
use Rattle.sql_parse.specs.declared.stop.Stop.{Stop}
use Rattle.sql_lex.specs.declared.token.Kind.{Kind}
use Rattle.sql_lex.specs.declared.token.Kind.TheVariants.{Word, Quoted, Number, Text, Mark}
use Rattle.sql_ast.specs.declared.statement.Statement.{Statement}
use Rattle.sql_ast.specs.declared.statement.Statement.TheVariants as statement
use Rattle.sql_ast.specs.declared.table.Element.{Element}
use Rattle.sql_ast.specs.declared.table.Element.TheVariants as element
use Rattle.sql_parse.specs.Symbols.{same, sees, opening, closing, comma, is_reserved}
use Rattle.sql_parse.specs.Rules.{Before, before, Maybe, without, written, Parted}
use Rattle.sql_parse.specs.Tables as rules
use Rattle.sql_parse.specs.descent.Reading as read
use Rattle.sql_parse.specs.descent.Reading.{Gives, ◌>>=◌, under, behind, expect}
use Rattle.sql_parse.specs.descent.ReadTables as tables
use Rattle.sql_parse.specs.descent.ReadTables.{closed, past}
use Rattle.sql_parse.specs.Conditions.{opens_few}
use Rattle.sql_parse.proofs.Exact.{bind_some, under_some, some_is, chosen, guard, sees_is, expect_is, Exact, parted_exact}
use Rattle.sql_parse.proofs.Follow.{OneOf, unseen, Anywhere, past_sound, past_complete, closed_exact}
use Rattle.sql_parse.proofs.TableLaws.{name_exact, names_exact, name_unseen, NoComma, table_exact}
use Rattle.sql_parse.specs.Whole.{Finds}
use Rattle.sql_parse.specs.descent.Ending.{Ends}
use Rattle.sql_parse.proofs.WholeLaws.{Reads, ended_gives, one_whole, whole_found}
use Rattle.sql_parse.specs.Grants.{Names}
use Rattle.sql_parse.specs.TableStatements as g
use Rattle.sql_parse_admin.specs.descent.ReadTableDefinitions as definitions

abbrev NUMBER : Kind
NUMBER = Word (codes "NUMBER")

abbrev VARCHAR2 : Kind
VARCHAR2 = Word (codes "VARCHAR2")

abbrev TIMESTAMP : Kind
TIMESTAMP = Word (codes "TIMESTAMP")

abbrev BYTE : Kind
BYTE = Word (codes "BYTE")

abbrev NOT : Kind
NOT = Word (codes "NOT")

abbrev PRIMARY : Kind
PRIMARY = Word (codes "PRIMARY")

abbrev KEY : Kind
KEY = Word (codes "KEY")

-- what may follow an element, what stands before PRIMARY KEY, and a type
abbrev ELEMENT : List Kind
ELEMENT = comma ∷ closing ∷ []

abbrev UNKEYED : List Kind
UNKEYED = PRIMARY ∷ ELEMENT

abbrev TYPED : List Kind
TYPED = NOT ∷ UNKEYED

one_more : (k : Kind) (ks o : List Kind) → OneOf ks o → OneOf (k ∷ ks) o
one_more k ks [] f = tt
one_more k ks (t ∷ o) f = go (same k t) f
  where
    go : (b : Bool) → list_any (λ j. same j t) ks ≡ true → (b || list_any (λ j. same j t) ks) ≡ true
    go true h = refl
    go false h = h

-- ---- sizes

data Size (least most : ℕ) : List Kind → ℕ → List Kind → Type 0 where
  size : {n : ℕ} {o : List Kind} → least ≤ n → n ≤ most → Size least most (Number (pos n) ∷ o) n o

-- a size in parentheses, or nothing
data SizeOrMost (least most : ℕ) : List Kind → ℕ → List Kind → Type 0 where
  nothing : {o : List Kind} → SizeOrMost least most o most o
  sized : {n : ℕ} {o : List Kind} → least ≤ n → n ≤ most → SizeOrMost least most (opening ∷ Number (pos n) ∷ closing ∷ o) n o

module _ (least most : ℕ) where
  size_of_sound : (k : Kind) (n : ℕ) (o : List Kind) → definitions.size_of least most k ≡ Some n → Size least most (k ∷ o) n o
  size_of_sound (Number (pos m)) n o h =
      let t = guard (nat_le least m && nat_le m most) (Some m) n h in
      let b = and_parts (nat_le least m) (nat_le m most) t.0 in
      subst (λ (x : ℕ). Size least most (Number (pos m) ∷ o) x o) (some_is m n t.1) (size (leb-true least m b.0) (leb-true m most b.1))
  size_of_sound (Number (negsuc m)) n o h = absurd cc
  size_of_sound (Word w) n o h = absurd cc
  size_of_sound (Quoted w) n o h = absurd cc
  size_of_sound (Text t) n o h = absurd cc
  size_of_sound (Mark m) n o h = absurd cc

  size_exact : Exact (Size least most) (definitions.size least most) Anywhere
  unfolding definitions.size
  size_exact = record { sound = sound; complete = complete; shorter = shorter }
    where
      sound : (i : List Kind) (y : ℕ × List Kind) → definitions.size least most i ≡ Some y → Size least most i y.0 y.1
      sound [] y h = absurd cc
      sound (k ∷ o) y h =
          let a = bind_some (definitions.size_of least most k) (λ n. Some (n, o)) y h in
          subst (λ (z : ℕ × List Kind). Size least most (k ∷ o) z.0 z.1) (some_is (a.0, o) y a.2) (size_of_sound k a.0 o a.1)

      complete : (i o : List Kind) (x : ℕ) → Size least most i x o → Anywhere o → definitions.size least most i ≡ Some (x, o)
      complete i o x (size low high) f = rw (le-leb least x low, le-leb x most high) refl

      shorter : (i o : List Kind) (x : ℕ) → Size least most i x o → length o < length i
      shorter i o x (size low high) = omega arith

  size_or_most_sound : (i : List Kind) (y : ℕ × List Kind) → definitions.size_or_most least most i ≡ Some y → SizeOrMost least most i y.0 y.1
  unfolding definitions.size_or_most
  size_or_most_sound i y h =
      elim (chosen (sees opening i) (closed (definitions.size least most) (behind i)) (Some (most, i)) (Some y) h) [
        | inl t ↦
            let c = closed_exact (Size least most) (definitions.size least most) Anywhere size_exact (λ o. tt) in
            subst (λ (j : List Kind). SizeOrMost least most j y.0 y.1) (sym (sees_is opening i t.0)) (opened (behind i) y.1 y.0 (c.sound (behind i) y t.1))
        | inr t ↦ subst (λ (z : ℕ × List Kind). SizeOrMost least most i z.0 z.1) (some_is (most, i) y t.1) nothing
      ]
    where
      opened : (j o : List Kind) (n : ℕ) → Before closing (Size least most) j n o → SizeOrMost least most (opening ∷ j) n o
      opened j o n (before (size low high)) = sized low high

  size_or_most_complete : (i o : List Kind) (n : ℕ) → SizeOrMost least most i n o → sees opening o ≡ false → definitions.size_or_most least most i ≡ Some (n, o)
  unfolding definitions.size_or_most
  size_or_most_complete i o n nothing f = rw f refl
  size_or_most_complete i o n (sized low high) f = rw (size_exact.complete (Number (pos n) ∷ closing ∷ o) (closing ∷ o) n (size low high) tt) refl

-- ---- types

bytes_sound : (i : List Kind) (y : ℕ × List Kind) → definitions.bytes i ≡ Some y → g.IsType (VARCHAR2 ∷ i) (column_kind.Text, y.0) y.1
unfolding definitions.bytes
bytes_sound i y h =
    let a = bind_some (expect opening i) _ y h in
    let b = bind_some (definitions.size 1 4000 a.0) (λ n. expect closing (past BYTE n.1) >>= λ o. Some (n.0, o)) y a.2 in
    let c = bind_some (expect closing (past BYTE b.0.1)) (λ o. Some (b.0.0, o)) y b.2 in
    let unit : Maybe BYTE b.0.1 (closing ∷ c.0) = subst (λ (o : List Kind). Maybe BYTE b.0.1 o) (expect_is closing (past BYTE b.0.1) c.0 c.1) (past_sound BYTE b.0.1) in
    subst (λ (z : ℕ × List Kind). g.IsType (VARCHAR2 ∷ i) (column_kind.Text, z.0) z.1) (some_is (b.0.0, c.0) y c.2)
    (subst (λ (j : List Kind). g.IsType (VARCHAR2 ∷ j) (column_kind.Text, b.0.0) c.0) (sym (expect_is opening i a.0 a.1))
    (built a.0 b.0.1 c.0 b.0.0 ((size_exact 1 4000).sound a.0 b.0 b.1) unit))
  where
    built : (j m o : List Kind) (n : ℕ) → Size 1 4000 j n m → Maybe BYTE m (closing ∷ o) → g.IsType (VARCHAR2 ∷ opening ∷ j) (column_kind.Text, n) o
    built j m o n (size low high) u = g.text low high u

type_sound : (i : List Kind) (y : (ColumnKind × ℕ) × List Kind) → definitions.column_type i ≡ Some y → g.IsType i y.0 y.1
unfolding definitions.column_type
type_sound i y h =
    elim (chosen (sees NUMBER i) (under (definitions.of_kind column_kind.Number) (definitions.size_or_most 1 18 (behind i))) _ (Some y) h) [
      | inl t ↦
          let u = under_some (definitions.of_kind column_kind.Number) (definitions.size_or_most 1 18 (behind i)) y t.1 in
          subst (λ (z : (ColumnKind × ℕ) × List Kind). g.IsType i z.0 z.1) u.2
          (subst (λ (j : List Kind). g.IsType j (column_kind.Number, u.0.0) u.0.1) (sym (sees_is NUMBER i t.0))
          (number (behind i) u.0.1 u.0.0 (size_or_most_sound 1 18 (behind i) u.0 u.1)))
      | inr t ↦ elim (chosen (sees VARCHAR2 i) (under (definitions.of_kind column_kind.Text) (definitions.bytes (behind i))) _ (Some y) t.1) [
        | inl v ↦
            let u = under_some (definitions.of_kind column_kind.Text) (definitions.bytes (behind i)) y v.1 in
            subst (λ (z : (ColumnKind × ℕ) × List Kind). g.IsType i z.0 z.1) u.2
            (subst (λ (j : List Kind). g.IsType j (column_kind.Text, u.0.0) u.0.1) (sym (sees_is VARCHAR2 i v.0)) (bytes_sound (behind i) u.0 u.1))
        | inr v ↦
            let w = guard (sees TIMESTAMP i) (under (definitions.of_kind column_kind.Moment) (definitions.size_or_most 6 6 (behind i))) y v.1 in
            let u = under_some (definitions.of_kind column_kind.Moment) (definitions.size_or_most 6 6 (behind i)) y w.1 in
            subst (λ (z : (ColumnKind × ℕ) × List Kind). g.IsType i z.0 z.1) u.2
            (subst (λ (j : List Kind). g.IsType j (column_kind.Moment, u.0.0) u.0.1) (sym (sees_is TIMESTAMP i w.0))
            (moment (behind i) u.0.1 u.0.0 (size_or_most_sound 6 6 (behind i) u.0 u.1)))
      ]
    ]
  where
    number : (j o : List Kind) (n : ℕ) → SizeOrMost 1 18 j n o → g.IsType (NUMBER ∷ j) (column_kind.Number, n) o
    number j o n nothing = g.number
    number j o n (sized low high) = g.digits low high

    moment : (j o : List Kind) (n : ℕ) → SizeOrMost 6 6 j n o → g.IsType (TIMESTAMP ∷ j) (column_kind.Moment, n) o
    moment j o n nothing = g.moment
    moment j o n (sized low high) =
        let six : 6 ≡ n = omega (arith, low, high) in
        subst (λ (m : ℕ). g.IsType (TIMESTAMP ∷ opening ∷ Number (pos m) ∷ closing ∷ o) (column_kind.Moment, m) o) six g.microseconds

type_complete : (i o : List Kind) (t : ColumnKind × ℕ) → g.IsType i t o → OneOf TYPED o → definitions.column_type i ≡ Some (t, o)
unfolding definitions.column_type definitions.bytes
type_complete i o t g.number f = rw (size_or_most_complete 1 18 o o 18 nothing (unseen opening TYPED o refl f)) refl
type_complete i o t (g.digits {p = p} low high) f =
    rw (size_or_most_complete 1 18 (opening ∷ Number (pos p) ∷ closing ∷ o) o p (sized low high) (unseen opening TYPED o refl f)) refl
type_complete i o t (g.text {n = n} {i = j} low high u) f =
    rw ((size_exact 1 4000).complete (Number (pos n) ∷ j) j n (size low high) tt, past_complete BYTE j (closing ∷ o) refl u refl) refl
type_complete i o t g.moment f = rw (size_or_most_complete 6 6 o o 6 nothing (unseen opening TYPED o refl f)) refl
type_complete i o t g.microseconds f =
    rw (size_or_most_complete 6 6 (opening ∷ Number (pos 6) ∷ closing ∷ o) o 6 (sized (omega arith) (omega arith)) (unseen opening TYPED o refl f)) refl

type_shorter : (i o : List Kind) (t : ColumnKind × ℕ) → g.IsType i t o → length o < length i
type_shorter i o t g.number = omega arith
type_shorter i o t (g.digits low high) = omega arith
type_shorter i o t (g.text low high without) = omega arith
type_shorter i o t (g.text low high written) = omega arith
type_shorter i o t g.moment = omega arith
type_shorter i o t g.microseconds = omega arith

-- ---- NOT NULL and PRIMARY KEY

both_sound : (v w : List ℕ) (P : List Kind → Bool → List Kind → Type 0) → ((o : List Kind) → P o false o) → ((o : List Kind) → P (Word v ∷ Word w ∷ o) true o)
    → (i : List Kind) (y : Bool × List Kind) → definitions.both v w i ≡ Some y → P i y.0 y.1
unfolding definitions.both
both_sound v w P none all i y h =
    elim (chosen (sees (Word v) i) (expect (Word w) (behind i) >>= λ o. Some (true, o)) (Some (false, i)) (Some y) h) [
      | inl t ↦
          let a = bind_some (expect (Word w) (behind i)) (λ o. Some (true, o)) y t.1 in
          let here : i ≡ Word v ∷ Word w ∷ a.0 = sees_is (Word v) i t.0 ∙ ap (λ (o : List Kind). Word v ∷ o) (expect_is (Word w) (behind i) a.0 a.1) in
          subst (λ (z : Bool × List Kind). P i z.0 z.1) (some_is (true, a.0) y a.2) (subst (λ (j : List Kind). P j true a.0) (sym here) (all a.0))
      | inr t ↦ subst (λ (z : Bool × List Kind). P i z.0 z.1) (some_is (false, i) y t.1) (none i)
    ]

not_null_complete : (i o : List Kind) (b : Bool) → g.NotNull i b o → OneOf UNKEYED o → definitions.not_null i ≡ Some (b, o)
unfolding definitions.both
not_null_complete i o b g.nullable f = rw (unseen NOT UNKEYED o refl f) refl
not_null_complete i o b g.not_null f = refl

not_null_first : (i o : List Kind) (b : Bool) → g.NotNull i b o → OneOf UNKEYED o → OneOf TYPED i
not_null_first i o b g.nullable f = one_more NOT UNKEYED o f
not_null_first i o b g.not_null f = refl

not_null_shorter : (i o : List Kind) (b : Bool) → g.NotNull i b o → length o ≤ length i
not_null_shorter i o b g.nullable = omega arith
not_null_shorter i o b g.not_null = omega arith

primary_key_complete : (i o : List Kind) (b : Bool) → g.PrimaryKey i b o → OneOf ELEMENT o → definitions.primary_key i ≡ Some (b, o)
unfolding definitions.both
primary_key_complete i o b g.no_key f = rw (unseen PRIMARY ELEMENT o refl f) refl
primary_key_complete i o b g.PrimaryKey.key f = refl

primary_key_first : (i o : List Kind) (b : Bool) → g.PrimaryKey i b o → OneOf ELEMENT o → OneOf UNKEYED i
primary_key_first i o b g.no_key f = one_more PRIMARY ELEMENT o f
primary_key_first i o b g.PrimaryKey.key f = refl

primary_key_shorter : (i o : List Kind) (b : Bool) → g.PrimaryKey i b o → length o ≤ length i
primary_key_shorter i o b g.no_key = omega arith
primary_key_shorter i o b g.PrimaryKey.key = omega arith

-- ---- elements

keys_exact : Exact (Before closing Names) (closed tables.names) Anywhere
keys_exact = closed_exact Names tables.names NoComma names_exact (λ o. refl)

key_sound : (i : List Kind) (y : Element × List Kind) → definitions.key i ≡ Some y → g.IsElement (PRIMARY ∷ i) y.0 y.1
unfolding definitions.key
key_sound i y h =
    let a = bind_some (expect KEY i) (λ j. expect opening j >>= λ k. under element.PrimaryKey (closed tables.names k)) y h in
    let b = bind_some (expect opening a.0) (λ k. under element.PrimaryKey (closed tables.names k)) y a.2 in
    let u = under_some element.PrimaryKey (closed tables.names b.0) y b.2 in
    let here : i ≡ KEY ∷ opening ∷ b.0 = expect_is KEY i a.0 a.1 ∙ ap (λ (o : List Kind). KEY ∷ o) (expect_is opening a.0 b.0 b.1) in
    subst (λ (z : Element × List Kind). g.IsElement (PRIMARY ∷ i) z.0 z.1) u.2
    (subst (λ (j : List Kind). g.IsElement (PRIMARY ∷ j) (element.PrimaryKey u.0.0) u.0.1) (sym here) (built b.0 u.0.1 u.0.0 (keys_exact.sound b.0 u.0 u.1)))
  where
    built : (j o : List Kind) (ns : List (List ℕ)) → Before closing Names j ns o → g.IsElement (PRIMARY ∷ KEY ∷ opening ∷ j) (element.PrimaryKey ns) o
    built j o ns (before d) = g.IsElement.key d

column_sound : (i : List Kind) (y : Element × List Kind) → definitions.column i ≡ Some y → g.IsElement i y.0 y.1
unfolding definitions.column
column_sound i y h =
    let a = bind_some (read.name i) _ y h in
    let b = bind_some (definitions.column_type a.0.1) (λ t. definitions.not_null t.1 >>= λ b. under (definitions.column_of a.0.0 t.0 b.0) (definitions.primary_key b.1)) y a.2 in
    let c = bind_some (definitions.not_null b.0.1) (λ c. under (definitions.column_of a.0.0 b.0.0 c.0) (definitions.primary_key c.1)) y b.2 in
    let u = under_some (definitions.column_of a.0.0 b.0.0 c.0.0) (definitions.primary_key c.0.1) y c.2 in
    subst (λ (z : Element × List Kind). g.IsElement i z.0 z.1) u.2
    (g.IsElement.column (name_exact.sound i a.0 a.1) (type_sound a.0.1 b.0 b.1)
    (both_sound (codes "NOT") (codes "NULL") g.NotNull (λ o. g.nullable) (λ o. g.not_null) b.0.1 c.0 c.1)
    (both_sound (codes "PRIMARY") (codes "KEY") g.PrimaryKey (λ o. g.no_key) (λ o. g.PrimaryKey.key) c.0.1 u.0 u.1))

column_complete : (i j m n o : List Kind) (c : List ℕ) (t : ColumnKind × ℕ) (b k : Bool)
    → rules.Name i c j → g.IsType j t m → g.NotNull m b n → g.PrimaryKey n k o → OneOf ELEMENT o → definitions.column i ≡ Some (definitions.column_of c t b k, o)
unfolding definitions.column
column_complete i j m n o c t b k named typed null keyed f =
    let at_n : OneOf UNKEYED n = primary_key_first n o k keyed f in
    let at_m : OneOf TYPED m = not_null_first m n b null at_n in
    rw (
      name_exact.complete i j c named tt,
      type_complete j m t typed at_m,
      not_null_complete m n b null at_n,
      primary_key_complete n o k keyed f,
    ) refl

column_first : (i o : List Kind) (c : List ℕ) → rules.Name i c o → sees PRIMARY i ≡ false
unfolding is_reserved
column_first i o c (rules.name {k = k} d) = name_unseen (codes "PRIMARY") k c o refl d

element_exact : Exact g.IsElement definitions.element_at (OneOf ELEMENT)
unfolding definitions.element_at definitions.key
element_exact = record { sound = sound; complete = complete; shorter = shorter }
  where
    sound : (i : List Kind) (y : Element × List Kind) → definitions.element_at i ≡ Some y → g.IsElement i y.0 y.1
    sound i y h =
        elim (chosen (sees PRIMARY i) (definitions.key (behind i)) (definitions.column i) (Some y) h) [
          | inl t ↦ subst (λ (j : List Kind). g.IsElement j y.0 y.1) (sym (sees_is PRIMARY i t.0)) (key_sound (behind i) y t.1)
          | inr t ↦ column_sound i y t.1
        ]

    complete : (i o : List Kind) (x : Element) → g.IsElement i x o → OneOf ELEMENT o → definitions.element_at i ≡ Some (x, o)
    complete i o x (g.IsElement.column {j = j} {m = m} {n = n} {c = c} {t = t} {b = b} {k = k} named typed null keyed) f =
        rw (column_first i j c named) (column_complete i j m n o c t b k named typed null keyed f)
    complete i o x (g.IsElement.key {i = j} {ns = ns} d) f = rw (keys_exact.complete j o ns (before d) tt) refl

    shorter : (i o : List Kind) (x : Element) → g.IsElement i x o → length o < length i
    shorter i o x (g.IsElement.column {j = j} {m = m} {n = n} {c = c} {t = t} {b = b} {k = k} named typed null keyed) =
        omega (arith, name_exact.shorter i j c named, type_shorter j m t typed, not_null_shorter m n b null, primary_key_shorter n o k keyed)
    shorter i o x (g.IsElement.key {i = j} {ns = ns} d) = omega (arith, names_exact.shorter j (closing ∷ o) ns d)

abbrev CLOSED : List Kind
CLOSED = closing ∷ []

elements_exact : Exact (Parted comma g.IsElement) definitions.elements (OneOf CLOSED)
unfolding definitions.elements
elements_exact =
    parted_exact comma g.IsElement definitions.element_at (OneOf ELEMENT) element_exact refl (λ i. refl) (OneOf CLOSED) (λ o f. one_more comma CLOSED o f) (λ o f. unseen comma CLOSED o refl f)

all_exact : Exact (Before closing (Parted comma g.IsElement)) (closed definitions.elements) Anywhere
all_exact = closed_exact (Parted comma g.IsElement) definitions.elements (OneOf CLOSED) elements_exact (λ o. refl)

-- ---- the statement

statement_sound : (i : List Kind) (y : Statement × List Kind) → definitions.table_statement i ≡ Some y → g.TableStatement i y.0 y.1
unfolding definitions.table_statement
statement_sound i y h =
    let a = bind_some (expect (Word (codes "CREATE")) i) _ y h in
    let b = bind_some (expect (Word (codes "TABLE")) a.0) _ y a.2 in
    let c = bind_some (tables.table b.0) (λ t. expect opening t.1 >>= λ m. closed definitions.elements m >>= λ es. definitions.made t.0 es) y b.2 in
    let d = bind_some (expect opening c.0.1) (λ m. closed definitions.elements m >>= λ es. definitions.made c.0.0 es) y c.2 in
    let e = bind_some (closed definitions.elements d.0) (λ es. definitions.made c.0.0 es) y d.2 in
    let w = guard (list_any g.is_column e.0.0) (Some (statement.CreateTable (record { table = c.0.0; elements = e.0.0 }), e.0.1)) y e.2 in
    let table : rules.Table b.0 c.0.0 (opening ∷ d.0) = subst (λ (o : List Kind). rules.Table b.0 c.0.0 o) (expect_is opening c.0.1 d.0 d.1) (table_exact.sound b.0 c.0 c.1) in
    let here : i ≡ Word (codes "CREATE") ∷ Word (codes "TABLE") ∷ b.0 =
    expect_is (Word (codes "CREATE")) i a.0 a.1 ∙ ap (λ (o : List Kind). Word (codes "CREATE") ∷ o) (expect_is (Word (codes "TABLE")) a.0 b.0 b.1) in
    subst (λ (z : Statement × List Kind). g.TableStatement i z.0 z.1) (some_is (statement.CreateTable (record { table = c.0.0; elements = e.0.0 }), e.0.1) y w.1)
    (subst (λ (j : List Kind). g.TableStatement j (statement.CreateTable (record { table = c.0.0; elements = e.0.0 })) e.0.1) (sym here)
    (built b.0 d.0 e.0.1 c.0.0 e.0.0 table (all_exact.sound d.0 e.0 e.1) w.0))
  where
    built : (j m o : List Kind) (t : TableReference) (es : List Element) → rules.Table j t (opening ∷ m) → Before closing (Parted comma g.IsElement) m es o → list_any g.is_column es ≡ true
        → g.TableStatement (Word (codes "CREATE") ∷ Word (codes "TABLE") ∷ j) (statement.CreateTable (record { table = t; elements = es })) o
    built j m o t es named (before d) any = g.creates named d any

statement_complete : (i o : List Kind) (x : Statement) → g.TableStatement i x o → definitions.table_statement i ≡ Some (x, o)
unfolding definitions.table_statement
statement_complete i o x (g.creates {i = j} {j = m} {t = t} {es = es} named d any) =
    rw (table_exact.complete j (opening ∷ m) t named refl, all_exact.complete m o es (before d) tt, any) refl

-- ---- all tokens

whole_reads : Reads (λ ks. ks) (λ depth. g.TableStatement) definitions.table_statement
whole_reads = record { sound = λ i y h. (0, statement_sound i y h); complete = λ depth i o x few d f. statement_complete i o x d }

pub one_way : (ts : List Kind) (x y : Statement) → g.IsTableStatement ts x → g.IsTableStatement ts y → x ≡ y
one_way = one_whole (λ ks. ks) (λ depth. g.TableStatement) definitions.table_statement whole_reads

pub found : {X : Type 0} (ts : List Kind) (view : X → Statement × List Kind) (r : Result X Stop) (answer : Result (Option Statement) Memory)
    → Gives view r (definitions.table_statement ts) → Ends view r answer → opens_few 0 ts ≡ true → Finds (g.IsTableStatement ts) answer
found ts view r answer gives ends = whole_found (λ ks. ks) (λ depth. g.TableStatement) definitions.table_statement whole_reads ts answer (ended_gives (λ ks. ks) view r (definitions.table_statement ts) answer gives ends)
