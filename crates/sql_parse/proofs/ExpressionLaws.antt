-- Each reader of an expression reads exactly its rule.
use Rattle.std.proofs.Common.{◌≡◌, ℕ, zero, suc, ◌<◌, ◌≤◌, Bool, true, false, cond, ◌||◌, List, [], ◌∷◌, length, Option, Some, None, refl, sym, ap, subst, ◌∙◌, arith, inl, inr}
use Rattle.std.specs.Prelude.{codes, ◌==◌}
use Rattle.std.specs.List.{list_any}
use Rattle.std.specs.Str.{bytes_eq}
use Rattle.std.proofs.lemmas.Slice.Eq.{bytes_eq-Decides}
use Rattle.sql_lex.specs.declared.token.Kind.{Kind}
use Rattle.sql_lex.specs.declared.token.Kind.TheVariants.{Word, Quoted, Number, Text, Mark}
use Rattle.sql_ast.specs.declared.context.Attribute.{Attribute}
use Rattle.sql_ast.specs.declared.context.Attribute.TheVariants as attribute
use Rattle.sql_ast.specs.declared.expression.Expr.{Expr}
use Rattle.sql_ast.specs.declared.expression.Expr.TheVariants as e
use Rattle.sql_ast.specs.declared.expression.Relation.{Relation}
use Rattle.sql_ast.specs.declared.expression.Relation.TheVariants as relation
use Rattle.std.specs.Prelude.{◌&&◌, ◌⊎◌}
use Rattle.sql_ast.specs.Attributes.{attribute_name, each_attribute, namespace}
use Rattle.sql_lex.specs.declared.token.Mark.{Mark as MarkName}
use Rattle.sql_lex.specs.declared.token.Mark.TheVariants as mark
use Rattle.sql_parse.specs.descent.MomentReading.{moment_read}
use Rattle.sql_parse.proofs.MomentLaws.{moment_sound, moment_complete}
use Rattle.sql_parse.specs.Symbols.{mark_number, same, sees, opening, closing, star, plus, comma, minus, dot, is_free, is_reserved, level, level_at}
use Rattle.sql_parse.specs.Rules.{Parted, parted}
use Rattle.sql_parse.specs.Expressions as g
use Rattle.sql_parse.specs.descent.Reading as read
use Rattle.sql_parse.specs.descent.Reading.{◌>>=◌, under, behind, expect}
use Rattle.sql_parse.proofs.Exact.{bind_some, under_some, some_is, same_is, mark_is, chosen, guard, guard_not, sees_is, expect_is, not_seen, Exact, Above, Repeats, parted_exact, many_sound, many_complete, many_follows, many_shorter}

-- ---- names

name_of_sound : (k : Kind) (n : List ℕ) → read.name_of k ≡ Some n → g.IsName k n
name_of_sound (Quoted q) n h = subst (λ (m : List ℕ). g.IsName (Quoted q) m) (some_is q n h) g.quoted
name_of_sound (Word w) n h =
    let t = guard (is_free w) (Some w) n h in subst (λ (m : List ℕ). g.IsName (Word w) m) (some_is w n t.1) (g.word t.0)
name_of_sound (Number q) n h = absurd cc
name_of_sound (Text q) n h = absurd cc
name_of_sound (Mark q) n h = absurd cc

pub name_of_complete : (k : Kind) (n : List ℕ) → g.IsName k n → read.name_of k ≡ Some n
name_of_complete k n g.quoted = refl
name_of_complete k n (g.word f) = rw f refl

pub name_sound : (i : List Kind) (y : List ℕ × List Kind) → read.name i ≡ Some y → (k : Kind) × (i ≡ k ∷ y.1) × g.IsName k y.0
unfolding read.name
name_sound [] y h = absurd cc
name_sound (k ∷ o) y h =
    let b = bind_some (read.name_of k) (λ n. Some (n, o)) y h in
    subst (λ (z : List ℕ × List Kind). (l : Kind) × (k ∷ o ≡ l ∷ z.1) × g.IsName l z.0) (some_is (b.0, o) y b.2) (k, refl, name_of_sound k b.0 b.1)

pub name_complete : (k : Kind) (n : List ℕ) (o : List Kind) → g.IsName k n → read.name (k ∷ o) ≡ Some (n, o)
unfolding read.name
name_complete k n o d = rw (name_of_complete k n d) refl

-- a column ends where no dot follows
abbrev NoDot : List Kind → Type 0
NoDot o = sees dot o ≡ false

column_sound : (i : List Kind) (y : Expr × List Kind) → read.column i ≡ Some y → g.Column i y.0 y.1
unfolding read.column
column_sound i y h =
    let b = bind_some (read.name i) (λ n. cond (sees dot n.1) (read.name (behind n.1) >>= λ m. Some (e.Column (Some n.0) m.0, m.1)) (Some (e.Column None n.0, n.1))) y h in
    let n = name_sound i b.0 b.1 in
    elim (chosen (sees dot b.0.1) (read.name (behind b.0.1) >>= λ m. Some (e.Column (Some b.0.0) m.0, m.1)) (Some (e.Column None b.0.0, b.0.1)) (Some y) b.2) [
      | inl t ↦
          let c = bind_some (read.name (behind b.0.1)) (λ m. Some (e.Column (Some b.0.0) m.0, m.1)) y t.1 in
          let m = name_sound (behind b.0.1) c.0 c.1 in
          let here : i ≡ n.0 ∷ dot ∷ m.0 ∷ c.0.1 = n.1 ∙ ap (λ (r : List Kind). n.0 ∷ r) (sees_is dot b.0.1 t.0) ∙ ap (λ (r : List Kind). n.0 ∷ dot ∷ r) m.1 in
          subst (λ (z : Expr × List Kind). g.Column i z.0 z.1) (some_is (e.Column (Some b.0.0) c.0.0, c.0.1) y c.2) (subst (λ (j : List Kind). g.Column j (e.Column (Some b.0.0) c.0.0) c.0.1) (sym here) (g.qualified n.2 m.2))
      | inr t ↦
          subst (λ (z : Expr × List Kind). g.Column i z.0 z.1) (some_is (e.Column None b.0.0, b.0.1) y t.1) (subst (λ (j : List Kind). g.Column j (e.Column None b.0.0) b.0.1) (sym n.1) (g.bare n.2))
    ]

column_complete : (i o : List Kind) (x : Expr) → g.Column i x o → NoDot o → read.column i ≡ Some (x, o)
unfolding read.column
column_complete i o x (g.bare {k = k} {n = n} d) f = rw (name_complete k n o d, f) refl
column_complete i o x (g.qualified {k = k} {l = l} {t = t} {n = n} d c) f = rw (name_complete k t (dot ∷ l ∷ o) d, name_complete l n o c) refl

column_shorter : (i o : List Kind) (x : Expr) → g.Column i x o → length o < length i
column_shorter i o x (g.bare d) = omega arith
column_shorter i o x (g.qualified d c) = omega arith

-- ---- atoms

word_is : (a b : List ℕ) → bytes_eq a b ≡ true → a ≡ b
word_is a b h = (bytes_eq-Decides a b).0 h

pub no_clash : (known w : List ℕ) → is_reserved known ≡ true → is_free w ≡ true → bytes_eq known w ≡ false
no_clash known w r f = go (bytes_eq known w) refl
  where
    go : (b : Bool) → bytes_eq known w ≡ b → b ≡ false
    go false h = refl
    go true h =
        let is : is_reserved w ≡ true = subst (λ (v : List ℕ). is_reserved v ≡ true) (word_is known w h) r in
        let none_left : is_free w ≡ false = rw is refl in absurd cc

pub null_reserved : is_reserved (codes "NULL") ≡ true
unfolding is_reserved
null_reserved = refl

pub user_reserved : is_reserved (codes "USER") ≡ true
unfolding is_reserved
user_reserved = refl

pub now_reserved : is_reserved (codes "SYSTIMESTAMP") ≡ true
unfolding is_reserved
now_reserved = refl

pub timestamp_reserved : is_reserved (codes "TIMESTAMP") ≡ true
unfolding is_reserved
timestamp_reserved = refl

-- ---- literals of moments, and SYS_CONTEXT

literal_of_sound : (k : Kind) (t : List ℕ) → read.literal_of k ≡ Some t → k ≡ Text t
literal_of_sound (Text u) t h = ap (λ (v : List ℕ). Text v) (some_is u t h)
literal_of_sound (Word u) t h = absurd cc
literal_of_sound (Quoted u) t h = absurd cc
literal_of_sound (Number u) t h = absurd cc
literal_of_sound (Mark u) t h = absurd cc

literal_sound : (i : List Kind) (y : List ℕ × List Kind) → read.literal i ≡ Some y → i ≡ Text y.0 ∷ y.1
unfolding read.literal
literal_sound [] y h = absurd cc
literal_sound (k ∷ o) y h =
    let b = bind_some (read.literal_of k) (λ t. Some (t, o)) y h in
    subst (λ (z : List ℕ × List Kind). k ∷ o ≡ Text z.0 ∷ z.1) (some_is (b.0, o) y b.2) (ap (λ (l : Kind). l ∷ o) (literal_of_sound k b.0 b.1))

either : (a b : Bool) → (a || b) ≡ true → (a ≡ true) ⊎ (b ≡ true)
either true b h = inl refl
either false b h = inr h

attribute_is : (t : List ℕ) → read.is_attribute t ≡ true → g.IsAttribute t
unfolding read.is_attribute read.is_named
attribute_is t h = among each_attribute h
  where
    among : (each : List Attribute) → list_any (read.is_named t) each ≡ true → g.IsAttribute t
    among [] e = absurd cc
    among (x ∷ xs) e = elim (either (bytes_eq t (attribute_name x)) (list_any (read.is_named t) xs) e) [
      | inl named ↦ (x, (bytes_eq-Decides t (attribute_name x)).0 named)
      | inr later ↦ among xs later
    ]

attribute_test : (t : List ℕ) → g.IsAttribute t → read.is_attribute t ≡ true
unfolding read.is_attribute read.is_named
attribute_test t (attribute.SessionUser, e) = rw e refl
attribute_test t (attribute.SessionId, e) = rw e refl

both : (a b : Bool) → (a && b) ≡ true → (a ≡ true) × (b ≡ true)
both true b h = (refl, h)
both false b h = absurd cc

and_false : (b : Bool) → (b && false) ≡ false
and_false true = refl
and_false false = refl

module _ (Inner : List Kind → Expr → List Kind → Type 0) where
  moment_atom : (i : List Kind) (y : Expr × List Kind) → read.moment i ≡ Some y → g.Atom Inner (Word (codes "TIMESTAMP") ∷ i) y.0 y.1
  unfolding read.moment
  moment_atom i y h =
      let a = bind_some (read.literal i) (λ t. moment_read t.0 >>= λ m. Some (e.Moment m, t.1)) y h in
      let b = bind_some (moment_read a.0.0) (λ m. Some (e.Moment m, a.0.1)) y a.2 in
      subst (λ (z : Expr × List Kind). g.Atom Inner (Word (codes "TIMESTAMP") ∷ i) z.0 z.1) (some_is (e.Moment b.0, a.0.1) y b.2)
      (subst (λ (j : List Kind). g.Atom Inner (Word (codes "TIMESTAMP") ∷ j) (e.Moment b.0) a.0.1) (sym (literal_sound i a.0 a.1)) (g.moment (moment_sound a.0.0 b.0 b.1)))

  context_atom : (i : List Kind) (y : Expr × List Kind) → read.context i ≡ Some y → g.Atom Inner (Word (codes "SYS_CONTEXT") ∷ opening ∷ i) y.0 y.1
  unfolding read.context
  context_atom i y h =
      let a = bind_some (read.literal i) (λ n. expect comma n.1 >>= λ m. read.literal m >>= λ t. expect closing t.1 >>= λ o. read.attribute_of n.0 t.0 o) y h in
      let b = bind_some (expect comma a.0.1) (λ m. read.literal m >>= λ t. expect closing t.1 >>= λ o. read.attribute_of a.0.0 t.0 o) y a.2 in
      let c = bind_some (read.literal b.0) (λ t. expect closing t.1 >>= λ o. read.attribute_of a.0.0 t.0 o) y b.2 in
      let d = bind_some (expect closing c.0.1) (λ o. read.attribute_of a.0.0 c.0.0 o) y c.2 in
      let t = guard (bytes_eq (g.upper a.0.0) namespace && read.is_attribute (g.upper c.0.0)) (Some (e.Context (g.upper c.0.0), d.0)) y d.2 in
      let u = both (bytes_eq (g.upper a.0.0) namespace) (read.is_attribute (g.upper c.0.0)) t.0 in
      let second : b.0 ≡ Text c.0.0 ∷ closing ∷ d.0 = literal_sound b.0 c.0 c.1 ∙ ap (λ (r : List Kind). Text c.0.0 ∷ r) (expect_is closing c.0.1 d.0 d.1) in
      let here : i ≡ Text a.0.0 ∷ comma ∷ Text c.0.0 ∷ closing ∷ d.0 =
      literal_sound i a.0 a.1 ∙ ap (λ (r : List Kind). Text a.0.0 ∷ r) (expect_is comma a.0.1 b.0 b.1) ∙ ap (λ (r : List Kind). Text a.0.0 ∷ comma ∷ r) second in
      subst (λ (z : Expr × List Kind). g.Atom Inner (Word (codes "SYS_CONTEXT") ∷ opening ∷ i) z.0 z.1) (some_is (e.Context (g.upper c.0.0), d.0) y t.1)
      (subst (λ (j : List Kind). g.Atom Inner (Word (codes "SYS_CONTEXT") ∷ opening ∷ j) (e.Context (g.upper c.0.0)) d.0) (sym here)
      (g.context ((bytes_eq-Decides (g.upper a.0.0) namespace).0 u.0) (attribute_is (g.upper c.0.0) u.1)))

  worded_atom_sound : (i : List Kind) (y : Expr × List Kind) → read.worded_atom i ≡ Some y → g.Atom Inner i y.0 y.1
  unfolding read.worded_atom
  worded_atom_sound i y h =
      elim (chosen (sees (Word (codes "NULL")) i) (Some (e.Null, behind i)) _ (Some y) h) [
        | inl t ↦ seen (codes "NULL") e.Null t.0 t.1 g.null
        | inr t ↦ elim (chosen (sees (Word (codes "USER")) i) (Some (e.User, behind i)) _ (Some y) t.1) [
          | inl t ↦ seen (codes "USER") e.User t.0 t.1 g.user
          | inr t ↦ elim (chosen (sees (Word (codes "SYSTIMESTAMP")) i) (Some (e.Now, behind i)) _ (Some y) t.1) [
            | inl t ↦ seen (codes "SYSTIMESTAMP") e.Now t.0 t.1 g.now
            | inr t ↦ elim (chosen (sees (Word (codes "TIMESTAMP")) i) (read.moment (behind i)) _ (Some y) t.1) [
              | inl t ↦ subst (λ (j : List Kind). g.Atom Inner j y.0 y.1) (sym (sees_is (Word (codes "TIMESTAMP")) i t.0)) (moment_atom (behind i) y t.1)
              | inr t ↦ elim (chosen (sees (Word (codes "SYS_CONTEXT")) i && sees opening (behind i)) (read.context (behind (behind i))) _ (Some y) t.1) [
                | inl t ↦
                    let u = both (sees (Word (codes "SYS_CONTEXT")) i) (sees opening (behind i)) t.0 in
                    let here : i ≡ Word (codes "SYS_CONTEXT") ∷ opening ∷ behind (behind i) =
                    sees_is (Word (codes "SYS_CONTEXT")) i u.0 ∙ ap (λ (r : List Kind). Word (codes "SYS_CONTEXT") ∷ r) (sees_is opening (behind i) u.1) in
                    subst (λ (j : List Kind). g.Atom Inner j y.0 y.1) (sym here) (context_atom (behind (behind i)) y t.1)
                | inr t ↦ g.column (column_sound i y t.1)
              ]
            ]
          ]
        ]
      ]
    where
      seen : (w : List ℕ) (x : Expr) → sees (Word w) i ≡ true → Some (x, behind i) ≡ Some y → g.Atom Inner (Word w ∷ behind i) x (behind i) → g.Atom Inner i y.0 y.1
      seen w x s same d =
          subst (λ (z : Expr × List Kind). g.Atom Inner i z.0 z.1) (some_is (x, behind i) y same)
          (subst (λ (j : List Kind). g.Atom Inner j x (behind i)) (sym (sees_is (Word w) i s)) d)

module _ (Inner : List Kind → Expr → List Kind → Type 0) (inner : List Kind → Option (Expr × List Kind)) (r : Exact Inner inner (Above 6)) where
  parenthesized_sound : (i : List Kind) (y : Expr × List Kind) → read.parenthesized inner i ≡ Some y → g.Atom Inner (opening ∷ i) y.0 y.1
  parenthesized_sound i y h =
      let b = bind_some (inner i) (λ x. expect closing x.1 >>= λ o. Some (x.0, o)) y h in
      let c = bind_some (expect closing b.0.1) (λ o. Some (b.0.0, o)) y b.2 in
      let t = guard (sees closing b.0.1) (Some (behind b.0.1)) c.0 c.1 in
      let ends : b.0.1 ≡ closing ∷ c.0 = sees_is closing b.0.1 t.0 ∙ ap (λ (o : List Kind). closing ∷ o) (some_is (behind b.0.1) c.0 t.1) in
      subst (λ (z : Expr × List Kind). g.Atom Inner (opening ∷ i) z.0 z.1) (some_is (b.0.0, c.0) y c.2) (g.inner (subst (λ (o : List Kind). Inner i b.0.0 o) ends (r.sound i b.0 b.1)))

  atom_sound : (i : List Kind) (y : Expr × List Kind) → read.atom inner i ≡ Some y → g.Atom Inner i y.0 y.1
  unfolding read.atom
  atom_sound [] y h = absurd cc
  atom_sound (Number n ∷ o) y h = subst (λ (z : Expr × List Kind). g.Atom Inner (Number n ∷ o) z.0 z.1) (some_is (e.Number n, o) y h) g.number
  atom_sound (Text t ∷ o) y h = subst (λ (z : Expr × List Kind). g.Atom Inner (Text t ∷ o) z.0 z.1) (some_is (e.Literal t, o) y h) g.literal
  atom_sound (Mark m ∷ o) y h =
      let t = guard (mark_number m == 0) (read.parenthesized inner o) y h in
      subst (λ (k : MarkName). g.Atom Inner (Mark k ∷ o) y.0 y.1) (sym (mark_is m mark.OpenParenthesis t.0)) (parenthesized_sound o y t.1)
  atom_sound (Quoted n ∷ o) y h = g.column (column_sound (Quoted n ∷ o) y h)
  atom_sound (Word w ∷ o) y h = worded_atom_sound Inner (Word w ∷ o) y h

  -- a column's first token leads to the column
  atom_by_name : (k : Kind) (n : List ℕ) (o : List Kind) → g.IsName k n → sees opening o ≡ false → read.atom inner (k ∷ o) ≡ read.column (k ∷ o)
  unfolding read.atom read.worded_atom
  atom_by_name k n o g.quoted shut = refl
  atom_by_name k n o (g.word f) shut =
      rw (
        no_clash (codes "NULL") n null_reserved f,
        no_clash (codes "USER") n user_reserved f,
        no_clash (codes "SYSTIMESTAMP") n now_reserved f,
        no_clash (codes "TIMESTAMP") n timestamp_reserved f,
        shut,
        and_false (bytes_eq (codes "SYS_CONTEXT") n),
      ) refl

  atom_of_column : (i o : List Kind) (x : Expr) → g.Column i x o → sees opening o ≡ false → read.atom inner i ≡ read.column i
  atom_of_column i o x (g.bare {k = k} {n = n} d) shut = atom_by_name k n o d shut
  atom_of_column i o x (g.qualified {k = k} {l = l} {t = t} {n = n} d c) shut = atom_by_name k t (dot ∷ l ∷ o) d refl

  atom_complete : (i o : List Kind) (x : Expr) → g.Atom Inner i x o → Above 1 o → read.atom inner i ≡ Some (x, o)
  unfolding read.atom read.worded_atom read.moment read.context read.literal
  atom_complete i o x g.number f = refl
  atom_complete i o x g.literal f = refl
  atom_complete i o x g.null f = refl
  atom_complete i o x g.user f = refl
  atom_complete i o x g.now f = refl
  atom_complete i o x (g.column d) f = atom_of_column i o x d (not_seen opening o 1 (omega arith) f) ∙ column_complete i o x d (not_seen dot o 1 (omega arith) f)
  atom_complete i o x (g.moment {t = t} {m = m} d) f = rw (moment_complete t m d) refl
  atom_complete i o x (g.context {n = n} {t = t} d a) f =
      rw ((bytes_eq-Decides (g.upper n) namespace).1 d, attribute_test (g.upper t) a) refl
  atom_complete i o x (g.inner {i = j} d) f = rw (r.complete j (closing ∷ o) x d (omega arith)) refl

  atom_shorter : (i o : List Kind) (x : Expr) → g.Atom Inner i x o → length o < length i
  atom_shorter i o x g.number = omega arith
  atom_shorter i o x g.literal = omega arith
  atom_shorter i o x g.null = omega arith
  atom_shorter i o x g.user = omega arith
  atom_shorter i o x g.now = omega arith
  atom_shorter i o x (g.column d) = column_shorter i o x d
  atom_shorter i o x (g.moment d) = omega arith
  atom_shorter i o x (g.context d a) = omega arith
  atom_shorter i o x (g.inner {i = j} d) = omega (arith, r.shorter j (closing ∷ o) x d)

  pub atom_exact : Exact (g.Atom Inner) (read.atom inner) (Above 1)
  atom_exact = record { sound = atom_sound; complete = atom_complete; shorter = atom_shorter }

-- ---- lists under one node

module _ (k : Kind) (make : List Expr → Expr) (P : List Kind → Expr → List Kind → Type 0) (p : List Kind → Option (Expr × List Kind)) (F : List Kind → Type 0) where
  joined_exact : Exact (Parted k P) (read.parted k p) F → Exact (g.Joined k make P) (λ i. under (g.joined make) (read.parted k p i)) F
  joined_exact q = record { sound = sound; complete = complete; shorter = shorter }
    where
      sound : (i : List Kind) (y : Expr × List Kind) → under (g.joined make) (read.parted k p i) ≡ Some y → g.Joined k make P i y.0 y.1
      sound i y h =
          let b = under_some (g.joined make) (read.parted k p i) y h in
          subst (λ (z : Expr × List Kind). g.Joined k make P i z.0 z.1) b.2 (g.joins (q.sound i b.0 b.1))

      complete : (i o : List Kind) (x : Expr) → g.Joined k make P i x o → F o → under (g.joined make) (read.parted k p i) ≡ Some (x, o)
      complete i o x (g.joins {xs = xs} d) f = rw (q.complete i o xs d f) refl

      shorter : (i o : List Kind) (x : Expr) → g.Joined k make P i x o → length o < length i
      shorter i o x (g.joins {xs = xs} d) = q.shorter i o xs d

-- ---- first tokens

abbrev pub NOT : Kind
NOT = Word (codes "NOT")

-- the tokens that an atom begins with
abbrev pub begins_atom : Kind → Bool
begins_atom (Number n) = true
begins_atom (Text t) = true
begins_atom (Quoted n) = true
begins_atom (Mark m) = mark_number m == 0
begins_atom (Word w) = is_free w || (bytes_eq (codes "NULL") w || (bytes_eq (codes "USER") w || (bytes_eq (codes "SYSTIMESTAMP") w || bytes_eq (codes "TIMESTAMP") w)))

abbrev pub begins_sum : Kind → Bool
begins_sum k = begins_atom k || same minus k

abbrev pub First : (Kind → Bool) → List Kind → Type 0
First p [] = ⊥
First p (k ∷ o) = p k ≡ true

-- a token that none of the first is doesn't come next
pub excluded : (p : Kind → Bool) (k : Kind) (i : List Kind) → p k ≡ false → First p i → sees k i ≡ false
excluded p k [] out f = refl
excluded p k (t ∷ o) out f = go (same k t) refl
  where
    go : (b : Bool) → same k t ≡ b → b ≡ false
    go false e = refl
    go true e = let is : p k ≡ true = subst (λ (u : Kind). p u ≡ true) (sym (same_is k t e)) f in cc

name_first : (k : Kind) (n : List ℕ) → g.IsName k n → begins_atom k ≡ true
name_first k n g.quoted = refl
name_first k n (g.word f) = rw f refl

column_first : (i o : List Kind) (x : Expr) → g.Column i x o → First begins_atom i
column_first i o x (g.bare {k = k} {n = n} d) = name_first k n d
column_first i o x (g.qualified {k = k} {t = t} d c) = name_first k t d

no_minus : begins_atom minus ≡ false
no_minus = refl

no_not : begins_sum NOT ≡ false
unfolding is_reserved
no_not = refl

pub no_star : begins_sum star ≡ false
no_star = refl

wider : (i : List Kind) → First begins_atom i → First begins_sum i
wider [] f = f
wider (k ∷ o) f = rw f refl

-- ---- tests

relation_of_mark_sound : (m : MarkName) (r : Relation) → read.relation_of_mark m ≡ Some r → g.Compare (Mark m) r
relation_of_mark_sound mark.Equal r h = subst (λ (q : Relation). g.Compare (Mark mark.Equal) q) (some_is relation.Equal r h) g.equal
relation_of_mark_sound mark.LessGreater r h = subst (λ (q : Relation). g.Compare (Mark mark.LessGreater) q) (some_is relation.Unequal r h) g.unequal
relation_of_mark_sound mark.NotEqual r h = subst (λ (q : Relation). g.Compare (Mark mark.NotEqual) q) (some_is relation.Unequal r h) g.unequal_too
relation_of_mark_sound mark.Less r h = subst (λ (q : Relation). g.Compare (Mark mark.Less) q) (some_is relation.Less r h) g.less
relation_of_mark_sound mark.LessEqual r h = subst (λ (q : Relation). g.Compare (Mark mark.LessEqual) q) (some_is relation.LessEqual r h) g.less_equal
relation_of_mark_sound mark.Greater r h = subst (λ (q : Relation). g.Compare (Mark mark.Greater) q) (some_is relation.Greater r h) g.greater
relation_of_mark_sound mark.GreaterEqual r h = subst (λ (q : Relation). g.Compare (Mark mark.GreaterEqual) q) (some_is relation.GreaterEqual r h) g.greater_equal
relation_of_mark_sound mark.OpenParenthesis r h = absurd cc
relation_of_mark_sound mark.CloseParenthesis r h = absurd cc
relation_of_mark_sound mark.Comma r h = absurd cc
relation_of_mark_sound mark.Period r h = absurd cc
relation_of_mark_sound mark.Semicolon r h = absurd cc
relation_of_mark_sound mark.Asterisk r h = absurd cc
relation_of_mark_sound mark.Plus r h = absurd cc
relation_of_mark_sound mark.Minus r h = absurd cc
relation_of_mark_sound mark.Arrow r h = absurd cc

relation_of_sound : (k : Kind) (r : Relation) → read.relation_of k ≡ Some r → g.Compare k r
relation_of_sound (Word q) r h = absurd cc
relation_of_sound (Quoted q) r h = absurd cc
relation_of_sound (Number q) r h = absurd cc
relation_of_sound (Text q) r h = absurd cc
relation_of_sound (Mark m) r h = relation_of_mark_sound m r h

relation_of_complete : (k : Kind) (r : Relation) → g.Compare k r → read.relation_of k ≡ Some r
relation_of_complete k r g.equal = refl
relation_of_complete k r g.unequal = refl
relation_of_complete k r g.unequal_too = refl
relation_of_complete k r g.less = refl
relation_of_complete k r g.less_equal = refl
relation_of_complete k r g.greater = refl
relation_of_complete k r g.greater_equal = refl

compare_level : (k : Kind) (r : Relation) → g.Compare k r → level k ≡ 4
compare_level k r g.equal = refl
compare_level k r g.unequal = refl
compare_level k r g.unequal_too = refl
compare_level k r g.less = refl
compare_level k r g.less_equal = refl
compare_level k r g.greater = refl
compare_level k r g.greater_equal = refl

relation_sound : (i : List Kind) (r : Relation) → read.relation_at i ≡ Some r → (k : Kind) × (i ≡ k ∷ behind i) × g.Compare k r
unfolding read.relation_at
relation_sound [] r h = absurd cc
relation_sound (k ∷ o) r h = (k, refl, relation_of_sound k r h)

no_relation : (o : List Kind) → Above 4 o → read.relation_at o ≡ None
no_relation o f = go (read.relation_at o) refl
  where
    go : (x : Option Relation) → read.relation_at o ≡ x → x ≡ None
    go None h = refl
    go (Some r) h =
        let c = relation_sound o r h in let at : level_at o ≡ level c.0 = ap level_at c.1 in absurd (omega (arith, at, compare_level c.0 r c.2))

negation_sound : (i o : List Kind) → read.past_not i ≡ o → g.Negation i (read.negates i) o
negation_sound i o h = go (read.negates i) refl h
  where
    go : (b : Bool) → read.negates i ≡ b → cond b (behind i) i ≡ o → g.Negation i b o
    go true s e = subst (λ (j : List Kind). g.Negation j true o) (sym (sees_is NOT i s ∙ ap (λ (r : List Kind). NOT ∷ r) e)) g.Negation.negated
    go false s e = subst (λ (j : List Kind). g.Negation i false j) e g.Negation.plain

negation_shorter : (i o : List Kind) (b : Bool) → g.Negation i b o → length o ≤ length i
negation_shorter i o b g.Negation.plain = omega arith
negation_shorter i o b g.Negation.negated = omega arith

module _ (Inner : List Kind → Expr → List Kind → Type 0) (inner : List Kind → Option (Expr × List Kind)) (r : Exact Inner inner (Above 6)) where
  atom_first : (i o : List Kind) (x : Expr) → g.Atom Inner i x o → First begins_atom i
  unfolding is_reserved
  atom_first i o x g.number = refl
  atom_first i o x g.literal = refl
  atom_first i o x g.null = refl
  atom_first i o x g.user = refl
  atom_first i o x g.now = refl
  atom_first i o x (g.column d) = column_first i o x d
  atom_first i o x (g.moment d) = refl
  atom_first i o x (g.context d a) = refl
  atom_first i o x (g.inner d) = refl

  factor_first : (i o : List Kind) (x : Expr) → g.Factor Inner i x o → First begins_sum i
  factor_first i o x (g.Factor.plain d) = wider i (atom_first i o x d)
  factor_first i o x (g.Factor.negated d) = refl

  pub sum_first : (i o : List Kind) (x : Expr) → g.Sum Inner i x o → First begins_sum i
  sum_first i o x (g.sums (g.joins (parted {m = m} {x = y} d ds)) es) = factor_first i m y d

  test_first : (i o : List Kind) (x : Expr) → g.Test Inner i x o → First begins_sum i
  test_first i o x (g.alone d) = sum_first i o x d
  test_first i o x (g.compares {m = m} {x = y} {k = k} d c s) = sum_first i (k ∷ m) y d
  test_first i o x (g.is_null {m = m} {x = y} d n) = sum_first i (Word (codes "IS") ∷ m) y d
  test_first i o x (g.like {m = m} {x = y} d n s) = sum_first i m y d
  test_first i o x (g.within {m = m} {x = y} d n s) = sum_first i m y d
  test_first i o x (g.between {m = m} {x = y} d n a b) = sum_first i m y d

  factor_exact : Exact (g.Factor Inner) (read.factor inner) (Above 1)
  unfolding read.factor
  factor_exact = record { sound = sound; complete = complete; shorter = shorter }
    where
      sound : (i : List Kind) (y : Expr × List Kind) → read.factor inner i ≡ Some y → g.Factor Inner i y.0 y.1
      sound i y h =
          elim (chosen (sees minus i) (under e.Negate (read.atom inner (behind i))) (read.atom inner i) (Some y) h) [
            | inl t ↦
                let b = under_some e.Negate (read.atom inner (behind i)) y t.1 in
                subst (λ (z : Expr × List Kind). g.Factor Inner i z.0 z.1) b.2
                (subst (λ (j : List Kind). g.Factor Inner j (e.Negate b.0.0) b.0.1) (sym (sees_is minus i t.0)) (g.Factor.negated (atom_sound Inner inner r (behind i) b.0 b.1)))
            | inr t ↦ g.Factor.plain (atom_sound Inner inner r i y t.1)
          ]

      complete : (i o : List Kind) (x : Expr) → g.Factor Inner i x o → Above 1 o → read.factor inner i ≡ Some (x, o)
      complete i o x (g.Factor.plain d) f = rw (excluded begins_atom minus i no_minus (atom_first i o x d)) (atom_complete Inner inner r i o x d f)
      complete i o x (g.Factor.negated {i = j} {x = y} d) f = rw (atom_complete Inner inner r j o y d f) refl

      shorter : (i o : List Kind) (x : Expr) → g.Factor Inner i x o → length o < length i
      shorter i o x (g.Factor.plain d) = atom_shorter Inner inner r i o x d
      shorter i o x (g.Factor.negated {i = j} {x = y} d) = omega (arith, atom_shorter Inner inner r j o y d)

  term_exact : Exact (g.Term Inner) (read.term inner) (Above 2)
  unfolding read.term
  term_exact = joined_exact star e.Product (g.Factor Inner) (read.factor inner) (Above 2)
      (parted_exact star (g.Factor Inner) (read.factor inner) (Above 1) factor_exact refl (λ i. omega arith) (Above 2) (λ o f. omega arith) (λ o f. not_seen star o 2 (omega arith) f))

  -- ---- sums

  -- a summand's sign is seen at its front
  summand_repeats : Repeats (g.Summand Inner) (read.summand inner) read.signed (Above 2)
  summand_repeats = record { sound = sound; complete = complete; begins = begins; follows = follows; shorter = shorter }
    where
      signed_sound : (i : List Kind) (y : (Bool × Expr) × List Kind) → read.signed i ≡ true → (b : Bool) → sees minus i ≡ b → under (λ x. (b, x)) (read.term inner (behind i)) ≡ Some y → g.Summand Inner i y.0 y.1
      signed_sound i y s true m h =
          let b = under_some (λ (x : Expr). (true, x)) (read.term inner (behind i)) y h in
          subst (λ (z : (Bool × Expr) × List Kind). g.Summand Inner i z.0 z.1) b.2
          (subst (λ (j : List Kind). g.Summand Inner j (true, b.0.0) b.0.1) (sym (sees_is minus i m)) (g.subtracted (term_exact.sound (behind i) b.0 b.1)))
      signed_sound i y s false m h =
          let b = under_some (λ (x : Expr). (false, x)) (read.term inner (behind i)) y h in
          subst (λ (z : (Bool × Expr) × List Kind). g.Summand Inner i z.0 z.1) b.2
          (subst (λ (j : List Kind). g.Summand Inner j (false, b.0.0) b.0.1) (sym (sees_is plus i (either (sees plus i) (sees minus i) s m))) (g.added (term_exact.sound (behind i) b.0 b.1)))
        where
          either : (a b : Bool) → (a || b) ≡ true → b ≡ false → a ≡ true
          either true b h n = refl
          either false true h n = absurd cc
          either false false h n = absurd cc

      sound : (i : List Kind) (y : (Bool × Expr) × List Kind) → read.signed i ≡ true → read.summand inner i ≡ Some y → g.Summand Inner i y.0 y.1
      sound i y s h = signed_sound i y s (sees minus i) refl h

      complete : (i o : List Kind) (x : Bool × Expr) → g.Summand Inner i x o → Above 2 o → read.summand inner i ≡ Some (x, o)
      complete i o x (g.added {i = j} {x = y} d) f = rw (term_exact.complete j o y d f) refl
      complete i o x (g.subtracted {i = j} {x = y} d) f = rw (term_exact.complete j o y d f) refl

      begins : (i o : List Kind) (x : Bool × Expr) → g.Summand Inner i x o → read.signed i ≡ true
      begins i o x (g.added d) = refl
      begins i o x (g.subtracted d) = refl

      follows : (i o : List Kind) (x : Bool × Expr) → g.Summand Inner i x o → Above 2 i
      follows i o x (g.added d) = omega arith
      follows i o x (g.subtracted d) = omega arith

      shorter : (i o : List Kind) (x : Bool × Expr) → g.Summand Inner i x o → length o < length i
      shorter i o x (g.added {i = j} {x = y} d) = omega (arith, term_exact.shorter j o y d)
      shorter i o x (g.subtracted {i = j} {x = y} d) = omega (arith, term_exact.shorter j o y d)

  pub sum_exact : Exact (g.Sum Inner) (read.sum inner) (Above 3)
  unfolding read.sum read.summands
  sum_exact = record { sound = sound; complete = complete; shorter = shorter }
    where
      sound : (i : List Kind) (y : Expr × List Kind) → read.sum inner i ≡ Some y → g.Sum Inner i y.0 y.1
      sound i y h =
          let a = under_some g.summed (read.summands inner i) y h in
          let b = bind_some (read.term inner i) (λ x. read.many read.signed (read.summand inner) (length x.1) ((false, x.0) ∷ []) x.1) a.0 a.1 in
          let c = many_sound (g.Summand Inner) (read.summand inner) read.signed (Above 2) summand_repeats (length b.0.1) ((false, b.0.0) ∷ []) b.0.1 a.0 b.2 in
          subst (λ (z : Expr × List Kind). g.Sum Inner i z.0 z.1) a.2
          (subst (λ (xs : List (Bool × Expr)). g.Sum Inner i (g.summed xs) a.0.1) (sym c.1) (g.sums (term_exact.sound i b.0 b.1) c.2))

      complete : (i o : List Kind) (x : Expr) → g.Sum Inner i x o → Above 3 o → read.sum inner i ≡ Some (x, o)
      complete i o x (g.sums {m = m} {x = y} {xs = ys} d ds) f =
          let ends : Above 2 o = omega arith in
          let stops : read.signed o ≡ false = rw (not_seen plus o 3 (omega arith) f, not_seen minus o 3 (omega arith) f) refl in
          rw (
            term_exact.complete i m y d (many_follows (g.Summand Inner) (read.summand inner) read.signed (Above 2) summand_repeats m o ys ds ends),
            many_complete (g.Summand Inner) (read.summand inner) read.signed (Above 2) summand_repeats (length m) ((false, y) ∷ []) m o ys ds ends stops (omega arith),
          ) refl

      shorter : (i o : List Kind) (x : Expr) → g.Sum Inner i x o → length o < length i
      shorter i o x (g.sums {m = m} {x = y} {xs = ys} d ds) =
          omega (arith, term_exact.shorter i m y d, many_shorter (g.Summand Inner) (read.summand inner) read.signed (Above 2) summand_repeats m o ys ds)

  -- ---- tests

  unfoldable pub EndsList : List Kind → Type 0
  EndsList o = (sees comma o ≡ false) × Above 3 o

  pub sums_exact : Exact (Parted comma (g.Sum Inner)) (read.parted comma (read.sum inner)) EndsList
  unfolding EndsList
  sums_exact = parted_exact comma (g.Sum Inner) (read.sum inner) (Above 3) sum_exact refl (λ i. omega arith) EndsList (λ o f. f.1) (λ o f. f.0)

  within_sound : (x : Expr) (b : Bool) (i m n : List Kind) (y : Expr × List Kind) → g.Sum Inner i x m → g.Negation m b (Word (codes "IN") ∷ n) → read.within inner x b n ≡ Some y → g.Test Inner i y.0 y.1
  unfolding read.within
  within_sound x b i m n y s neg h =
      let p = bind_some (expect opening n) (λ n. read.parted comma (read.sum inner) n >>= λ ys. expect closing ys.1 >>= λ o. Some (e.In x ys.0 b, o)) y h in
      let q = bind_some (read.parted comma (read.sum inner) p.0) (λ ys. expect closing ys.1 >>= λ o. Some (e.In x ys.0 b, o)) y p.2 in
      let t = bind_some (expect closing q.0.1) (λ o. Some (e.In x q.0.0 b, o)) y q.2 in
      let list : Parted comma (g.Sum Inner) p.0 q.0.0 (closing ∷ t.0) = subst (λ (o : List Kind). Parted comma (g.Sum Inner) p.0 q.0.0 o) (expect_is closing q.0.1 t.0 t.1) (sums_exact.sound p.0 q.0 q.1) in
      let opens : g.Negation m b (Word (codes "IN") ∷ opening ∷ p.0) = subst (λ (o : List Kind). g.Negation m b (Word (codes "IN") ∷ o)) (expect_is opening n p.0 p.1) neg in
      subst (λ (z : Expr × List Kind). g.Test Inner i z.0 z.1) (some_is (e.In x q.0.0 b, t.0) y t.2) (g.within s opens list)

  between_sound : (x : Expr) (b : Bool) (i m n : List Kind) (y : Expr × List Kind) → g.Sum Inner i x m → g.Negation m b (Word (codes "BETWEEN") ∷ n) → read.between inner x b n ≡ Some y → g.Test Inner i y.0 y.1
  unfolding read.between
  between_sound x b i m n y s neg h =
      let p = bind_some (read.sum inner n) (λ low. expect (Word (codes "AND")) low.1 >>= λ n. under (λ high. e.Between x low.0 high b) (read.sum inner n)) y h in
      let q = bind_some (expect (Word (codes "AND")) p.0.1) (λ n. under (λ high. e.Between x p.0.0 high b) (read.sum inner n)) y p.2 in
      let t = under_some (λ (high : Expr). e.Between x p.0.0 high b) (read.sum inner q.0) y q.2 in
      let low : g.Sum Inner n p.0.0 (Word (codes "AND") ∷ q.0) = subst (λ (o : List Kind). g.Sum Inner n p.0.0 o) (expect_is (Word (codes "AND")) p.0.1 q.0 q.1) (sum_exact.sound n p.0 p.1) in
      subst (λ (z : Expr × List Kind). g.Test Inner i z.0 z.1) t.2 (g.between s neg low (sum_exact.sound q.0 t.0 t.1))

  worded_sound : (x : Expr) (i m : List Kind) (y : Expr × List Kind) → g.Sum Inner i x m → read.worded inner x m (read.negates m) (read.past_not m) ≡ Some y → g.Test Inner i y.0 y.1
  worded_sound x i m y s h =
      let b = read.negates m in
      let j = read.past_not m in
      elim (chosen (sees (Word (codes "LIKE")) j) (read.like inner x b (behind j)) _ (Some y) h) [
        | inl t ↦
            let u = under_some (λ (z : Expr). e.Like x z b) (read.sum inner (behind j)) y t.1 in
            subst (λ (z : Expr × List Kind). g.Test Inner i z.0 z.1) u.2 (g.like s (negation_sound m (Word (codes "LIKE") ∷ behind j) (sees_is (Word (codes "LIKE")) j t.0)) (sum_exact.sound (behind j) u.0 u.1))
        | inr t ↦ elim (chosen (sees (Word (codes "IN")) j) (read.within inner x b (behind j)) _ (Some y) t.1) [
          | inl u ↦ within_sound x b i m (behind j) y s (negation_sound m (Word (codes "IN") ∷ behind j) (sees_is (Word (codes "IN")) j u.0)) u.1
          | inr u ↦ elim (chosen (sees (Word (codes "BETWEEN")) j) (read.between inner x b (behind j)) _ (Some y) u.1) [
            | inl v ↦ between_sound x b i m (behind j) y s (negation_sound m (Word (codes "BETWEEN") ∷ behind j) (sees_is (Word (codes "BETWEEN")) j v.0)) v.1
            | inr v ↦ let w = guard_not b (Some (x, m)) y v.1 in subst (λ (z : Expr × List Kind). g.Test Inner i z.0 z.1) (some_is (x, m) y w.1) (g.alone s)
          ]
        ]
      ]

  tested_sound : (x : Expr) (i m : List Kind) (y : Expr × List Kind) → g.Sum Inner i x m → read.tested inner x m ≡ Some y → g.Test Inner i y.0 y.1
  unfolding read.tested
  tested_sound x i m y s h = go (read.relation_at m) refl h
    where
      go : (o : Option Relation) → read.relation_at m ≡ o → read.tested_by inner x m o ≡ Some y → g.Test Inner i y.0 y.1
      go (Some q) at h =
          let c = relation_sound m q at in
          let u = under_some (e.Compare q x) (read.sum inner (behind m)) y h in
          subst (λ (z : Expr × List Kind). g.Test Inner i z.0 z.1) u.2 (g.compares (subst (λ (o : List Kind). g.Sum Inner i x o) c.1 s) c.2 (sum_exact.sound (behind m) u.0 u.1))
      go None at h =
          elim (chosen (sees (Word (codes "IS")) m) (read.is_null inner x (behind m)) _ (Some y) h) [
            | inl t ↦
                let n = behind m in
                let b = bind_some (expect (Word (codes "NULL")) (read.past_not n)) (λ o. Some (e.IsNull x (read.negates n), o)) y t.1 in
                let here : g.Sum Inner i x (Word (codes "IS") ∷ n) = subst (λ (o : List Kind). g.Sum Inner i x o) (sees_is (Word (codes "IS")) m t.0) s in
                subst (λ (z : Expr × List Kind). g.Test Inner i z.0 z.1) (some_is (e.IsNull x (read.negates n), b.0) y b.2) (g.is_null here (negation_sound n (Word (codes "NULL") ∷ b.0) (expect_is (Word (codes "NULL")) (read.past_not n) b.0 b.1)))
            | inr t ↦ worded_sound x i m y s t.1
          ]

  test_sound : (i : List Kind) (y : Expr × List Kind) → read.testing inner i ≡ Some y → g.Test Inner i y.0 y.1
  unfolding read.testing
  test_sound i y h =
      let b = bind_some (read.sum inner i) (λ x. read.tested inner x.0 x.1) y h in tested_sound b.0.0 i b.0.1 y (sum_exact.sound i b.0 b.1) b.2

  tested_ends : (x : Expr) (o : List Kind) → Above 4 o → read.tested inner x o ≡ Some (x, o)
  unfolding read.tested
  tested_ends x o f =
      rw (
        no_relation o f,
        not_seen (Word (codes "IS")) o 4 (omega arith) f,
        not_seen NOT o 4 (omega arith) f,
        not_seen (Word (codes "LIKE")) o 4 (omega arith) f,
        not_seen (Word (codes "IN")) o 4 (omega arith) f,
        not_seen (Word (codes "BETWEEN")) o 4 (omega arith) f,
      ) refl

  test_complete : (i o : List Kind) (x : Expr) → g.Test Inner i x o → Above 4 o → read.testing inner i ≡ Some (x, o)
  unfolding read.testing read.tested read.relation_at read.within read.between EndsList
  test_complete i o x (g.alone d) f = rw (sum_exact.complete i o x d (omega arith)) (tested_ends x o f)
  test_complete i o x (g.compares {m = m} {x = y} {y = z} {k = k} {r = q} d c s) f =
      rw (sum_exact.complete i (k ∷ m) y d (omega (arith, compare_level k q c)), relation_of_complete k q c, sum_exact.complete m o z s (omega arith)) refl
  test_complete i o x (g.is_null {x = y} d g.Negation.plain) f = rw (sum_exact.complete i (Word (codes "IS") ∷ Word (codes "NULL") ∷ o) y d (omega arith)) refl
  test_complete i o x (g.is_null {x = y} d g.Negation.negated) f = rw (sum_exact.complete i (Word (codes "IS") ∷ NOT ∷ Word (codes "NULL") ∷ o) y d (omega arith)) refl
  test_complete i o x (g.like {n = n} {x = y} {y = z} d g.Negation.plain s) f = rw (sum_exact.complete i (Word (codes "LIKE") ∷ n) y d (omega arith), sum_exact.complete n o z s (omega arith)) refl
  test_complete i o x (g.like {n = n} {x = y} {y = z} d g.Negation.negated s) f = rw (sum_exact.complete i (NOT ∷ Word (codes "LIKE") ∷ n) y d (omega arith), sum_exact.complete n o z s (omega arith)) refl
  test_complete i o x (g.within {n = n} {x = y} {ys = ys} d g.Negation.plain l) f =
      rw (sum_exact.complete i (Word (codes "IN") ∷ opening ∷ n) y d (omega arith), sums_exact.complete n (closing ∷ o) ys l (refl, omega arith)) refl
  test_complete i o x (g.within {n = n} {x = y} {ys = ys} d g.Negation.negated l) f =
      rw (sum_exact.complete i (NOT ∷ Word (codes "IN") ∷ opening ∷ n) y d (omega arith), sums_exact.complete n (closing ∷ o) ys l (refl, omega arith)) refl
  test_complete i o x (g.between {n = n} {p = p} {x = y} {low = low} {high = high} d g.Negation.plain a b) f =
      rw (sum_exact.complete i (Word (codes "BETWEEN") ∷ n) y d (omega arith), sum_exact.complete n (Word (codes "AND") ∷ p) low a (omega arith), sum_exact.complete p o high b (omega arith)) refl
  test_complete i o x (g.between {n = n} {p = p} {x = y} {low = low} {high = high} d g.Negation.negated a b) f =
      rw (sum_exact.complete i (NOT ∷ Word (codes "BETWEEN") ∷ n) y d (omega arith), sum_exact.complete n (Word (codes "AND") ∷ p) low a (omega arith), sum_exact.complete p o high b (omega arith)) refl

  test_shorter : (i o : List Kind) (x : Expr) → g.Test Inner i x o → length o < length i
  test_shorter i o x (g.alone d) = sum_exact.shorter i o x d
  test_shorter i o x (g.compares {m = m} {x = y} {y = z} {k = k} d c s) = omega (arith, sum_exact.shorter i (k ∷ m) y d, sum_exact.shorter m o z s)
  test_shorter i o x (g.is_null {m = m} {x = y} {b = b} d n) = omega (arith, sum_exact.shorter i (Word (codes "IS") ∷ m) y d, negation_shorter m (Word (codes "NULL") ∷ o) b n)
  test_shorter i o x (g.like {m = m} {n = p} {x = y} {y = z} {b = b} d n s) = omega (arith, sum_exact.shorter i m y d, negation_shorter m (Word (codes "LIKE") ∷ p) b n, sum_exact.shorter p o z s)
  test_shorter i o x (g.within {m = m} {n = p} {x = y} {ys = ys} {b = b} d n l) =
      omega (arith, sum_exact.shorter i m y d, negation_shorter m (Word (codes "IN") ∷ opening ∷ p) b n, sums_exact.shorter p (closing ∷ o) ys l)
  test_shorter i o x (g.between {m = m} {n = q} {p = p} {x = y} {low = low} {high = high} {b = b} d n a c) =
      omega (arith, sum_exact.shorter i m y d, negation_shorter m (Word (codes "BETWEEN") ∷ q) b n, sum_exact.shorter q (Word (codes "AND") ∷ p) low a, sum_exact.shorter p o high c)

  -- ---- conditions

  unit_exact : Exact (g.IsUnit Inner) (read.unit inner) (Above 4)
  unfolding read.unit
  unit_exact = record { sound = sound; complete = complete; shorter = shorter }
    where
      sound : (i : List Kind) (y : Expr × List Kind) → read.unit inner i ≡ Some y → g.IsUnit Inner i y.0 y.1
      sound i y h =
          elim (chosen (read.negates i) (under e.Not (read.testing inner (behind i))) (read.testing inner i) (Some y) h) [
            | inl t ↦
                let b = under_some e.Not (read.testing inner (behind i)) y t.1 in
                subst (λ (z : Expr × List Kind). g.IsUnit Inner i z.0 z.1) b.2 (subst (λ (j : List Kind). g.IsUnit Inner j (e.Not b.0.0) b.0.1) (sym (sees_is NOT i t.0)) (g.IsUnit.negated (test_sound (behind i) b.0 b.1)))
            | inr t ↦ g.IsUnit.plain (test_sound i y t.1)
          ]

      complete : (i o : List Kind) (x : Expr) → g.IsUnit Inner i x o → Above 4 o → read.unit inner i ≡ Some (x, o)
      complete i o x (g.IsUnit.plain d) f = rw (excluded begins_sum NOT i no_not (test_first i o x d)) (test_complete i o x d f)
      complete i o x (g.IsUnit.negated {i = j} {x = y} d) f = rw (test_complete j o y d f) refl

      shorter : (i o : List Kind) (x : Expr) → g.IsUnit Inner i x o → length o < length i
      shorter i o x (g.IsUnit.plain d) = test_shorter i o x d
      shorter i o x (g.IsUnit.negated {i = j} {x = y} d) = omega (arith, test_shorter j o y d)

  conj_exact : Exact (g.Conj Inner) (read.conj inner) (Above 5)
  unfolding read.conj
  conj_exact = joined_exact (Word (codes "AND")) e.And (g.IsUnit Inner) (read.unit inner) (Above 5)
      (parted_exact (Word (codes "AND")) (g.IsUnit Inner) (read.unit inner) (Above 4) unit_exact refl (λ i. omega arith) (Above 5) (λ o f. omega arith) (λ o f. not_seen (Word (codes "AND")) o 5 (omega arith) f))

  pub cond_exact : Exact (g.Cond Inner) (read.cond inner) (Above 6)
  unfolding read.cond
  cond_exact = joined_exact (Word (codes "OR")) e.Or (g.Conj Inner) (read.conj inner) (Above 6)
      (parted_exact (Word (codes "OR")) (g.Conj Inner) (read.conj inner) (Above 5) conj_exact refl (λ i. omega arith) (Above 6) (λ o f. omega arith) (λ o f. not_seen (Word (codes "OR")) o 6 (omega arith) f))

pub inside_exact : (n : ℕ) → Exact (g.Within n) (read.inside n) (Above 6)
unfolding read.inside
inside_exact zero = record { sound = λ i y h. absurd cc; complete = λ i o x d f. absurd d; shorter = λ i o x d. absurd d }
inside_exact (suc n) =
    let r = cond_exact (g.Within n) (read.inside n) (inside_exact n) in record { sound = r.sound; complete = r.complete; shorter = r.shorter }
