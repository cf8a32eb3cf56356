-- CREATE USER and ALTER USER are read exactly by their rules.
use Rattle.std.proofs.Common.{◌≡◌, ℕ, Bool, true, false, cond, ◌&&◌, ◌≤◌, List, [], ◌∷◌, drop, length, Option, Some, None, refl, sym, ap, subst, ◌∙◌, inl, inr}
use Rattle.std.specs.Prelude.{Result, codes, nat_le, IsUtf8}
use Rattle.std.specs.Str.{bytes_eq, is_utf8}
use Rattle.std.proofs.lemmas.Bool.{leb-true, le-leb, and_parts}
use Rattle.std.proofs.lemmas.Str.{IsUtf8-from_is_utf8, is_utf8-from_IsUtf8}
use Rattle.au_base.specs.declared.memory.Memory.{Memory}
use Rattle.sql_parse.specs.declared.stop.Stop.{Stop}
use Rattle.sql_lex.specs.declared.token.Kind.{Kind}
use Rattle.sql_lex.specs.declared.token.Kind.TheVariants.{Word, Quoted, Number, Text, Mark}
use Rattle.sql_lex.specs.declared.token.Token.{Token}
use Rattle.sql_ast.specs.declared.administration.Password.{Password}
use Rattle.sql_ast.specs.declared.statement.Statement.{Statement}
use Rattle.sql_ast.specs.declared.statement.Statement.TheVariants as statement
use Rattle.sql_parse.specs.Symbols.{kinds, sees}
use Rattle.sql_parse.specs.Expressions.{IsName}
use Rattle.sql_parse.specs.descent.Reading as read
use Rattle.sql_parse.specs.descent.Reading.{Gives, ◌>>=◌, expect}
use Rattle.sql_parse.specs.Conditions.{opens_few}
use Rattle.sql_parse.proofs.Exact.{bind_some, some_is, chosen, guard, expect_is}
use Rattle.sql_parse.proofs.ExpressionLaws.{name_sound, name_complete}
use Rattle.sql_parse.specs.Whole.{Finds}
use Rattle.sql_parse.specs.descent.Ending.{Ends}
use Rattle.sql_parse.proofs.WholeLaws.{Reads, ended_gives, one_whole, whole_found}
use Rattle.sql_parse.specs.UserStatements as g
use Rattle.sql_parse_admin.specs.descent.ReadUsers as users

abbrev USER : Kind
USER = Word (codes "USER")

abbrev IDENTIFIED : Kind
IDENTIFIED = Word (codes "IDENTIFIED")

abbrev BY : Kind
BY = Word (codes "BY")

-- ---- the words before a password

abbrev heads : List ℕ → Kind → List Kind → List Kind
heads w k o = Word w ∷ USER ∷ k ∷ IDENTIFIED ∷ BY ∷ o

heading_sound : (w : List ℕ) (i : List Kind) (y : List ℕ × List Kind) → users.heading w i ≡ Some y → (k : Kind) × (i ≡ heads w k y.1) × IsName k y.0
unfolding users.heading
heading_sound w i y h =
    let a = bind_some (expect (Word w) i) (λ j. expect USER j >>= λ k. read.name k >>= λ n. expect IDENTIFIED n.1 >>= λ m. expect BY m >>= λ o. Some (n.0, o)) y h in
    let b = bind_some (expect USER a.0) (λ k. read.name k >>= λ n. expect IDENTIFIED n.1 >>= λ m. expect BY m >>= λ o. Some (n.0, o)) y a.2 in
    let n = bind_some (read.name b.0) (λ n. expect IDENTIFIED n.1 >>= λ m. expect BY m >>= λ o. Some (n.0, o)) y b.2 in
    let c = bind_some (expect IDENTIFIED n.0.1) (λ m. expect BY m >>= λ o. Some (n.0.0, o)) y n.2 in
    let d = bind_some (expect BY c.0) (λ o. Some (n.0.0, o)) y c.2 in
    let s = name_sound b.0 n.0 n.1 in
    let here : i ≡ heads w s.0 d.0 =
    expect_is (Word w) i a.0 a.1 ∙ ap (λ (j : List Kind). Word w ∷ j) (expect_is USER a.0 b.0 b.1) ∙ ap (λ (j : List Kind). Word w ∷ USER ∷ j) s.1
    ∙ ap (λ (j : List Kind). Word w ∷ USER ∷ s.0 ∷ j) (expect_is IDENTIFIED n.0.1 c.0 c.1) ∙ ap (λ (j : List Kind). Word w ∷ USER ∷ s.0 ∷ IDENTIFIED ∷ j) (expect_is BY c.0 d.0 d.1) in
    subst (λ (z : List ℕ × List Kind). (k : Kind) × (i ≡ heads w k z.1) × IsName k z.0) (some_is (n.0.0, d.0) y d.2) (s.0, here, s.2)

heading_complete : (w : List ℕ) (k : Kind) (n : List ℕ) (o : List Kind) → bytes_eq w w ≡ true → IsName k n → users.heading w (heads w k o) ≡ Some (n, o)
unfolding users.heading
heading_complete w k n o itself d = rw (itself, name_complete k n (IDENTIFIED ∷ BY ∷ o) d) refl

-- the five tokens before a password, and what they are
record Heads (w : List ℕ) (k : Kind) (ts : List Token) : Type 0 where
  first : Token
  second : Token
  third : Token
  fourth : Token
  fifth : Token
  all : ts ≡ first ∷ second ∷ third ∷ fourth ∷ fifth ∷ drop 5 ts
  word : first.kind ≡ Word w
  user : second.kind ≡ USER
  named : third.kind ≡ k
  identified : fourth.kind ≡ IDENTIFIED
  by : fifth.kind ≡ BY

split : (w : List ℕ) (k : Kind) (r : List Kind) (ts : List Token) → kinds ts ≡ heads w k r → Heads w k ts
split w k r [] h = absurd cc
split w k r (a ∷ []) h = absurd cc
split w k r (a ∷ b ∷ []) h = absurd cc
split w k r (a ∷ b ∷ c ∷ []) h = absurd cc
split w k r (a ∷ b ∷ c ∷ d ∷ []) h = absurd cc
split w k r (a ∷ b ∷ c ∷ d ∷ e ∷ ts) h =
    record { first = a; second = b; third = c; fourth = d; fifth = e; all = refl; word = cc; user = cc; named = cc; identified = cc; by = cc }

-- ---- passwords

-- the bytes of the text at these places, as a text
pub written_some : (text bytes made : List ℕ) (from to : ℕ) → from ≤ to → to ≤ length text → bytes ≡ g.part text from to → IsUtf8 bytes → made ≡ bytes
    → users.written text from to ≡ Some (record { text = made; from = from; to = to })
written_some text bytes made from to le within is utf8 same =
    rw (le-leb from to le, le-leb to (length text) within, is_utf8-from_IsUtf8 (g.part text from to) (subst IsUtf8 is utf8))
    (ap (λ (p : List ℕ). given (record { text = p; from = from; to = to })) (sym (same ∙ is)))
  where
    given : Password → Option Password
    given p = Some p

pub written_none : (text bytes : List ℕ) (from to : ℕ) → bytes ≡ g.part text from to → ¬ (IsUtf8 bytes) → users.written text from to ≡ None
written_none text bytes from to is broken =
    go (record { text = g.part text from to; from = from; to = to }) (nat_le from to) (nat_le to (length text)) (is_utf8 (g.part text from to)) refl
  where
    go : (p : Password) (a b c : Bool) → is_utf8 (g.part text from to) ≡ c → cond (a && (b && c)) (Some p) None ≡ None
    go p false b c e = refl
    go p true false c e = refl
    go p true true false e = refl
    go p true true true e = absurd (broken (subst IsUtf8 (sym is) (IsUtf8-from_is_utf8 (g.part text from to) e)))

password_of_sound : (text : List ℕ) (k : Kind) (from to : ℕ) (p : Password) → users.password_of text k from to ≡ Some p → g.IsPassword text (record { kind = k; from = from; to = to }) p
password_of_sound text (Word w) from to p h =
    let t = guard (nat_le from to && (nat_le to (length text) && is_utf8 (g.part text from to))) (Some (record { text = g.part text from to; from = from; to = to })) p h in
    let u = and_parts _ _ t.0 in
    let v = and_parts _ _ u.1 in
    subst (λ (q : Password). g.IsPassword text (record { kind = Word w; from = from; to = to }) q) (some_is _ p t.1) (g.word (leb-true _ _ u.0) (leb-true _ _ v.0) (IsUtf8-from_is_utf8 _ v.1))
password_of_sound text (Quoted n) from to p h = subst (λ (q : Password). g.IsPassword text (record { kind = Quoted n; from = from; to = to }) q) (some_is _ p h) g.quoted
password_of_sound text (Number n) from to p h = absurd cc
password_of_sound text (Text n) from to p h = absurd cc
password_of_sound text (Mark m) from to p h = absurd cc

password_of_complete : (text : List ℕ) (t : Token) (p : Password) → g.IsPassword text t p → users.password_of text t.kind t.from t.to ≡ Some p
password_of_complete text t p (g.word {from = from} {to = to} le within utf8) =
    rw (le-leb from to le, le-leb to (length text) within, is_utf8-from_IsUtf8 (g.part text from to) utf8) refl
password_of_complete text t p g.quoted = refl

password_sound : (text : List ℕ) (ts : List Token) (y : Password × List Token) → users.password text ts ≡ Some y → (t : Token) × (ts ≡ t ∷ y.1) × g.IsPassword text t y.0
password_sound text [] y h = absurd cc
password_sound text (t ∷ ts) y h =
    let b = bind_some (users.password_of text t.kind t.from t.to) (λ p. Some (p, ts)) y h in
    subst (λ (z : Password × List Token). (u : Token) × (t ∷ ts ≡ u ∷ z.1) × g.IsPassword text u z.0) (some_is (b.0, ts) y b.2) (t, refl, password_of_sound text t.kind t.from t.to b.0 b.1)

-- ---- the statements

-- what the parts that were read make up
record Parts (text : List ℕ) (w : List ℕ) (ts : List Token) (n : List ℕ) (y : Password × List Token) : Type 0 where
  name : Kind
  heads : Heads w name ts
  token : Token
  all : ts ≡ heads.first ∷ heads.second ∷ heads.third ∷ heads.fourth ∷ heads.fifth ∷ token ∷ y.1
  named : IsName heads.third.kind n
  password : g.IsPassword text token y.0

parts : (text w : List ℕ) (ts : List Token) (n : List ℕ × List Kind) (y : Password × List Token) → users.heading w (kinds ts) ≡ Some n → users.password text (drop 5 ts) ≡ Some y → Parts text w ts n.0 y
parts text w ts n y h e =
    let a = heading_sound w (kinds ts) n h in
    let s = split w a.0 n.1 ts a.1 in
    let p = password_sound text (drop 5 ts) y e in
    record {
      name = a.0;
      heads = s;
      token = p.0;
      all = s.all ∙ ap (λ (r : List Token). s.first ∷ s.second ∷ s.third ∷ s.fourth ∷ s.fifth ∷ r) p.1;
      named = subst (λ (k : Kind). IsName k n.0) (sym s.named) a.2;
      password = p.2;
    }

user_sound : (text : List ℕ) (ts : List Token) (y : Statement × List Token) → users.user text ts ≡ Some y → g.UserStatement text ts y.0 y.1
unfolding users.user
user_sound text ts y h =
    elim (chosen (sees (Word (codes "CREATE")) (kinds ts)) (users.heading (codes "CREATE") (kinds ts) >>= λ n. users.password text (drop 5 ts) >>= λ p. Some (statement.CreateUser n.0 p.0, p.1)) _ (Some y) h) [
      | inl t ↦
          let a = bind_some (users.heading (codes "CREATE") (kinds ts)) (λ n. users.password text (drop 5 ts) >>= λ p. Some (statement.CreateUser n.0 p.0, p.1)) y t.1 in
          let b = bind_some (users.password text (drop 5 ts)) (λ p. Some (statement.CreateUser a.0.0 p.0, p.1)) y a.2 in
          let p = parts text (codes "CREATE") ts a.0 b.0 a.1 b.1 in
          subst (λ (z : Statement × List Token). g.UserStatement text ts z.0 z.1) (some_is (statement.CreateUser a.0.0 b.0.0, b.0.1) y b.2)
          (subst (λ (r : List Token). g.UserStatement text r (statement.CreateUser a.0.0 b.0.0) b.0.1) (sym p.all)
          (g.creates p.heads.word p.heads.user p.named p.heads.identified p.heads.by p.password))
      | inr t ↦
          let a = bind_some (users.heading (codes "ALTER") (kinds ts)) (λ n. users.password text (drop 5 ts) >>= λ p. Some (statement.AlterUser n.0 p.0, p.1)) y t.1 in
          let b = bind_some (users.password text (drop 5 ts)) (λ p. Some (statement.AlterUser a.0.0 p.0, p.1)) y a.2 in
          let p = parts text (codes "ALTER") ts a.0 b.0 a.1 b.1 in
          subst (λ (z : Statement × List Token). g.UserStatement text ts z.0 z.1) (some_is (statement.AlterUser a.0.0 b.0.0, b.0.1) y b.2)
          (subst (λ (r : List Token). g.UserStatement text r (statement.AlterUser a.0.0 b.0.0) b.0.1) (sym p.all)
          (g.alters p.heads.word p.heads.user p.named p.heads.identified p.heads.by p.password))
    ]

user_complete : (text : List ℕ) (ts o : List Token) (x : Statement) → g.UserStatement text ts x o → users.user text ts ≡ Some (x, o)
unfolding users.user
user_complete text ts o x (g.creates {c = c} {t = t} {n = n} {p = p} first second named fourth fifth password) =
    rw (first, second, fourth, fifth, heading_complete (codes "CREATE") c.kind n (t.kind ∷ kinds o) refl named, password_of_complete text t p password) refl
user_complete text ts o x (g.alters {c = c} {t = t} {n = n} {p = p} first second named fourth fifth password) =
    rw (first, second, fourth, fifth, heading_complete (codes "ALTER") c.kind n (t.kind ∷ kinds o) refl named, password_of_complete text t p password) refl

-- ---- all tokens

whole_reads : (text : List ℕ) → Reads kinds (λ depth. g.UserStatement text) (users.user text)
whole_reads text = record { sound = λ i y h. (0, user_sound text i y h); complete = λ depth i o x few d f. user_complete text i o x d }

pub one_way : (text : List ℕ) (ts : List Token) (x y : Statement) → g.IsUserStatement text ts x → g.IsUserStatement text ts y → x ≡ y
one_way text = one_whole kinds (λ depth. g.UserStatement text) (users.user text) (whole_reads text)

pub found : {X : Type 0} (text : List ℕ) (ts : List Token) (view : X → Statement × List Token) (r : Result X Stop) (answer : Result (Option Statement) Memory)
    → Gives view r (users.user text ts) → Ends (λ x. ((view x).0, kinds (view x).1)) r answer → opens_few 0 (kinds ts) ≡ true → Finds (g.IsUserStatement text ts) answer
found text ts view r answer gives ends =
    whole_found kinds (λ depth. g.UserStatement text) (users.user text) (whole_reads text) ts answer (ended_gives kinds view r (users.user text ts) answer gives ends)
