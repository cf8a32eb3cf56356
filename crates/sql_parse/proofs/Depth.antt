-- What is derived from tokens that open few parentheses nests no deeper than those allow.
use Rattle.std.proofs.Common.{◌≡◌, ℕ, zero, suc, ◌+◌, ◌-◌, ◌<◌, ◌≤◌, Bool, true, false, ◌&&◌, List, [], ◌∷◌, refl, sym, subst, ◌∙◌, arith}
use Rattle.std.specs.Prelude.{codes, nat_lt}
use Rattle.std.proofs.lemmas.Bool.{ltb-true}
use Rattle.sql_lex.specs.declared.token.Kind.{Kind}
use Rattle.sql_lex.specs.declared.token.Kind.TheVariants.{Word}
use Rattle.sql_ast.specs.declared.expression.Expr.{Expr}
use Rattle.sql_ast.specs.declared.expression.Expr.TheVariants as e
use Rattle.sql_ast.specs.declared.expression.Relation.{Relation}
use Rattle.sql_parse.specs.Symbols.{opening, closing, star, comma}
use Rattle.sql_parse.specs.Rules.{After, after, Many, none, more, Parted, parted}
use Rattle.sql_parse.specs.Expressions as g
use Rattle.sql_parse.specs.Conditions.{limit, opens_few}

-- Few are open before, so the part has the second rule too, and as few are open behind it.
abbrev pub Stays : {A : Type 0} → ℕ → (List Kind → A → List Kind → Type 0) → (List Kind → A → List Kind → Type 0) → Type 0
Stays {A} n P Q = (i o : List Kind) (x : A) → P i x o → opens_few n i ≡ true → Q i x o × (opens_few n o ≡ true)

module _ {A : Type 0} (n : ℕ) (P Q : List Kind → A → List Kind → Type 0) (s : Stays n P Q) where
  pub many_stays : Stays n (Many P) (Many Q)
  many_stays i o xs none f = (none, f)
  many_stays i o xs (more {m = m} {x = x} {xs = ys} d ds) f =
      let one = s i m x d f in let others = many_stays m o ys ds one.1 in (more one.0 others.0, others.1)

  pub after_stays : (k : Kind) → ((i : List Kind) → opens_few n (k ∷ i) ≡ opens_few n i) → Stays n (After k P) (After k Q)
  after_stays k still i o x (after {i = j} d) f = let one = s j o x d (sym (still j) ∙ f) in (after one.0, one.1)

pub parted_stays : {A : Type 0} (n : ℕ) (P Q : List Kind → A → List Kind → Type 0) (s : Stays n P Q) (k : Kind) → ((i : List Kind) → opens_few n (k ∷ i) ≡ opens_few n i) → Stays n (Parted k P) (Parted k Q)
parted_stays n P Q s k still i o xs (parted {m = m} {x = x} {xs = ys} d ds) f =
    let one = s i m x d f in
    let others = many_stays n (After k P) (After k Q) (after_stays n P Q s k still) m o ys ds one.1 in (parted one.0 others.0, others.1)

joined_stays : (n : ℕ) (P Q : List Kind → Expr → List Kind → Type 0) (s : Stays n P Q) (k : Kind) (make : List Expr → Expr) → ((i : List Kind) → opens_few n (k ∷ i) ≡ opens_few n i) → Stays n (g.Joined k make P) (g.Joined k make Q)
joined_stays n P Q s k make still i o x (g.joins {xs = xs} d) f = let all = parted_stays n P Q s k still i o xs d f in (g.joins all.0, all.1)

column_stays : (n : ℕ) → Stays n g.Column g.Column
column_stays n i o x (g.bare g.quoted) f = (g.bare g.quoted, f)
column_stays n i o x (g.bare (g.word w)) f = (g.bare (g.word w), f)
column_stays n i o x (g.qualified g.quoted g.quoted) f = (g.qualified g.quoted g.quoted, f)
column_stays n i o x (g.qualified g.quoted (g.word w)) f = (g.qualified g.quoted (g.word w), f)
column_stays n i o x (g.qualified (g.word v) g.quoted) f = (g.qualified (g.word v) g.quoted, f)
column_stays n i o x (g.qualified (g.word v) (g.word w)) f = (g.qualified (g.word v) (g.word w), f)

compare_stays : (n : ℕ) (k : Kind) (r : Relation) (i : List Kind) → g.Compare k r → opens_few n (k ∷ i) ≡ opens_few n i
compare_stays n k r i g.equal = refl
compare_stays n k r i g.unequal = refl
compare_stays n k r i g.unequal_too = refl
compare_stays n k r i g.less = refl
compare_stays n k r i g.less_equal = refl
compare_stays n k r i g.greater = refl
compare_stays n k r i g.greater_equal = refl

negation_stays : (n : ℕ) → Stays n g.Negation g.Negation
negation_stays n i o b g.Negation.plain f = (g.Negation.plain, f)
negation_stays n i o b g.Negation.negated f = (g.Negation.negated, f)

both : (a b : Bool) → (a && b) ≡ true → (a ≡ true) × (b ≡ true)
both true b h = (refl, h)
both false b h = absurd cc

-- where at least so many are open
module _ (least : ℕ) (P Q : List Kind → Expr → List Kind → Type 0) (s : (n : ℕ) → least ≤ n → n < limit → Stays (n + 1) P Q) where
  atom_stays : (n : ℕ) → least ≤ n → Stays n (g.Atom P) (g.Atom Q)
  atom_stays n le i o x g.number f = (g.number, f)
  atom_stays n le i o x g.literal f = (g.literal, f)
  atom_stays n le i o x g.null f = (g.null, f)
  atom_stays n le i o x g.user f = (g.user, f)
  atom_stays n le i o x g.now f = (g.now, f)
  atom_stays n le i o x (g.column d) f = let one = column_stays n i o x d f in (g.column one.0, one.1)
  atom_stays n le i o x (g.moment d) f = (g.moment d, f)
  atom_stays n le i o x (g.context d a) f =
      let b = both (nat_lt n limit) (opens_few ((n + 1) - 1) o) f in
      let back : (n + 1) - 1 ≡ n = omega arith in (g.context d a, subst (λ (m : ℕ). opens_few m o ≡ true) back b.1)
  atom_stays n le i o x (g.inner {i = j} d) f =
      let b = both (nat_lt n limit) (opens_few (n + 1) j) f in
      let one = s n le (ltb-true n limit b.0) j (closing ∷ o) x d b.1 in
      let back : (n + 1) - 1 ≡ n = omega arith in (g.inner one.0, subst (λ (m : ℕ). opens_few m o ≡ true) back one.1)

  factor_stays : (n : ℕ) → least ≤ n → Stays n (g.Factor P) (g.Factor Q)
  factor_stays n le i o x (g.Factor.plain d) f = let one = atom_stays n le i o x d f in (g.Factor.plain one.0, one.1)
  factor_stays n le i o x (g.Factor.negated {i = j} {x = y} d) f = let one = atom_stays n le j o y d f in (g.Factor.negated one.0, one.1)

  term_stays : (n : ℕ) → least ≤ n → Stays n (g.Term P) (g.Term Q)
  term_stays n le = joined_stays n (g.Factor P) (g.Factor Q) (factor_stays n le) star e.Product (λ i. refl)

  summand_stays : (n : ℕ) → least ≤ n → Stays n (g.Summand P) (g.Summand Q)
  summand_stays n le i o x (g.added {i = j} {x = y} d) f = let one = term_stays n le j o y d f in (g.added one.0, one.1)
  summand_stays n le i o x (g.subtracted {i = j} {x = y} d) f = let one = term_stays n le j o y d f in (g.subtracted one.0, one.1)

  pub sum_stays : (n : ℕ) → least ≤ n → Stays n (g.Sum P) (g.Sum Q)
  sum_stays n le i o x (g.sums {m = m} {x = y} {xs = ys} d ds) f =
      let one = term_stays n le i m y d f in
      let others = many_stays n (g.Summand P) (g.Summand Q) (summand_stays n le) m o ys ds one.1 in (g.sums one.0 others.0, others.1)

  sums_stays : (n : ℕ) → least ≤ n → Stays n (Parted comma (g.Sum P)) (Parted comma (g.Sum Q))
  sums_stays n le = parted_stays n (g.Sum P) (g.Sum Q) (sum_stays n le) comma (λ i. refl)

  test_stays : (n : ℕ) → least ≤ n → Stays n (g.Test P) (g.Test Q)
  test_stays n le i o x (g.alone d) f = let one = sum_stays n le i o x d f in (g.alone one.0, one.1)
  test_stays n le i o x (g.compares {m = m} {x = y} {y = z} {k = k} {r = r} d c t) f =
      let one = sum_stays n le i (k ∷ m) y d f in let two = sum_stays n le m o z t (sym (compare_stays n k r m c) ∙ one.1) in (g.compares one.0 c two.0, two.1)
  test_stays n le i o x (g.is_null {m = m} {x = y} {b = b} d t) f =
      let one = sum_stays n le i (Word (codes "IS") ∷ m) y d f in let two = negation_stays n m (Word (codes "NULL") ∷ o) b t one.1 in (g.is_null one.0 two.0, two.1)
  test_stays n le i o x (g.like {m = m} {n = p} {x = y} {y = z} {b = b} d t c) f =
      let one = sum_stays n le i m y d f in let two = negation_stays n m (Word (codes "LIKE") ∷ p) b t one.1 in let three = sum_stays n le p o z c two.1 in (g.like one.0 two.0 three.0, three.1)
  test_stays n le i o x (g.within {m = m} {n = p} {x = y} {ys = ys} {b = b} d t l) f =
      let one = sum_stays n le i m y d f in
      let two = negation_stays n m (Word (codes "IN") ∷ opening ∷ p) b t one.1 in
      let opened : (nat_lt n limit ≡ true) × (opens_few (n + 1) p ≡ true) = both (nat_lt n limit) (opens_few (n + 1) p) two.1 in
      let three = sums_stays (n + 1) (omega arith) p (closing ∷ o) ys l opened.1 in
      let back : (n + 1) - 1 ≡ n = omega arith in (g.within one.0 two.0 three.0, subst (λ (k : ℕ). opens_few k o ≡ true) back three.1)
  test_stays n le i o x (g.between {m = m} {n = q} {p = p} {x = y} {low = low} {high = high} {b = b} d t a c) f =
      let one = sum_stays n le i m y d f in let two = negation_stays n m (Word (codes "BETWEEN") ∷ q) b t one.1 in
      let three = sum_stays n le q (Word (codes "AND") ∷ p) low a two.1 in let four = sum_stays n le p o high c three.1 in (g.between one.0 two.0 three.0 four.0, four.1)

  unit_stays : (n : ℕ) → least ≤ n → Stays n (g.IsUnit P) (g.IsUnit Q)
  unit_stays n le i o x (g.IsUnit.plain d) f = let one = test_stays n le i o x d f in (g.IsUnit.plain one.0, one.1)
  unit_stays n le i o x (g.IsUnit.negated {i = j} {x = y} d) f = let one = test_stays n le j o y d f in (g.IsUnit.negated one.0, one.1)

  pub cond_stays : (n : ℕ) → least ≤ n → Stays n (g.Cond P) (g.Cond Q)
  cond_stays n le =
      joined_stays n (g.Conj P) (g.Conj Q) (joined_stays n (g.IsUnit P) (g.IsUnit Q) (unit_stays n le) (Word (codes "AND")) e.And (λ i. refl)) (Word (codes "OR")) e.Or (λ i. refl)

-- where n are open, the one at hand among them, a depth of c is enough if the limit leaves no more
pub within_stays : (k c n : ℕ) → limit < n + c → n ≤ limit → Stays n (g.Within k) (g.Within c)
within_stays zero c n room under i o x d f = absurd d
within_stays (suc k) zero n room under i o x d f = absurd (omega arith)
within_stays (suc k) (suc c) n room under i o x d f =
    cond_stays n (g.Within k) (g.Within c) (λ m le below. within_stays k c (m + 1) (omega arith) (omega arith)) n (omega arith) i o x d f

-- a condition whose tokens open few parentheses is one at the limit's depth
pub at_limit : (k : ℕ) (ts : List Kind) (x : Expr) → g.Cond (g.Within k) ts x [] → opens_few 0 ts ≡ true → g.Cond (g.Within limit) ts x []
at_limit k ts x d f =
    (cond_stays 0 (g.Within k) (g.Within limit) (λ m le below. within_stays k limit (m + 1) (omega arith) (omega arith)) 0 (omega arith) ts [] x d f).0
