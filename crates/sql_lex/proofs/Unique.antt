-- A text is cut into tokens in one way.
use Rattle.std.proofs.Common.{◌≡◌, ℕ, ◌+◌, List, [], ◌∷◌, ◌++◌, length, refl, sym, ap, ◌∙◌, arith, length-append}
use Rattle.sql_lex.specs.declared.token.Kind.{Kind}
use Rattle.sql_lex.specs.declared.token.Token.{Token}
use Rattle.sql_lex.specs.Tokens as g
use Rattle.sql_lex.specs.Tokens.{IsGap, Spells, LeadsTo, StartsGap, StartsNoGap, StartsToken, StartsNoToken}
use Rattle.sql_lex.proofs.Gaps.{one_gap}
use Rattle.sql_lex.proofs.Lexemes.{one_token}
use Rattle.sql_lex.proofs.Leading.{gap_some, token_some}

no_gap_left : (text behind : List ℕ) → IsGap text behind → [] ≡ text ++ behind → ⊥
no_gap_left text behind gap e =
    let some = gap_some text behind gap in let long = ap length e ∙ length-append text behind in absurd (omega arith)

no_token_left : (text behind : List ℕ) (k : Kind) → Spells text behind k → [] ≡ text ++ behind → ⊥
no_token_left text behind k spells e =
    let some = token_some text behind k spells in let long = ap length e ∙ length-append text behind in absurd (omega arith)

same_long : (a x b y : List ℕ) → a ++ x ≡ b ++ y → x ≡ y → length a ≡ length b
same_long a x b y e f = omega (arith, sym (length-append a x) ∙ ap length e ∙ length-append b y, ap length f)

-- the same gap comes first in both
gaps_same : (a x b y : List ℕ) → a ++ x ≡ b ++ y → IsGap a x → IsGap b y → (x ≡ y) × (length a ≡ length b)
gaps_same a x b y e d c = let same = one_gap (a ++ x) x y (a, refl, d) (b, e, c) in (same, same_long a x b y e same)

token_same : (t u : Token) → t.kind ≡ u.kind → t.from ≡ u.from → t.to ≡ u.to → t ≡ u
token_same t u k f o = λ i. record { kind = k i; from = f i; to = o i }

-- the same token comes first in both
record OneToken (t u : Token) (x y : List ℕ) : Type 0 where
  token : t ≡ u
  behind : x ≡ y

tokens_same : (a x b y : List ℕ) (t u : Token) (at at' : ℕ) → at ≡ at' → a ++ x ≡ b ++ y → Spells a x t.kind → Spells b y u.kind
    → t.from ≡ at → t.to ≡ at + length a → u.from ≡ at' → u.to ≡ at' + length b → OneToken t u x y
tokens_same a x b y t u at at' here e d c tf tt uf ut =
    let one = one_token (a ++ x) t.kind u.kind x y (a, refl, d) (b, e, c) in
    let long = same_long a x b y e one.1 in
    record { token = token_same t u one.0 (omega arith) (omega arith); behind = one.1 }

pub one_way : (at at' : ℕ) (i j : List ℕ) (ts us : List Token) (m n : ℕ) → LeadsTo at i ts m [] → LeadsTo at' j us n [] → at ≡ at' → i ≡ j → ts ≡ us
one_way at at' i j ts us m n g.here g.here here e = refl
one_way at at' i j ts us m n g.here (g.past_gap {text = b} {behind = y} gap leads) here e = absurd (no_gap_left b y gap e)
one_way at at' i j ts us m n g.here (g.past_token {text = b} {behind = y} {token = u} none spells from to leads) here e = absurd (no_token_left b y u.kind spells e)
one_way at at' i j ts us m n (g.past_gap {text = a} {behind = x} gap leads) g.here here e = absurd (no_gap_left a x gap (sym e))
one_way at at' i j ts us m n (g.past_gap {text = a} {behind = x} gap leads) (g.past_gap {text = b} {behind = y} gap' leads') here e =
    let same = gaps_same a x b y e gap gap' in
    let long = same.1 in
    one_way (at + length a) (at' + length b) x y ts us m n leads leads' (omega arith) same.0
one_way at at' i j ts us m n (g.past_gap {text = a} {behind = x} gap leads) (g.past_token {text = b} {behind = y} none spells from to leads') here e =
    absurd (none x (a, sym e, gap))
one_way at at' i j ts us m n (g.past_token {text = a} {behind = x} {token = t} none spells from to leads) g.here here e = absurd (no_token_left a x t.kind spells (sym e))
one_way at at' i j ts us m n (g.past_token {text = a} {behind = x} none spells from to leads) (g.past_gap {text = b} {behind = y} gap leads') here e =
    absurd (none y (b, e, gap))
one_way at at' i j ts us m n (g.past_token {text = a} {behind = x} {token = t} {tokens = ts'} none spells from to leads) (g.past_token {text = b} {behind = y} {token = u} {tokens = us'} none' spells' from' to' leads') here e =
    let one = tokens_same a x b y t u at at' here e spells spells' from to from' to' in
    let rest = one_way t.to u.to x y ts' us' m n leads leads' (ap (λ (v : Token). v.to) one.token) one.behind in
    λ k. one.token k ∷ rest k

-- where no token starts, no tokens lead to the end
pub stuck_or_ended : (at at' : ℕ) (i j : List ℕ) (ts us : List Token) (m n b : ℕ) (rest : List ℕ) → StartsNoGap (b ∷ rest) → StartsNoToken (b ∷ rest)
    → LeadsTo at i ts m (b ∷ rest) → LeadsTo at' j us n [] → at ≡ at' → i ≡ j → ⊥
stuck_or_ended at at' i j ts us m n b rest no_gap no_token g.here g.here here e = absurd cc
stuck_or_ended at at' i j ts us m n b rest no_gap no_token g.here (g.past_gap {text = c} {behind = y} gap leads) here e = no_gap y (c, e, gap)
stuck_or_ended at at' i j ts us m n b rest no_gap no_token g.here (g.past_token {text = c} {behind = y} {token = u} none spells from to leads) here e = no_token u.kind y (c, e, spells)
stuck_or_ended at at' i j ts us m n b rest no_gap no_token (g.past_gap {text = a} {behind = x} gap leads) g.here here e = absurd (no_gap_left a x gap (sym e))
stuck_or_ended at at' i j ts us m n b rest no_gap no_token (g.past_gap {text = a} {behind = x} gap leads) (g.past_gap {text = c} {behind = y} gap' leads') here e =
    let same = gaps_same a x c y e gap gap' in
    let long = same.1 in
    stuck_or_ended (at + length a) (at' + length c) x y ts us m n b rest no_gap no_token leads leads' (omega arith) same.0
stuck_or_ended at at' i j ts us m n b rest no_gap no_token (g.past_gap {text = a} {behind = x} gap leads) (g.past_token {text = c} {behind = y} none spells from to leads') here e =
    absurd (none x (a, sym e, gap))
stuck_or_ended at at' i j ts us m n b rest no_gap no_token (g.past_token {text = a} {behind = x} {token = t} none spells from to leads) g.here here e = absurd (no_token_left a x t.kind spells (sym e))
stuck_or_ended at at' i j ts us m n b rest no_gap no_token (g.past_token {text = a} {behind = x} none spells from to leads) (g.past_gap {text = c} {behind = y} gap leads') here e =
    absurd (none y (c, e, gap))
stuck_or_ended at at' i j ts us m n b rest no_gap no_token (g.past_token {text = a} {behind = x} {token = t} {tokens = ts'} none spells from to leads) (g.past_token {text = c} {behind = y} {token = u} {tokens = us'} none' spells' from' to' leads') here e =
    let one = tokens_same a x c y t u at at' here e spells spells' from to from' to' in
    stuck_or_ended t.to u.to x y ts' us' m n b rest no_gap no_token leads leads' (ap (λ (v : Token). v.to) one.token) one.behind
