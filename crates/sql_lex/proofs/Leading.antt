-- Texts cut into tokens, from the front on.
use Rattle.std.proofs.Common.{◌≡◌, ℕ, ◌+◌, ◌<◌, ◌≤◌, List, [], ◌∷◌, ◌++◌, length, sym, ap, subst, ◌∙◌, arith, length-append}
use Rattle.sql_lex.specs.declared.token.Kind.{Kind}
use Rattle.sql_lex.specs.declared.token.Mark.{Mark}
use Rattle.sql_lex.specs.declared.token.Mark.TheVariants as mark
use Rattle.sql_lex.specs.declared.token.Token.{Token}
use Rattle.sql_lex.specs.Tokens as g
use Rattle.sql_lex.specs.Tokens.{IsGap, Spells, LeadsTo, StartsGap, StartsNoGap, StartsToken, StartsNoToken, StandInOrder, IsStuckAt, spelling}

parts_long : (bytes text behind : List ℕ) → bytes ≡ text ++ behind → length bytes ≡ length text + length behind
parts_long bytes text behind e = ap length e ∙ length-append text behind

-- one more blank or comment
pub leads_gap : (at : ℕ) (bytes : List ℕ) (ts : List Token) (place : ℕ) (rest : List ℕ) → LeadsTo at bytes ts place rest
    → (next : ℕ) (o : List ℕ) → StartsGap rest o → next + length o ≡ place + length rest → LeadsTo at bytes ts next o
leads_gap at bytes ts place rest g.here next o s long =
    let n : at + length s.0 ≡ next = omega (arith, parts_long rest s.0 o s.1) in
    subst (λ (b : List ℕ). LeadsTo at b [] next o) (sym s.1) (subst (λ (p : ℕ). LeadsTo at (s.0 ++ o) [] p o) n (g.past_gap s.2 g.here))
leads_gap at bytes ts place rest (g.past_gap {text = t} {behind = b} gap leads) next o s long =
    g.past_gap gap (leads_gap (at + length t) b ts place rest leads next o s long)
leads_gap at bytes ts place rest (g.past_token {behind = b} {token = t} {tokens = us} none spells from to leads) next o s long =
    g.past_token none spells from to (leads_gap t.to b us place rest leads next o s long)

-- one more token
pub leads_token : (at : ℕ) (bytes : List ℕ) (ts : List Token) (place : ℕ) (rest : List ℕ) → LeadsTo at bytes ts place rest
    → (u : Token) (o : List ℕ) → StartsNoGap rest → StartsToken rest u.kind o → u.from ≡ place → u.to + length o ≡ place + length rest
    → LeadsTo at bytes (ts ++ u ∷ []) u.to o
leads_token at bytes ts place rest g.here u o none s from long =
    let to : u.to ≡ at + length s.0 = omega (arith, parts_long rest s.0 o s.1) in
    subst (λ (b : List ℕ). LeadsTo at b (u ∷ []) u.to o) (sym s.1)
    (g.past_token (subst (λ (b : List ℕ). StartsNoGap b) s.1 none) s.2 from to g.here)
leads_token at bytes ts place rest (g.past_gap {text = t} {behind = b} gap leads) u o none s from long =
    g.past_gap gap (leads_token (at + length t) b ts place rest leads u o none s from long)
leads_token at bytes ts place rest (g.past_token {behind = b} {token = t} {tokens = us} before spells first to leads) u o none s from long =
    g.past_token before spells first to (leads_token t.to b us place rest leads u o none s from long)

-- ---- nothing is empty

mark_some : (m : Mark) → 0 < length (spelling m)
mark_some mark.OpenParenthesis = omega arith
mark_some mark.CloseParenthesis = omega arith
mark_some mark.Comma = omega arith
mark_some mark.Period = omega arith
mark_some mark.Semicolon = omega arith
mark_some mark.Asterisk = omega arith
mark_some mark.Plus = omega arith
mark_some mark.Minus = omega arith
mark_some mark.Equal = omega arith
mark_some mark.Less = omega arith
mark_some mark.Greater = omega arith
mark_some mark.LessGreater = omega arith
mark_some mark.NotEqual = omega arith
mark_some mark.LessEqual = omega arith
mark_some mark.GreaterEqual = omega arith
mark_some mark.Arrow = omega arith

pub token_some : (text behind : List ℕ) (k : Kind) → Spells text behind k → 0 < length text
token_some [] behind k (g.word first run short) = absurd cc
token_some (b ∷ text) behind k (g.word first run short) = omega arith
token_some text behind k (g.quoted_name all is) = omega arith
token_some [] behind k (g.number first run stops small) = absurd cc
token_some (b ∷ text) behind k (g.number first run stops small) = omega arith
token_some text behind k (g.text_literal stops u) = omega arith
token_some text behind k (g.longest_mark {m = m} h) = mark_some m

pub gap_some : (text behind : List ℕ) → IsGap text behind → 0 < length text
gap_some text behind (g.blank e) = omega arith
gap_some text behind (g.line_comment run u) = omega arith
gap_some text behind (g.block_comment none u) = omega arith

-- ---- places

wider : (a b : ℕ) (ts : List Token) (end : ℕ) → a ≤ b → StandInOrder b ts end → StandInOrder a ts end
wider a b [] end less h = omega arith
wider a b (t ∷ ts) end less h = let first = h.0 in (omega arith, h.1, h.2)

pub in_order : (at : ℕ) (bytes : List ℕ) (ts : List Token) (place : ℕ) (rest : List ℕ) → LeadsTo at bytes ts place rest → StandInOrder at ts place
in_order at bytes ts place rest g.here = omega arith
in_order at bytes ts place rest (g.past_gap {text = t} {behind = b} gap leads) =
    wider at (at + length t) ts place (omega arith) (in_order (at + length t) b ts place rest leads)
in_order at bytes ts place rest (g.past_token {text = x} {behind = b} {token = t} {tokens = us} none spells from to leads) =
    (omega arith, omega (arith, token_some x b t.kind spells), in_order t.to b us place rest leads)

-- ---- what is left is shorter

pub gap_long : (bytes behind : List ℕ) → StartsGap bytes behind → length behind < length bytes
gap_long bytes behind s = omega (arith, gap_some s.0 behind s.2, parts_long bytes s.0 behind s.1)

pub token_long : (bytes : List ℕ) (k : Kind) (behind : List ℕ) → StartsToken bytes k behind → length behind < length bytes
token_long bytes k behind s = omega (arith, token_some s.0 behind k s.2, parts_long bytes s.0 behind s.1)

pub stuck : (text : List ℕ) (ts : List Token) (at : ℕ) (rest : List ℕ) → LeadsTo 0 text ts at rest → 0 < length rest → StartsNoGap rest → StartsNoToken rest → IsStuckAt text at
stuck text ts at [] leads some no_gap no_token = absurd (omega arith)
stuck text ts at (b ∷ rest) leads some no_gap no_token =
    record { tokens = ts; first = b; rest = rest; leads = leads; no_gap = no_gap; no_token = no_token }
