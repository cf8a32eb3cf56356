-- The tokens that a text is cut into are those that it is.
use Rattle.std.proofs.Common.{◌≡◌, ℕ, zero, suc, ◌+◌, ◌≤◌, List, [], ◌∷◌, ◌++◌, length, Option, Some, None, refl, sym, ap, subst, ◌∙◌, arith, length-append}
use Rattle.std.specs.Prelude.{◌↔◌}
use Rattle.sql_lex.specs.declared.token.Kind.{Kind}
use Rattle.sql_lex.specs.declared.token.Token.{Token}
use Rattle.sql_lex.specs.descent.Scan.{gap, lexeme}
use Rattle.sql_lex.specs.Tokens as g
use Rattle.sql_lex.specs.Tokens.{AreTokens, IsGap, LeadsTo, Spells, StartsGap, StartsNoGap, StartsToken}
use Rattle.sql_lex.specs.descent.Cutting as cut
use Rattle.sql_lex.specs.descent.Cutting.{tokens_of, tokens_within}
use Rattle.sql_lex.proofs.Choices.{given, some_is}
use Rattle.sql_lex.proofs.Gaps.{gap_found, gap_sound, no_gap}
use Rattle.sql_lex.proofs.Leading.{gap_some, token_some}
use Rattle.sql_lex.proofs.Lexemes.{token_found, token_sound}

parts_long : (bytes text behind : List ℕ) → bytes ≡ text ++ behind → length bytes ≡ length text + length behind
parts_long bytes text behind e = ap length e ∙ length-append text behind

-- the place behind a front is as far on as the front is long
behind_is : (at : ℕ) (bytes text behind : List ℕ) → bytes ≡ text ++ behind → cut.place_behind at bytes behind ≡ at + length text
behind_is at bytes text behind e = omega (arith, parts_long bytes text behind e)

preceded_some : (t : Token) (o : Option (List Token)) (ts : List Token) → cut.preceded t o ≡ Some ts → (us : List Token) × (o ≡ Some us) × (t ∷ us ≡ ts)
preceded_some t None ts h = absurd cc
preceded_some t (Some us) ts h = (us, refl, some_is (t ∷ us) ts h)

-- ---- what is cut leads to the end

led_gap : (at : ℕ) (bytes behind : List ℕ) (ts : List Token) → StartsGap bytes behind
    → LeadsTo (cut.place_behind at bytes behind) behind ts (cut.place_behind at bytes behind + length behind) [] → LeadsTo at bytes ts (at + length bytes) []
led_gap at bytes behind ts s leads =
    let here = behind_is at bytes s.0 behind s.1 in
    let end : cut.place_behind at bytes behind + length behind ≡ at + length bytes = omega (arith, here, parts_long bytes s.0 behind s.1) in
    let led : LeadsTo (at + length s.0) behind ts (at + length bytes) [] =
    subst (λ (m : ℕ). LeadsTo (at + length s.0) behind ts m []) end (subst (λ (m : ℕ). LeadsTo m behind ts (cut.place_behind at bytes behind + length behind) []) here leads) in
    subst (λ (b : List ℕ). LeadsTo at b ts (at + length bytes) []) (sym s.1) (g.past_gap s.2 led)

led_token : (at : ℕ) (bytes behind : List ℕ) (t : Token) (ts : List Token) → StartsNoGap bytes → StartsToken bytes t.kind behind
    → t.from ≡ at → t.to ≡ cut.place_behind at bytes behind
    → LeadsTo t.to behind ts (t.to + length behind) [] → LeadsTo at bytes (t ∷ ts) (at + length bytes) []
led_token at bytes behind t ts none s from to leads =
    let here : t.to ≡ at + length s.0 = to ∙ behind_is at bytes s.0 behind s.1 in
    let end : t.to + length behind ≡ at + length bytes = omega (arith, here, parts_long bytes s.0 behind s.1) in
    let led : LeadsTo t.to behind ts (at + length bytes) [] = subst (λ (m : ℕ). LeadsTo t.to behind ts m []) end leads in
    subst (λ (b : List ℕ). LeadsTo at b (t ∷ ts) (at + length bytes) []) (sym s.1)
    (g.past_token (subst (λ (b : List ℕ). StartsNoGap b) s.1 none) s.2 from here led)

abbrev nothing : List Token
nothing = []

ended : (at : ℕ) (ts : List Token) → given nothing ≡ Some ts → LeadsTo at [] ts (at + 0) []
ended at ts h =
    let long : at ≡ at + 0 = omega arith in
    subst (λ (us : List Token). LeadsTo at [] us (at + 0) []) (some_is nothing ts h) (subst (λ (m : ℕ). LeadsTo at [] [] m []) long g.here)

pub within_sound : (n at : ℕ) (bytes : List ℕ) (ts : List Token) → tokens_within n at bytes ≡ Some ts → LeadsTo at bytes ts (at + length bytes) []
unfolding tokens_within
within_sound zero at [] ts h = ended at ts h
within_sound zero at (b ∷ bytes) ts h = absurd cc
within_sound (suc n) at [] ts h = ended at ts h
within_sound (suc n) at (b ∷ bytes) ts h = front (λ place rest us e. within_sound n place rest us e) (gap (b ∷ bytes)) refl h
  where
    Again : Type 0
    Again = (place : ℕ) (rest : List ℕ) (us : List Token) → tokens_within n place rest ≡ Some us → LeadsTo place rest us (place + length rest) []

    token : Again → (o : Option (Kind × List ℕ)) → lexeme (b ∷ bytes) ≡ o → StartsNoGap (b ∷ bytes)
        → cut.past_token (λ place rest. tokens_within n place rest) at (b ∷ bytes) o ≡ Some ts → LeadsTo at (b ∷ bytes) ts (at + length (b ∷ bytes)) []
    token again None e none h = absurd cc
    token again (Some x) e none h =
        let place = cut.place_behind at (b ∷ bytes) x.1 in
        let t : Token = record { kind = x.0; from = at; to = place } in
        let p = preceded_some t (tokens_within n place x.1) ts h in
        subst (λ (us : List Token). LeadsTo at (b ∷ bytes) us (at + length (b ∷ bytes)) []) p.2
        (led_token at (b ∷ bytes) x.1 t p.0 none (token_sound (b ∷ bytes) x e) refl refl (again place x.1 p.0 p.1))

    front : Again → (o : Option (List ℕ)) → gap (b ∷ bytes) ≡ o
        → cut.past_front (λ place rest. tokens_within n place rest) at (b ∷ bytes) o ≡ Some ts → LeadsTo at (b ∷ bytes) ts (at + length (b ∷ bytes)) []
    front again None e h = token again (lexeme (b ∷ bytes)) refl (no_gap (b ∷ bytes) e) h
    front again (Some behind) e h =
        led_gap at (b ∷ bytes) behind ts (gap_sound (b ∷ bytes) behind e) (again (cut.place_behind at (b ∷ bytes) behind) behind ts h)

-- ---- what leads to the end is cut

gap_none : (i : List ℕ) → StartsNoGap i → gap i ≡ None
gap_none i none = go (gap i) refl
  where
    go : (o : Option (List ℕ)) → gap i ≡ o → o ≡ None
    go None e = refl
    go (Some behind) e = absurd (none behind (gap_sound i behind e))

step_gap : (n at : ℕ) (bytes text behind : List ℕ) (ts : List Token) → bytes ≡ text ++ behind → IsGap text behind
    → tokens_within n (at + length text) behind ≡ Some ts → tokens_within (suc n) at bytes ≡ Some ts
unfolding tokens_within
step_gap n at [] text behind ts e gap h =
    let some = gap_some text behind gap in let long = parts_long [] text behind e in absurd (omega arith)
step_gap n at (b ∷ bytes) text behind ts e gap h =
    rw (gap_found (b ∷ bytes) behind (text, e, gap), behind_is at (b ∷ bytes) text behind e) h

step_token : (n at : ℕ) (bytes text behind : List ℕ) (t : Token) (ts : List Token) → bytes ≡ text ++ behind → StartsNoGap bytes → Spells text behind t.kind
    → t.from ≡ at → t.to ≡ at + length text
    → tokens_within n t.to behind ≡ Some ts → tokens_within (suc n) at bytes ≡ Some (t ∷ ts)
unfolding tokens_within
step_token n at [] text behind t ts e none spells from to h =
    let some = token_some text behind t.kind spells in let long = parts_long [] text behind e in absurd (omega arith)
step_token n at (b ∷ bytes) text behind t ts e none spells from to h =
    let here : cut.place_behind at (b ∷ bytes) behind ≡ t.to = behind_is at (b ∷ bytes) text behind e ∙ sym to in
    rw (gap_none (b ∷ bytes) none, token_found (b ∷ bytes) t.kind behind (text, e, spells), here, sym from, h) refl

pub within_complete : (n at : ℕ) (bytes : List ℕ) (ts : List Token) (place : ℕ) → LeadsTo at bytes ts place [] → length bytes ≤ n → tokens_within n at bytes ≡ Some ts
unfolding tokens_within
within_complete zero at bytes ts place g.here long = refl
within_complete (suc n) at bytes ts place g.here long = refl
within_complete zero at bytes ts place (g.past_gap {text = text} {behind = behind} gap leads) long =
    let some = gap_some text behind gap in absurd (omega (arith, length-append text behind))
within_complete (suc n) at bytes ts place (g.past_gap {text = text} {behind = behind} gap leads) long =
    let some = gap_some text behind gap in
    step_gap n at (text ++ behind) text behind ts refl gap (within_complete n (at + length text) behind ts place leads (omega (arith, length-append text behind)))
within_complete zero at bytes ts place (g.past_token {text = text} {behind = behind} {token = t} none spells from to leads) long =
    let some = token_some text behind t.kind spells in absurd (omega (arith, length-append text behind))
within_complete (suc n) at bytes ts place (g.past_token {text = text} {behind = behind} {token = t} {tokens = us} none spells from to leads) long =
    let some = token_some text behind t.kind spells in
    step_token n at (text ++ behind) text behind t us refl none spells from to (within_complete n t.to behind us place leads (omega (arith, length-append text behind)))

-- ---- both

pub some_tokens : (text : List ℕ) (ts : List Token) → (tokens_of text ≡ Some ts) ↔ AreTokens text ts
unfolding tokens_of
some_tokens text ts =
    let whole : 0 + length text ≡ length text = omega arith in
    (λ h. subst (λ (m : ℕ). LeadsTo 0 text ts m []) whole (within_sound (length text) 0 text ts h), λ leads. within_complete (length text) 0 text ts (length text) leads (omega arith))

pub no_tokens : (text : List ℕ) → (tokens_of text ≡ None) ↔ ((ts : List Token) → AreTokens text ts → ⊥)
no_tokens text = (λ h ts leads. let found = (some_tokens text ts).1 leads in absurd cc, λ none. go none (tokens_of text) refl)
  where
    go : ((ts : List Token) → AreTokens text ts → ⊥) → (o : Option (List Token)) → tokens_of text ≡ o → o ≡ None
    go none None e = refl
    go none (Some ts) e = absurd (none ts ((some_tokens text ts).0 e))
