-- A line has one content, one label and one ask.
use Rattle.std.proofs.Common.{◌≡◌, ◌≢◌, ◌<◌, ◌≤◌, ◌∙◌, ℕ, zero, suc, true, false, List, [], ◌∷◌, ◌++◌, length, get_or, refl, ap, sym, inl, inr, subst, Option, Some, None, Result, Ok, Err, IfOk, arith, lit<}
use Rattle.std.specs.Option.{MatchOption}
use denote.Ref.{Bor}
use Rattle.std.proofs.lemmas.Str.Pattern.{IsSplitOnceResult, split_parts}
use Rattle.std.specs.Prelude.{IsTrue, IsUtf8, codes}
use Rattle.std.specs.List.{list_all}
use Rattle.std.proofs.lemmas.List.{append_cancel_left, append_cancel_right}
use Rattle.std.proofs.lemmas.Bool.Decides.{nat_tests}
use Rattle.au_base.specs.declared.ask.Ask.{Ask}
use Rattle.au_base.specs.declared.ask.Ask.TheVariants as ask
use Rattle.au_script.specs.declared.lines.ScriptLine.{ScriptLine}
use Rattle.au_script.specs.declared.lines.ScriptLine.TheVariants as line
use Rattle.au_script.specs.Lines.{Asks, AsksLine, AsksNothing, ContentSays, HasNoSpace, IsAskLine, IsContent, IsSplit, NamesNoUser, NamesUser, SaysOneThing, SpellsAsk, SpellsNoAsk, carriage_return, is_label, is_label_byte, is_letter, is_skipped, password_limit, space}

-- ---- contents

pub one_content : (bytes a b : List ℕ) → IsContent bytes a → IsContent bytes b → a ≡ b
one_content bytes a b x y =
    elim x [
      | inl p ↦ elim y [
        | inl q ↦ append_cancel_right a b (carriage_return ∷ []) (sym p ∙ q)
        | inr q ↦ absurd (q.0 a p)
      ]
      | inr p ↦ elim y [
        | inl q ↦ absurd (p.0 b q)
        | inr q ↦ p.1 ∙ sym q.1
      ]
    ]

-- ---- parts around the first space

no_space_behind : (b : ℕ) (bytes : List ℕ) → HasNoSpace (b ∷ bytes) → HasNoSpace bytes
no_space_behind b bytes none k inside = none (suc k) (omega arith)

pub same_parts : (a b c d : List ℕ) → HasNoSpace a → HasNoSpace c → a ++ space ∷ b ≡ c ++ space ∷ d → (a ≡ c) × (b ≡ d)
same_parts [] b [] d x y e = let at : b ≡ d = cc in (refl, at)
same_parts [] b (c ∷ cs) d x y e = let at : c ≡ space = cc in absurd (y 0 (omega arith) at)
same_parts (a ∷ more) b [] d x y e = let at : a ≡ space = cc in absurd (x 0 (omega arith) at)
same_parts (a ∷ more) b (c ∷ cs) d x y e =
    let head : a ≡ c = cc in
    let rest : more ++ space ∷ b ≡ cs ++ space ∷ d = cc in
    let both = same_parts more b cs d (no_space_behind a more x) (no_space_behind c cs y) rest in
    let first : a ∷ more ≡ c ∷ cs = cc (head, both.0) in
    (first, both.1)

-- ---- labels

letters_at : (bytes : List ℕ) (k : ℕ) → list_all is_label_byte bytes ≡ true → k < length bytes → get_or bytes k 0 ≢ space
letters_at [] k all inside = absurd (omega arith)
letters_at (b ∷ bytes) zero all inside = grind (arith, nat_tests)
letters_at (b ∷ bytes) (suc k) all inside = letters_at bytes k (grind arith) (omega arith)

pub label_has_no_space : (label : List ℕ) → is_label label ≡ true → HasNoSpace label
label_has_no_space [] is k inside = absurd (omega arith)
label_has_no_space (b ∷ rest) is zero inside = grind (arith, nat_tests)
label_has_no_space (b ∷ rest) is (suc k) inside = letters_at rest k (grind arith) (omega arith)

-- ---- splits at the first space

no_space_at : (a b : List ℕ) → HasNoSpace (a ++ space ∷ b) → ⊥
no_space_at [] b none = none 0 (omega arith) refl
no_space_at (x ∷ a) b none = no_space_at a b (no_space_behind x (a ++ space ∷ b) none)

pub not_split : (bytes : List ℕ) → HasNoSpace bytes → (a b : List ℕ) → bytes ≢ a ++ space ∷ b
not_split bytes none a b e = no_space_at a b (subst HasNoSpace e none)

pub named_split : (bytes : List ℕ) (r : Option (Bor (List ℕ) × Bor (List ℕ))) → IsSplitOnceResult space bytes r
    → MatchOption r (HasNoSpace bytes) (λ parts. IsSplit bytes parts.0.now parts.1.now)
named_split bytes None h = split_parts space bytes None h (lit< tt)
named_split bytes (Some parts) h =
    let both = split_parts space bytes (Some parts) h (lit< tt) in
    record { bytes_are = both.0; whole = both.1 }

-- ---- the user that bytes name

pub names_nobody : (bytes : List ℕ) → HasNoSpace bytes → NamesNoUser bytes
names_nobody bytes none user password named = not_split bytes none user password named.bytes_are

pub names_no_other : (bytes user password : List ℕ) → IsSplit bytes user password
    → (0 < length user → 0 < length password → length password ≤ password_limit → ⊥) → NamesNoUser bytes
names_no_other bytes user password split refused u p named =
    let both = same_parts user password u p split.whole named.user_whole (sym split.bytes_are ∙ named.bytes_are) in
    refused (subst (λ (x : List ℕ). 0 < length x) (sym both.0) named.user_given)
    (subst (λ (x : List ℕ). 0 < length x) (sym both.1) named.password_given)
    (subst (λ (x : List ℕ). length x ≤ password_limit) (sym both.1) named.password_fits)

-- ---- the client that a content names

pub asks_without_space : (content : List ℕ) → HasNoSpace content → AsksNothing content
asks_without_space content none label a asks = not_split content none label asks.asked asks.content_is

pub asks_as_split : (content front behind : List ℕ) → IsSplit content front behind → (label : List ℕ) (a : Ask)
    → Asks content label a → (IsTrue (is_label front)) × (label ≡ front) × SpellsAsk behind a
asks_as_split content front behind split label a asks =
    let both = same_parts front behind label asks.asked split.whole (label_has_no_space label asks.labelled) (sym split.bytes_are ∙ asks.content_is) in
    (ap is_label both.0 ∙ asks.labelled, sym both.0, subst (λ (x : List ℕ). SpellsAsk x a) (sym both.1) asks.spelled)

pub labelled_asks : {E : Type 0} (content front behind : List ℕ) → IsUtf8 content → IsSplit content front behind → is_label front ≡ true
    → (r : Result (Option ScriptLine) E) → IfOk r (λ said. MatchOption said (SpellsNoAsk behind) (IsAskLine front behind))
    → IfOk r (λ said. MatchOption said (AsksNothing content) (AsksLine content))
labelled_asks content front behind utf8 split is (Err e) h = h
labelled_asks content front behind utf8 split is (Ok None) h = λ label a asks.
    let parts = asks_as_split content front behind split label a asks in h a parts.2
labelled_asks content front behind utf8 split is (Ok (Some line.Skip)) h = h
labelled_asks content front behind utf8 split is (Ok (Some (line.Ask label a))) h =
    record {
      text = utf8;
      asked = behind;
      content_is = split.bytes_are ∙ ap (λ (x : List ℕ). x ++ space ∷ behind) (sym h.0);
      labelled = ap is_label h.0 ∙ is;
      spelled = h.1;
    }

-- ---- what is asked

same_user : (a b u p v q : List ℕ) → NamesUser a u p → NamesUser b v q → a ≡ b → (u ≡ v) × (p ≡ q)
same_user a b u p v q x y e = same_parts u p v q x.user_whole y.user_whole (sym x.bytes_are ∙ e ∙ y.bytes_are)

other_first : (a b : ℕ) (x y : List ℕ) → a < b → a ∷ x ≡ b ∷ y → ⊥
other_first a b x y less e = let same : a ≡ b = cc in omega arith

-- the other asks begin with `l`
sql_or_other : (bytes t rest : List ℕ) → bytes ≡ codes "sql " ++ t → bytes ≡ 108 ∷ rest → ⊥
sql_or_other bytes t rest x y = other_first 108 115 rest (codes "ql " ++ t) (lit< tt) (sym y ∙ x)

local_or_other : (bytes rest : List ℕ) → bytes ≡ codes "local" → bytes ≡ codes "log" ++ rest → ⊥
local_or_other bytes rest x y =
    other_first 99 103 (codes "al") rest (lit< tt) (append_cancel_left (codes "lo") (codes "cal") (codes "g" ++ rest) (sym x ∙ y))

logoff_or_logon : (bytes rest : List ℕ) → bytes ≡ codes "logoff" → bytes ≡ codes "logon " ++ rest → ⊥
logoff_or_logon bytes rest x y =
    other_first 102 110 (codes "f") (codes " " ++ rest) (lit< tt) (append_cancel_left (codes "logo") (codes "ff") (codes "n " ++ rest) (sym x ∙ y))

pub one_ask : (bytes : List ℕ) (a b : Ask) → SpellsAsk bytes a → SpellsAsk bytes b → a ≡ b
one_ask bytes ask.Local ask.Local x y = refl
one_ask bytes ask.Local (ask.Logon u p) x y = absurd (local_or_other bytes (codes "on " ++ y.0) x y.1)
one_ask bytes ask.Local (ask.Sql t) x y = absurd (sql_or_other bytes t (codes "ocal") y.0 x)
one_ask bytes ask.Local ask.Logoff x y = absurd (local_or_other bytes (codes "off") x y)
one_ask bytes (ask.Logon u p) ask.Local x y = absurd (local_or_other bytes (codes "on " ++ x.0) y x.1)
one_ask bytes (ask.Logon u p) (ask.Logon v q) x y =
    let rest = append_cancel_left (codes "logon ") x.0 y.0 (sym x.1 ∙ y.1) in
    let both = same_user x.0 y.0 u p v q x.2 y.2 rest in
    ap (λ (z : List ℕ). ask.Logon z p) both.0 ∙ ap (λ (z : List ℕ). ask.Logon v z) both.1
one_ask bytes (ask.Logon u p) (ask.Sql t) x y = absurd (sql_or_other bytes t (codes "ogon " ++ x.0) y.0 x.1)
one_ask bytes (ask.Logon u p) ask.Logoff x y = absurd (logoff_or_logon bytes x.0 y x.1)
one_ask bytes (ask.Sql t) ask.Local x y = absurd (sql_or_other bytes t (codes "ocal") x.0 y)
one_ask bytes (ask.Sql t) (ask.Logon u p) x y = absurd (sql_or_other bytes t (codes "ogon " ++ y.0) x.0 y.1)
one_ask bytes (ask.Sql t) (ask.Sql s) x y = ap (λ (z : List ℕ). ask.Sql z) (append_cancel_left (codes "sql ") t s (sym x.0 ∙ y.0))
one_ask bytes (ask.Sql t) ask.Logoff x y = absurd (sql_or_other bytes t (codes "ogoff") x.0 y)
one_ask bytes ask.Logoff ask.Local x y = absurd (local_or_other bytes (codes "off") y x)
one_ask bytes ask.Logoff (ask.Logon u p) x y = absurd (logoff_or_logon bytes y.0 x y.1)
one_ask bytes ask.Logoff (ask.Sql t) x y = absurd (sql_or_other bytes t (codes "ogoff") y.0 x)
one_ask bytes ask.Logoff ask.Logoff x y = refl

-- ---- what a line says

asks_one : (content l m : List ℕ) (a b : Ask) → Asks content l a → Asks content m b → (l ≡ m) × (a ≡ b)
asks_one content l m a b x y =
    let both = same_parts l x.asked m y.asked (label_has_no_space l x.labelled) (label_has_no_space m y.labelled) (sym x.content_is ∙ y.content_is) in
    (both.0, one_ask x.asked a b x.spelled (subst (λ (z : List ℕ). SpellsAsk z b) (sym both.1) y.spelled))

begins_unskipped : (b : ℕ) (rest : List ℕ) → is_letter b ≡ true → is_skipped (b ∷ rest) ≡ false
begins_unskipped b rest is = grind (arith, nat_tests)

-- what asks begins with a letter
asks_unskipped : (content label asked : List ℕ) → content ≡ label ++ space ∷ asked → is_label label ≡ true → is_skipped content ≡ false
asks_unskipped content [] asked e is = cc
asks_unskipped content (b ∷ rest) asked e is = ap is_skipped e ∙ begins_unskipped b (rest ++ space ∷ asked) (grind arith)

means_one : (content : List ℕ) (a b : ScriptLine) → ContentSays content a → ContentSays content b → a ≡ b
means_one content line.Skip line.Skip x y = refl
means_one content line.Skip (line.Ask m b) x y = let no = asks_unskipped content m y.asked y.content_is y.labelled in cc
means_one content (line.Ask l a) line.Skip x y = let no = asks_unskipped content l x.asked x.content_is x.labelled in cc
means_one content (line.Ask l a) (line.Ask m b) x y = let both = asks_one content l m a b x y in cc (both.0, both.1)

pub one_thing : (bytes : List ℕ) → SaysOneThing bytes
one_thing bytes a b x y =
    let same = one_content bytes x.content y.content x.content_is y.content_is in
    means_one x.content a b x.means (subst (λ (z : List ℕ). ContentSays z b) (sym same) y.means)
