-- What the words say of the command.
use Rattle.std.proofs.Common.{◌≡◌, ℕ, List, Option, Some, None, arith, subst}
use Rattle.au_journal.specs.Frames.{IsLimit}
use Rattle.au_words.specs.declared.command.Command.TheVariants as word
use Rattle.au_words.specs.Words.{IsInit, IsLimitOf}
use Rattle.au_main.specs.declared.export.Export.{Export}
use Rattle.au_main.specs.declared.export.Export.TheVariants as export
use Rattle.au_main.specs.Exports.{as_command}

limit_of : (text : Option (List ℕ)) (limit : ℕ) → IsLimitOf text limit → IsLimit limit
limit_of None limit is = (omega (arith, is), omega (arith, is))
limit_of (Some text) limit is = (is.1, is.2)

-- a journal may have the limit that the words name
pub named_limit : (words : List (List ℕ)) (password : List ℕ) (limit : ℕ) → IsInit words password limit → IsLimit limit
named_limit words password limit is = limit_of is.limit_text limit is.limit_is

-- the one export that is the command
pub trail_alone : (P : Export → Type 0) → P export.Trail → (what : Export) → word.Trail ≡ as_command what → P what
trail_alone P is export.Trail same = is
trail_alone P is export.Check same = absurd (let no : word.Trail ≡ word.Check = same in cc)

pub check_alone : (P : Export → Type 0) → P export.Check → (what : Export) → word.Check ≡ as_command what → P what
check_alone P is export.Trail same = absurd (let no : word.Check ≡ word.Trail = same in cc)
check_alone P is export.Check same = is

-- what the command names
pub init_alone : (P : List ℕ → ℕ → Type 0) (p : List ℕ) (k : ℕ) → P p k → (password : List ℕ) (limit : ℕ) → word.Init p k ≡ word.Init password limit → P password limit
init_alone P p k is password limit same =
    let text : p ≡ password = cc in
    let number : k ≡ limit = cc in
    subst (λ (n : ℕ). P password n) number (subst (λ (t : List ℕ). P t k) text is)

pub sample_alone : (P : ℕ → ℕ → Type 0) (s r : ℕ) → P s r → (seed rows : ℕ) → word.Sample s r ≡ word.Sample seed rows → P seed rows
sample_alone P s r is seed rows same =
    let one : s ≡ seed = cc in
    let other : r ≡ rows = cc in
    subst (λ (n : ℕ). P seed n) other (subst (λ (n : ℕ). P n r) one is)

pub serve_alone : (P : ℕ → Type 0) (p w n : ℕ) → P n → (port workers connections : ℕ) → word.Serve p w n ≡ word.Serve port workers connections → P connections
serve_alone P p w n is port workers connections same =
    let number : n ≡ connections = cc in
    subst P number is
