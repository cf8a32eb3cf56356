use Rattle.std.proofs.Common.{◌≡◌, ◌∙◌, ℕ, List, [], ◌∷◌, ◌++◌, ap, ap₂, append_assoc}
use Rattle.std.specs.String.{string_bytes}
use Rattle.std.specs.Prelude.{decimal}
use Rattle.au_report.specs.Checks.{counted}
use Rattle.au_report.proofs.checking.push_line.Goals as goal

together : (text word digits : List ℕ) → (((text ++ word) ++ 32 ∷ []) ++ digits) ++ 10 ∷ [] ≡ text ++ (((word ++ 32 ∷ []) ++ digits) ++ 10 ∷ [])
together text word digits =
    ap (λ (t : List ℕ). (t ++ digits) ++ 10 ∷ []) (append_assoc text word (32 ∷ []))
    ∙ ap (λ (t : List ℕ). t ++ 10 ∷ []) (append_assoc text (word ++ 32 ∷ []) digits)
    ∙ append_assoc text ((word ++ 32 ∷ []) ++ digits) (10 ∷ [])

pub returns : goal.returns
unfolding counted
returns c =
    let one = c.in_ok-push_str.ensures.bytes in
    let two = c.in_ok-push_str-2.ensures.bytes in
    let three = c.in_ok-push_str-3.ensures.bytes in
    let four = c.in_ok-push_str-4.ensures.bytes in
    let made = together (string_bytes c.args.text.now) c.args.word.now (decimal c.args.number) in
    let read = c.as_str.ensures.value in
    let digits = c.in_ok-digits.ensures.ok in
    four ∙ ap (λ (t : List ℕ). t ++ 10 ∷ []) (three ∙ ap₂ (λ (a b : List ℕ). a ++ b) (two ∙ ap (λ (t : List ℕ). t ++ 32 ∷ []) one) (read ∙ digits)) ∙ made
