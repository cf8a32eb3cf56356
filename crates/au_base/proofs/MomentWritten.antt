-- A text of 26 bytes that is read as a moment is the text of that moment.
use Rattle.std.proofs.Common.{◌≡◌, ◌∙◌, ◌+◌, ◌-◌, ◌*◌, ◌/◌, ◌%◌, ◌≤◌, ◌++◌, ◌∷◌, [], ℕ, List, length, Bool, true, false, Some, None, arith, sym, ap, subst, refl, length-append}
use Rattle.std.specs.Prelude.{if◌then◌else◌}
use Rattle.std.specs.Char.{is_ascii_digit}
use Rattle.std.proofs.lemmas.Bool.{and_parts}
use Rattle.std.proofs.lemmas.Bool.Decides.{nat_tests}
use Rattle.au_base.specs.Calendar.{civil_at}
use Rattle.au_base.specs.Moments.{TellsMoment, civil_text, fraction_of, front, six, text_of_moment}
use Rattle.au_base.proofs.CalendarCounts.{back}
use Rattle.au_base.proofs.FindLemmas.{nat_eq-is}
use Rattle.au_base.proofs.MomentDigits.{digit_of}

chosen : (t : Bool) (n micro : ℕ) → (if t then Some n else None) ≡ Some micro → (t ≡ true) × (n ≡ micro)
chosen true n micro is = (refl, cc is)
chosen false n micro is = absurd (let no : None ≡ Some micro = is in cc no)

digit_low : (d : ℕ) → is_ascii_digit d ≡ true → (48 ≤ d) × (d ≤ 57)
digit_low d is = (grind (arith, nat_tests), grind (arith, nat_tests))

pub six_is : (a b c d e f micro : ℕ) → fraction_of (46 ∷ a ∷ b ∷ c ∷ d ∷ e ∷ f ∷ []) ≡ Some micro → a ∷ b ∷ c ∷ d ∷ e ∷ f ∷ [] ≡ six micro
six_is a b c d e f micro is =
    let two = chosen _ _ micro is in
    let pa = and_parts _ _ two.0 in
    let pb = and_parts _ _ pa.1 in
    let pc = and_parts _ _ pb.1 in
    let pd = and_parts _ _ pc.1 in
    let pe = and_parts _ _ pd.1 in
    let pf = and_parts _ _ pe.1 in
    let la = digit_low a pa.0 in
    let lb = digit_low b pb.0 in
    let lc = digit_low c pc.0 in
    let ld = digit_low d pd.0 in
    let le = digit_low e pe.0 in
    let lf = digit_low f pf.0 in
    let value : ((((((0 + (a - 48)) * 10 + (b - 48)) * 10 + (c - 48)) * 10 + (d - 48)) * 10 + (e - 48)) * 10 + (f - 48)) * 1 ≡ micro =
    rw (digit_of a la.0 la.1, digit_of b lb.0 lb.1, digit_of c lc.0 lc.1, digit_of d ld.0 ld.1, digit_of e le.0 le.1, digit_of f lf.0 lf.1) at two.1 in
    let pa : a ≡ 48 + micro / 10_000 / 10 = omega arith in
    let pb : b ≡ 48 + micro / 10_000 % 10 = omega arith in
    let pc : c ≡ 48 + micro / 100 % 100 / 10 = omega arith in
    let pd : d ≡ 48 + micro / 100 % 100 % 10 = omega arith in
    let pe : e ≡ 48 + micro % 100 / 10 = omega arith in
    let pf : f ≡ 48 + micro % 100 % 10 = omega arith in
    cc (pa, pb, pc, pd, pe, pf)

-- a fraction of seven bytes is a point and six digits
point_first : (p : ℕ) (digits : List ℕ) (micro : ℕ) → fraction_of (p ∷ digits) ≡ Some micro → p ≡ 46
point_first p digits micro is = nat_eq-is p 46 (and_parts _ _ (chosen _ _ micro is).0).0

seven : (end : List ℕ) (micro : ℕ) → length end ≡ 7 → fraction_of end ≡ Some micro → end ≡ 46 ∷ six micro
seven (p ∷ a ∷ b ∷ c ∷ d ∷ e ∷ f ∷ []) micro long is =
    let point = point_first p (a ∷ b ∷ c ∷ d ∷ e ∷ f ∷ []) micro is in
    let here : fraction_of (46 ∷ a ∷ b ∷ c ∷ d ∷ e ∷ f ∷ []) ≡ Some micro = subst (λ q. fraction_of (q ∷ a ∷ b ∷ c ∷ d ∷ e ∷ f ∷ []) ≡ Some micro) point is in
    ap (λ q. q ∷ a ∷ b ∷ c ∷ d ∷ e ∷ f ∷ []) point ∙ ap (λ t. 46 ∷ t) (six_is a b c d e f micro here)
seven _ micro long is = absurd (omega arith)

pub written : (text : List ℕ) (moment : ℕ) → length text ≡ 26 → TellsMoment text moment → text ≡ text_of_moment moment
unfolding text_of_moment
written text moment long told =
    let c = told.0 in
    let end = told.2.0 in
    let size : length (front c ++ end) ≡ 19 + length end = length-append (front c) end in
    let whole : length text ≡ length (front c ++ end) = ap length told.2.1 in
    told.2.1 ∙ ap (λ t. front c ++ t) (seven end c.micro (omega arith) told.2.2) ∙ ap civil_text (sym (back c told.1) ∙ ap civil_at (sym told.3))
