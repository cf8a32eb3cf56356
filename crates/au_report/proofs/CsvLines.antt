-- A line is what the writer of the crate `csv` writes by default of two fields or more.
use Rattle.std.proofs.Common.{◌≡◌, ◌≤◌, ◌∙◌, ℕ, ◌==◌, ◌||◌, Bool, true, false, List, [], ◌∷◌, ◌++◌, length, if◌then◌else◌, flat_map, refl, ap, arith}
use Rattle.std.specs.List.{list_any}
use Rattle.csv.specs.Writing.{default_writer, needs_byte, escaped, field_text as written_text, fields_text, is_blank, row_text}
use Rattle.au_report.specs.Lines.{calls_for_quotes, doubled, field_text, further_fields, line}

or-regroup : (a b c d : Bool) → ((a || b) || (c || d)) || false || false ≡ a || b || c || d
or-regroup true b c d = refl
or-regroup false true c d = refl
or-regroup false false true d = refl
or-regroup false false false true = refl
or-regroup false false false false = refl

needs-byte : (b : ℕ) → needs_byte default_writer b ≡ calls_for_quotes b
needs-byte b = or-regroup (b == 44) (b == 34) (b == 13) (b == 10)

any-needs : (bytes : List ℕ) → list_any (needs_byte default_writer) bytes ≡ list_any calls_for_quotes bytes
any-needs [] = refl
any-needs (b ∷ bytes) = cc (needs-byte b, any-needs bytes)

escaped-step : (q : Bool) (b : ℕ) (xs ys : List ℕ) → xs ≡ ys
    → (if q then 34 ∷ b ∷ xs else b ∷ xs) ≡ (if q then 34 ∷ b ∷ [] else b ∷ []) ++ ys
escaped-step true b xs ys e = ap (λ t. 34 ∷ b ∷ t) e
escaped-step false b xs ys e = ap (λ t. b ∷ t) e

escaped-default : (bytes : List ℕ) → escaped default_writer bytes ≡ flat_map doubled bytes
unfolding escaped
escaped-default [] = refl
escaped-default (b ∷ bytes) = escaped-step (b == 34) b (escaped default_writer bytes) (flat_map doubled bytes) (escaped-default bytes)

one-field : (bytes : List ℕ) → written_text default_writer bytes ≡ field_text bytes
one-field bytes = rw (any-needs, escaped-default) refl

further : (fields : List (List ℕ)) → fields_text default_writer fields ≡ further_fields fields
unfolding fields_text
further [] = refl
further (field ∷ fields) = cc (one-field field, further fields)

two-or-more : (a b : List ℕ) (rest : List (List ℕ)) → row_text default_writer (a ∷ b ∷ rest) ≡ line (a ∷ b ∷ rest)
unfolding is_blank line
two-or-more a b rest =
    let first : written_text default_writer a ≡ field_text a = one-field a in
    let others : fields_text default_writer (b ∷ rest) ≡ further_fields (b ∷ rest) = further (b ∷ rest) in
    ap (λ t. t ++ 10 ∷ []) (ap (λ x. x ++ fields_text default_writer (b ∷ rest)) first ∙ ap (λ x. field_text a ++ x) others)

pub written_line : (fields : List (List ℕ)) → 2 ≤ length fields → row_text default_writer fields ≡ line fields
written_line [] many = absurd (omega (arith, many))
written_line (a ∷ []) many = absurd (omega (arith, many))
written_line (a ∷ b ∷ rest) many = two-or-more a b rest
