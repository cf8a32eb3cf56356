-- Classes of bytes (SQL Language Reference, "Database Object Naming Rules" and "Lexical Conventions").
use Rattle.std.specs.Prelude.{ℕ, Bool, false, not, ◌&&◌, ◌||◌, ◌==◌, nat_le, List, [], ◌∷◌}

-- space, tab, LF and CR
abbrev pub is_blank : ℕ → Bool
is_blank b = b == 32 || b == 9 || b == 10 || b == 13

-- a letter of ASCII
abbrev pub is_letter : ℕ → Bool
is_letter b = nat_le 65 b && nat_le b 90 || nat_le 97 b && nat_le b 122

-- a decimal digit
abbrev pub is_digit : ℕ → Bool
is_digit b = nat_le 48 b && nat_le b 57

-- what may stand in a word: letters, digits, _, $ and #
abbrev pub is_word_byte : ℕ → Bool
is_word_byte b = is_letter b || is_digit b || b == 95 || b == 36 || b == 35

-- what may stand in a quoted name: no `"` and no NUL
abbrev pub is_quotable : ℕ → Bool
is_quotable b = not (b == 34 || b == 0)

-- what may stand in a comment of one line: no LF
abbrev pub is_line_byte : ℕ → Bool
is_line_byte b = not (b == 10)

-- a byte that passes the test comes next
abbrev pub begins : (ℕ → Bool) → List ℕ → Bool
begins p [] = false
begins p (b ∷ rest) = p b

-- this byte comes next
abbrev pub begins_with : ℕ → List ℕ → Bool
begins_with c = begins (λ b. b == c)
