-- What a place of a walk says of the area.
use Rattle.std.proofs.Common.{◌≡◌, ◌≢◌, ◌⊎◌, inl, inr, ℕ, zero, suc, ◌+◌, ◌<◌, ◌≤◌, ◌^◌, min, List, [], ◌∷◌, ◌++◌, length, take, drop, get_or, codes, refl, sym, ◌∙◌, ap, subst, arith, append_assoc, length-append, length-take, length-drop, take-append-drop}
use Rattle.std.specs.Int.{w32, w64, to_be_bytes, from_be_bytes}
use Rattle.std.proofs.lemmas.Nat.{from_be_bytes-to_be_bytes_4, from_be_bytes-to_be_bytes_8}
use Rattle.std.proofs.lemmas.List.{take_at, drop_all, append-nil, drop-drop}
use Rattle.au_journal.specs.Frames.{spelled, frame, header, IsLimit, IsShut, IsOpen, IsBroken}
use Rattle.au_journal.specs.Walk.{IsNamed, HasNoLimit, BeginsWithFrame}

pub shut_from : (l : List ℕ) (k : ℕ) → get_or l k 0 ≢ 165 → IsShut (drop k l)
shut_from [] zero other = tt
shut_from [] (suc k) other = tt
shut_from (x ∷ xs) zero other = other
shut_from (x ∷ xs) (suc k) other = shut_from xs k other

pub open_from : (l : List ℕ) (k : ℕ) → get_or l k 0 ≡ 165 → IsOpen (drop k l)
open_from [] zero is = absurd (let no : 0 ≡ 165 = is in omega arith)
open_from [] (suc k) is = absurd (let no : 0 ≡ 165 = is in omega arith)
open_from (x ∷ xs) zero is = is
open_from (x ∷ xs) (suc k) is = open_from xs k is

pub limit_once : (a b : ℕ) → a < 2 ^ 32 → b < 2 ^ 32 → to_be_bytes w32 a ≡ to_be_bytes w32 b → a ≡ b
limit_once a b low high is = sym (from_be_bytes-to_be_bytes_4 a low) ∙ ap (λ (l : List ℕ). from_be_bytes w32 l) is ∙ from_be_bytes-to_be_bytes_4 b high

pub length_once : (a b : ℕ) → a < 2 ^ 64 → b < 2 ^ 64 → to_be_bytes w64 a ≡ to_be_bytes w64 b → a ≡ b
length_once a b low high is = sym (from_be_bytes-to_be_bytes_8 a low) ∙ ap (λ (l : List ℕ). from_be_bytes w64 l) is ∙ from_be_bytes-to_be_bytes_8 b high

-- a named head begins with its header
pub head_split : (head : List ℕ) (r : ℕ) → IsOpen head → IsNamed head → to_be_bytes w32 r ≡ take 4 (drop 9 head) → head ≡ header r ++ drop 13 head
head_split [] r opens named number = absurd opens
head_split (g ∷ t) r opens named number =
    ap (λ (x : ℕ). x ∷ t) opens
    ∙ ap (λ (l : List ℕ). 165 ∷ l) (sym (take-append-drop 8 t) ∙ ap (λ (l : List ℕ). l ++ drop 8 t) named
    ∙ ap (λ (l : List ℕ). codes "AUJRNL01" ++ l) (sym (take-append-drop 4 (drop 8 t)) ∙ ap (λ (l : List ℕ). l ++ drop 4 (drop 8 t)) (sym number)
    ∙ ap (λ (l : List ℕ). to_be_bytes w32 r ++ l) (drop-drop 4 8 t)))

pub head_header : (head : List ℕ) (r : ℕ) → IsOpen head → IsNamed head → to_be_bytes w32 r ≡ take 4 (drop 9 head) → take 13 head ≡ header r
head_header head r opens named number = ap (λ (l : List ℕ). take 13 l) (head_split head r opens named number) ∙ take_at (header r) (drop 13 head) 13 refl

pub no_limit : (head : List ℕ) (r : ℕ) → r < 2 ^ 32 → to_be_bytes w32 r ≡ take 4 (drop 9 head) → (IsLimit r → ⊥) → HasNoLimit head
no_limit head r low number out limit within is =
    out (subst IsLimit (sym (limit_once r limit low (omega (arith, within.1)) (number ∙ is))) within)

-- nothing was read, or the first byte is no open gate
pub shut_there : (d room old : List ℕ) (got : ℕ) → got ≡ min 9 (length d) → room ≡ take got d ++ drop got old → (got ≡ 0) ⊎ (get_or room 0 0 ≢ 165) → IsShut d
shut_there [] room old got is bytes none = tt
shut_there (x ∷ xs) room old zero is bytes none = absurd (let no : 0 ≡ min 9 (suc (length xs)) = is in omega arith)
shut_there (x ∷ xs) room old (suc got) is bytes (inl none) = absurd (omega arith)
shut_there (x ∷ xs) room old (suc got) is bytes (inr other) = λ (e : x ≡ 165). other (ap (λ (l : List ℕ). get_or l 0 0) bytes ∙ e)

-- something was read, and the first byte is an open gate
pub open_there : (d room old : List ℕ) (got : ℕ) → got ≡ min 9 (length d) → room ≡ take got d ++ drop got old → got ≢ 0 → get_or room 0 0 ≡ 165 → IsOpen d
open_there [] room old got is bytes some gate = absurd (some (is ∙ (omega arith)))
open_there (x ∷ xs) room old zero is bytes some gate = absurd (some refl)
open_there (x ∷ xs) room old (suc got) is bytes some gate = sym (ap (λ (l : List ℕ). get_or l 0 0) bytes) ∙ gate

pub whole_read : (d room old : List ℕ) (got : ℕ) → got ≡ 9 → length old ≡ 9 → room ≡ take got d ++ drop got old → room ≡ take 9 d
whole_read d room old got nine size bytes =
    bytes ∙ ap (λ (k : ℕ). take k d ++ drop k old) nine ∙ ap (λ (l : List ℕ). take 9 d ++ l) (drop_all 9 old (omega (arith, size))) ∙ append-nil (take 9 d)

uncons : (l : List ℕ) → 0 < length l → l ≡ get_or l 0 0 ∷ drop 1 l
uncons [] some = absurd (omega arith)
uncons (x ∷ xs) some = refl

-- the bytes that were read say where the body is
module _ (d room : List ℕ) (n : ℕ) (bytes : room ≡ take 9 d) (gate : get_or room 0 0 ≡ 165) (number : to_be_bytes w64 n ≡ drop 1 room) (inside : 9 + n ≤ length d) where
  abbrev eight : List ℕ
  eight = drop 1 room

  abbrev body : List ℕ
  body = take n (drop 9 d)

  size : length room ≡ 9
  size = omega (arith, inside, ap length bytes, length-take 9 d)

  cells : room ≡ 165 ∷ eight
  cells = uncons room (omega (arith, size)) ∙ ap (λ (x : ℕ). x ∷ eight) gate

  body_size : length body ≡ n
  body_size = omega (arith, inside, length-take n (drop 9 d), length-drop 9 d)

  spelled_is : spelled body ≡ eight ++ body
  unfolding spelled
  spelled_is = ap (λ (l : List ℕ). l ++ body) (ap (λ (k : ℕ). to_be_bytes w64 k) body_size ∙ number)

  pub has_frame : 0 < n → BeginsWithFrame n d
  has_frame some = record {
    body = body;
    more = drop n (drop 9 d);
    size = body_size;
    some = some;
    split = sym (take-append-drop 9 d) ∙ ap (λ (l : List ℕ). l ++ drop 9 d) (sym bytes ∙ cells)
        ∙ ap (λ (l : List ℕ). (165 ∷ eight) ++ l) (sym (take-append-drop n (drop 9 d)))
        ∙ ap (λ (l : List ℕ). 165 ∷ l) (sym (append_assoc eight body (drop n (drop 9 d))) ∙ ap (λ (l : List ℕ). l ++ drop n (drop 9 d)) (sym spelled_is));
  }

length_spelled : (body : List ℕ) → length (spelled body) ≡ 8 + length body
unfolding spelled
length_spelled body = length-append (to_be_bytes w64 (length body)) body

pub take_spelled : (body more : List ℕ) → take 8 (spelled body ++ more) ≡ to_be_bytes w64 (length body)
unfolding spelled
take_spelled body more = ap (λ (l : List ℕ). take 8 l) (append_assoc (to_be_bytes w64 (length body)) body more) ∙ take_at (to_be_bytes w64 (length body)) (body ++ more) 8 refl

-- where a frame stands its length is read, and fits
module _ (d room old : List ℕ) (got : ℕ) (is : got ≡ min 9 (length d)) (size : length old ≡ 9) (bytes : room ≡ take got d ++ drop got old)
    (body more : List ℕ) (split : d ≡ frame body ++ more) where
  long : length d ≡ 9 + length body + length more
  long = omega (arith, ap length split, length-append (frame body) more, length_spelled body)

  pub got_nine : got ≡ 9
  got_nine = omega (arith, is, long)

  read : room ≡ take 9 d
  read = whole_read d room old got got_nine size bytes

  pub number_read : drop 1 room ≡ to_be_bytes w64 (length body)
  number_read = ap (λ (l : List ℕ). drop 1 l) (read ∙ ap (λ (l : List ℕ). take 9 l) split) ∙ take_spelled body more

-- an open gate before no frame
pub broken_there : (d room old : List ℕ) (got n : ℕ) → got ≡ min 9 (length d) → length old ≡ 9 → room ≡ take got d ++ drop got old → length d < 2 ^ 64 → n < 2 ^ 64
    → to_be_bytes w64 n ≡ drop 1 room → IsOpen d → (got < 9) ⊎ ((n ≡ 0) ⊎ (length d < 9 + n)) → IsBroken d
broken_there d room old got n is size bytes short low number opens wrong = record {
  opens = opens;
  no_frame = λ body more some split.
      let long : length d ≡ 9 + length body + length more = omega (arith, ap length split, length-append (frame body) more, length_spelled body) in
      let nine = got_nine d room old got is size bytes body more split in
      let same : n ≡ length body = length_once n (length body) low (omega (arith, long, short)) (number ∙ number_read d room old got is size bytes body more split) in
      elim wrong [
        | inl less ↦ omega (arith, less, nine)
        | inr (inl none) ↦ omega (arith, none, same, some)
        | inr (inr past) ↦ omega (arith, past, same, long)
      ];
}
