-- Laws of reading values one behind the other, as a loop does.
use Rattle.std.proofs.Common.{◌≡◌, ℕ, suc, ◌-◌, ◌+◌, ◌≤◌, ◌<◌, List, [], ◌∷◌, ◌++◌, Option, Some, None, refl, sym, ap, ◌∙◌, append_assoc, arith}
use Rattle.std.proofs.lemmas.List.{append-nil}
use Rattle.rec_parts.specs.declared.read_error.ReadError.{ReadError}
use Rattle.rec_parts.specs.declared.read_error.ReadError.TheVariants.{Memory, NoFrame}
use Rattle.rec_parts.specs.Given.{Fails}
use Rattle.rec_parts.specs.descent.Reading.{Front, ◌>>=◌, many_first}

-- what was read before, and what is still read
abbrev pub with_front : {X : Type 0} → List X → Option (List X × List ℕ) → Option (List X × List ℕ)
with_front front read = read >>= λ x. Some (front ++ x.0, x.1)

regroup : {X : Type 0} (front : List X) (x : X) (read : Option (List X × List ℕ)) → with_front front (read >>= λ xs. Some (x ∷ xs.0, xs.1)) ≡ with_front (front ++ x ∷ []) read
regroup {X} front x (Some xs) = ap (λ (ys : List X). Some (ys, xs.1)) (simp append_assoc)
regroup front x None = refl

pub goes_on : {X : Type 0} (first : Front X) (front : List X) (count i : ℕ) (bytes : List ℕ) (x : X) (after : List ℕ) (total : Option (List X × List ℕ)) → i < count → first bytes ≡ Some (x, after)
    → with_front front (many_first first (count - i) bytes) ≡ total → with_front (front ++ x ∷ []) (many_first first (count - (i + 1)) after) ≡ total
unfolding many_first
goes_on first front count i bytes x after total lt h so_far =
    let k : count - i ≡ suc (count - (i + 1)) = omega arith in
    let one : with_front front (many_first first (count - i) bytes) ≡ with_front (front ++ x ∷ []) (many_first first (count - (i + 1)) after) = rw (k, h) (regroup front x (many_first first (count - (i + 1)) after)) in
    sym one ∙ so_far

pub ends : {X : Type 0} (first : Front X) (e : ReadError) (front : List X) (count i : ℕ) (bytes : List ℕ) (total : Option (List X × List ℕ)) → i < count → Fails e (first bytes)
    → with_front front (many_first first (count - i) bytes) ≡ total → Fails e total
unfolding many_first
ends first Memory front count i bytes total lt h so_far = tt
ends first NoFrame front count i bytes total lt h so_far =
    let k : count - i ≡ suc (count - (i + 1)) = omega arith in
    let one : with_front front (many_first first (count - i) bytes) ≡ None = rw (k, h) refl in
    sym so_far ∙ one

pub is_done : {X : Type 0} (first : Front X) (front : List X) (count i : ℕ) (bytes : List ℕ) (total : Option (List X × List ℕ)) → count ≤ i → with_front front (many_first first (count - i) bytes) ≡ total → total ≡ Some (front, bytes)
unfolding many_first
is_done {X} first front count i bytes total le so_far =
    let k : count - i ≡ 0 = omega arith in
    let one : with_front front (many_first first (count - i) bytes) ≡ Some (front, bytes) = rw k (ap (λ (xs : List X). Some (xs, bytes)) (append-nil front)) in
    sym so_far ∙ one

pub begins : {X : Type 0} (read : Option (List X × List ℕ)) → with_front [] read ≡ read
begins (Some x) = refl
begins None = refl
