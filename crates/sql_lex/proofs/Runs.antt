-- Runs of bytes that pass a test.
use Rattle.std.proofs.Common.{◌≡◌, ℕ, Bool, true, false, cond, List, [], ◌∷◌, ◌++◌, length, take, drop, suc, ◌+◌, arith, refl, sym, subst}
use Rattle.std.specs.List.{list_all, prefix_len}
use Rattle.std.proofs.lemmas.List.{take_at, drop_at}
use Rattle.sql_lex.specs.Bytes.{begins}
use Rattle.sql_lex.specs.descent.Scan.{front, past}
use Rattle.sql_lex.specs.Tokens.{IsRun}
use Rattle.sql_lex.proofs.Choices.{both}

-- the run at the front is the one that stops
prefix_len-run : (p : ℕ → Bool) (text behind : List ℕ) → IsRun p text behind → prefix_len p (text ++ behind) ≡ length text
prefix_len-run p [] [] h = refl
prefix_len-run p [] (b ∷ behind) h = rw h.stops refl
prefix_len-run p (b ∷ text) behind h =
    let t = both (p b) (list_all p text) h.passes in
    let rest = prefix_len-run p text behind (record { passes = t.1; stops = h.stops }) in
    rw t.0 (omega (arith, rest))

pub front_run : (p : ℕ → Bool) (text behind : List ℕ) → IsRun p text behind → front p (text ++ behind) ≡ text
front_run p text behind h = take_at text behind (prefix_len p (text ++ behind)) (sym (prefix_len-run p text behind h))

pub past_run : (p : ℕ → Bool) (text behind : List ℕ) → IsRun p text behind → past p (text ++ behind) ≡ behind
past_run p text behind h = drop_at text behind (prefix_len p (text ++ behind)) (sym (prefix_len-run p text behind h))

front_step : (p : ℕ → Bool) (b : ℕ) (bytes : List ℕ) (v : Bool) (n : ℕ) → p b ≡ v → IsRun p (take n bytes) (drop n bytes) → IsRun p (take (cond v (suc n) 0) (b ∷ bytes)) (drop (cond v (suc n) 0) (b ∷ bytes))
front_step p b bytes true n e h = record { passes = rw e h.passes; stops = h.stops }
front_step p b bytes false n e h = record { passes = refl; stops = e }

step_is : (v : Bool) (n : ℕ) → cond v (suc n) 0 ≡ cond v (1 + n) 0
step_is true n = omega arith
step_is false n = refl

-- the front that passes is a run
pub run_of : (p : ℕ → Bool) (bytes : List ℕ) → IsRun p (front p bytes) (past p bytes)
run_of p [] = record { passes = refl; stops = refl }
run_of p (b ∷ bytes) =
    subst (λ n. IsRun p (take n (b ∷ bytes)) (drop n (b ∷ bytes))) (step_is (p b) (prefix_len p bytes)) (front_step p b bytes (p b) (prefix_len p bytes) refl (run_of p bytes))

-- a run begins as the bytes do
pub begins_run : (p q : ℕ → Bool) (bytes text behind : List ℕ) → ((b : ℕ) → q b ≡ true → p b ≡ true) → bytes ≡ text ++ behind → IsRun p text behind → begins q bytes ≡ true → begins q text ≡ true
begins_run p q bytes [] [] within e run h = let no : begins q [] ≡ true = rw e at h in absurd cc
begins_run p q bytes [] (b ∷ behind) within e run h =
    let here : q b ≡ true = rw e at h in let passes = within b here in let stops = run.stops in absurd cc
begins_run p q bytes (b ∷ text) behind within e run h = rw e at h
