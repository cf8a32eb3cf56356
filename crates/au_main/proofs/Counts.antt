-- Numbers of lines, and why a line stopped.
use Rattle.std.proofs.Common.{◌≡◌, ℕ, ◌+◌, ◌-◌, ◌<◌, ◌≤◌, arith, ap, Ok, Err, IsErrOf, Fits, w64}
use Rattle.au_main.specs.declared.stop.Stop.{Stop}
use Rattle.au_main.specs.declared.stop.Stop.TheVariants as stop
use Rattle.au_main.specs.Lines.{script_limit}

pub counted : (n : ℕ) → 1 ≤ n → n ≡ (n - 1) + 1
counted n some = omega arith

pub counted_next : (n : ℕ) → 1 ≤ n → (n + 1) - 1 ≡ (n - 1) + 1
counted_next n some = omega arith

pub some_next : (n : ℕ) → 1 ≤ n + 1
some_next n = omega arith

pub fits_next : (n taken : ℕ) → n - 1 ≤ taken → taken ≤ script_limit → Fits w64 (n + 1)
fits_next n taken below within = omega arith

pub falls : (n taken : ℕ) → (n + 1) - 1 ≤ taken → taken ≤ script_limit → (script_limit + 1) - (n + 1) < (script_limit + 1) - n
falls n taken below within = omega arith

pub none_taken : (taken : ℕ) → taken ≡ 0 → taken ≤ script_limit
none_taken taken none = omega arith

pub stopped : (s t : Stop) → s ≡ t → IsErrOf {T = Unit {0}} (Err s) t
stopped s t e = ap (λ x. Err x) e

pub went_on : (s : Stop) → IsErrOf {T = Unit {0}} (Ok tt) s → ⊥
went_on s e = cc

pub bad_is_no_fault : IsErrOf {T = Unit {0}} (Err stop.BadLine) stop.WriteFault → ⊥
bad_is_no_fault e = cc

pub memory_is_no_fault : IsErrOf {T = Unit {0}} (Err stop.Memory) stop.WriteFault → ⊥
memory_is_no_fault e = cc
