-- Laws of bytes that grow call by call, for callers of links.
use Rattle.std.proofs.Common.{◌≡◌, ℕ, List, [], ◌++◌, Some, None, refl, sym, ap, ◌∙◌, append_assoc, append-nil}
use Rattle.std.specs.Prelude.{Option}
use Rattle.std.specs.Io.KnownBytes.{append_known}
use Rattle.au_io.specs.Stream.{Grows}

-- no bytes more
pub grows_none : (old : Option (List ℕ)) → Grows old old []
grows_none None = refl
grows_none (Some bytes) = ap (λ (l : List ℕ). Some l) (sym (append-nil bytes))

-- some bytes, and then some
append_twice : (old : Option (List ℕ)) (first second : List ℕ) → append_known (append_known old first) second ≡ append_known old (first ++ second)
append_twice None first second = refl
append_twice (Some bytes) first second = ap (λ (l : List ℕ). Some l) (append_assoc bytes first second)

pub grows_on : (old mid new : Option (List ℕ)) (first second : List ℕ) → Grows old mid first → Grows mid new second → Grows old new (first ++ second)
grows_on old mid new first second before after = after ∙ ap (λ (o : Option (List ℕ)). append_known o second) before ∙ append_twice old first second
