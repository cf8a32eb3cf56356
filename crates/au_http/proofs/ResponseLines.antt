-- The lines of a response.
use Rattle.std.proofs.Common.{◌≡◌, ◌==◌, ℕ, [], false, ap}
use Rattle.std.specs.Prelude.{codes}
use Rattle.au_http.specs.Responses.{allow_line, line_if}

pub no_allow : (status : ℕ) → (status == 405) ≡ false → allow_line status ≡ []
unfolding allow_line
no_allow status e = ap (λ b. line_if b (codes "Allow: POST")) e
