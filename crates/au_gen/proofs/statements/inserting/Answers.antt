use Rattle.std.proofs.Common.{◌≡◌, ◌∙◌, ℕ, List, [], ◌∷◌, ◌++◌, sym, ap, append_assoc}
use Rattle.std.specs.Prelude.{codes, decimal}
use Rattle.au_gen.specs.Sample.{inserting}
use Rattle.au_gen.proofs.statements.inserting.Goals as goal

grouped : (row salary : List ℕ) → row ++ (44 ∷ 32 ∷ (salary ++ 41 ∷ [])) ≡ ((row ++ 44 ∷ 32 ∷ []) ++ salary) ++ 41 ∷ []
grouped row salary = sym (append_assoc (row ++ 44 ∷ 32 ∷ []) salary (41 ∷ []) ∙ append_assoc row (44 ∷ 32 ∷ []) (salary ++ 41 ∷ []))

pub returns : goal.returns
unfolding inserting
returns c =
    c.from_string.ensures ∙ c.in_ok-format.ensures.ok
    ∙ ap (λ (rest : List ℕ). codes "INSERT INTO PAY VALUES (" ++ rest) (grouped (decimal c.args.row) (decimal c.args.salary))
