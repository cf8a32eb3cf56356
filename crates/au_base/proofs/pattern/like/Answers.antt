use Rattle.au_base.proofs.LikeLemmas.{like-rest, rest-like}
use Rattle.au_base.proofs.pattern.like.Goals as goal

pub returns-in-Percent : goal.returns-in-Percent
returns-in-Percent c =
    let on = c.in-Percent.ensures.front in
    let ends = c.has_end_like.ensures in
    rw (← c.as_str.ensures, ← c.as_str-2.ensures) (λ yes. rest-like _ _ _ _ on (ends.0 yes), λ like. ends.1 (like-rest _ _ _ _ on like))
