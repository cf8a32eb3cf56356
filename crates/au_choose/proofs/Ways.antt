-- What follows of a result, whichever it is.
use Rattle.std.specs.Prelude.{IfOk, MatchResult, Result, Ok, Err}

pub both_ways : {A E : Type 0} (P : A → Type 0) (Q : E → Type 0) (R : A → Type 0) (S : E → Type 0) → ((a : A) → P a → R a) → ((e : E) → Q e → S e)
    → (r : Result A E) → MatchResult r P Q → MatchResult r R S
both_ways P Q R S one other (Ok a) is = one a is
both_ways P Q R S one other (Err e) is = other e is

pub kept_way : {A E : Type 0} (P : A → Type 0) (Q : E → Type 0) (R : A → Type 0) → ((a : A) → P a → R a) → (r : Result A E) → MatchResult r P Q → IfOk r R
kept_way P Q R one (Ok a) is = one a is
kept_way P Q R one (Err e) is = tt
