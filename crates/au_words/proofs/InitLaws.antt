-- The options of `init`, by what `clap` finds.
use Rattle.std.specs.List.{All}
use Rattle.std.specs.Prelude.{Err, IfOk, MatchOption, Ok, Result}
use Rattle.std.proofs.Common.{◌≡◌, ℕ, List, [], ◌∷◌, Option, Some, None, refl, sym, ap, ◌∙◌, subst, codes, true≢false}
use Rattle.clap.specs.Faults.{fault_of}
use Rattle.clap.specs.Matches.{first_value, found_of}
use Rattle.clap.specs.Simple.{App, matches_of}
use Rattle.clap.specs.Walk.{Text, first_of, rows_of}
use Rattle.clap.specs.declared.parser.matches.ArgMatches.{ArgMatches}
use Rattle.au_words.specs.descent.Options.{FindsInit, IsFormed, init_options, options_app}
use Rattle.au_words.specs.Words.{AreOptions, IsInit, IsLimitOf, limit_name, password_name}
use Rattle.au_words.proofs.OptionLaws.{AreNames, IsFound, IsTaken, given, taken, value_is}

abbrev pub app : App
app = options_app (codes "init") init_options

names : AreNames init_options
names = ((λ e. cc), refl, refl, ((λ e. cc), refl, refl, tt))

pub is_taken : (words : List Text) (password : Text) (limit : ℕ) (x : IsInit (codes "init" ∷ words) password limit)
    → IsTaken app words ((password_name, Some password) ∷ (limit_name, x.limit_text) ∷ [])
is_taken words password limit x =
    let split : codes "init" ∷ x.options ≡ codes "init" ∷ words = sym x.split in
    let same : x.options ≡ words = cc in
    let options : List (Text × Option Text) = (password_name, Some password) ∷ (limit_name, x.limit_text) ∷ [] in
    given (codes "init") init_options names words options (refl, (λ q. refl), (refl, (λ q. absurd (true≢false (sym q))), tt))
    (subst (AreOptions options) same x.reads)

pub no_init : (words : List Text) → (All IsFormed words → fault_of app words ≡ [] → ⊥) → (password : Text) (limit : ℕ) → IsInit (codes "init" ∷ words) password limit → ⊥
no_init words none password limit x = let t = is_taken words password limit x in none t.formed t.passes

module _ (words : List Text) (m : ArgMatches) (found : IsFound app words (rows_of (found_of m))) where
  value_at : (name : Text) → first_value (found_of m) name ≡ first_of name (matches_of app words)
  value_at = value_is app words m found

  finds : (password : Text) (limit : ℕ) → IsInit (codes "init" ∷ words) password limit → FindsInit m password limit
  finds password limit x =
      let t = is_taken words password limit x in
      (value_at password_name ∙ t.values.0, x.may_be, subst (λ (o : Option Text). IsLimitOf o limit) (sym (value_at limit_name ∙ t.values.1.0)) x.limit_is)

  is_init : (password : Text) (limit : ℕ) → FindsInit m password limit → IsInit (codes "init" ∷ words) password limit
  is_init password limit is =
      let g = taken (codes "init") init_options names words found.formed found.passes in
      let here = first_of limit_name (matches_of app words) in
      record {
        options = words;
        limit_text = here;
        split = refl;
        reads = subst (λ (o : Option Text). AreOptions ((password_name, o) ∷ (limit_name, here) ∷ []) words) (sym (value_at password_name) ∙ is.0) g.are;
        may_be = is.1;
        limit_is = subst (λ (o : Option Text). IsLimitOf o limit) (value_at limit_name) is.2;
      }

  pub init_read : {E : Type 0} (r : Result (Option (Text × ℕ)) E) → IfOk r (λ o. MatchOption o ((password : Text) (limit : ℕ) → FindsInit m password limit → ⊥) (λ init. FindsInit m init.0 init.1))
      → IfOk r (λ o. MatchOption o ((password : Text) (limit : ℕ) → IsInit (codes "init" ∷ words) password limit → ⊥) (λ init. IsInit (codes "init" ∷ words) init.0 init.1))
  init_read (Ok None) none = λ password limit x. none password limit (finds password limit x)
  init_read (Ok (Some init)) is = is_init init.0 init.1 is
  init_read (Err e) is = tt
