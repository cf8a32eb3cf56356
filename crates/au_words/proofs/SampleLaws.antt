-- The options of `sample`, by what `clap` finds.
use Rattle.std.specs.List.{All}
use Rattle.std.specs.Prelude.{IsSomeAnd, MatchOption}
use Rattle.std.proofs.Common.{◌≡◌, ℕ, List, [], ◌∷◌, Option, Some, None, refl, sym, ap, ◌∙◌, subst, codes}
use Rattle.clap.specs.Faults.{fault_of}
use Rattle.clap.specs.Matches.{first_value, found_of}
use Rattle.clap.specs.Simple.{App, matches_of}
use Rattle.clap.specs.Walk.{Text, first_of, rows_of}
use Rattle.clap.specs.declared.parser.matches.ArgMatches.{ArgMatches}
use Rattle.au_words.specs.descent.Options.{FindsSample, IsFormed, options_app, sample_options}
use Rattle.au_base.specs.Limits.{SAMPLE_ROWS}
use Rattle.au_words.specs.Words.{AreOptions, IsNumber, IsNumberWithin, IsSample, rows_name, seed_name}
use Rattle.au_words.proofs.OptionLaws.{AreNames, IsFound, IsTaken, given, named_text, taken, value_is}

abbrev pub app : App
app = options_app (codes "sample") sample_options

names : AreNames sample_options
names = ((λ e. cc), refl, refl, ((λ e. cc), refl, refl, tt))

pub is_taken : (words : List Text) (seed rows : ℕ) (x : IsSample (codes "sample" ∷ words) seed rows)
    → IsTaken app words ((seed_name, Some x.seed_text) ∷ (rows_name, Some x.rows_text) ∷ [])
is_taken words seed rows x =
    let split : codes "sample" ∷ x.options ≡ codes "sample" ∷ words = sym x.split in
    let same : x.options ≡ words = cc in
    let options : List (Text × Option Text) = (seed_name, Some x.seed_text) ∷ (rows_name, Some x.rows_text) ∷ [] in
    given (codes "sample") sample_options names words options (refl, (λ q. refl), (refl, (λ q. refl), tt)) (subst (AreOptions options) same x.reads)

pub no_sample : (words : List Text) → (All IsFormed words → fault_of app words ≡ [] → ⊥) → (seed rows : ℕ) → IsSample (codes "sample" ∷ words) seed rows → ⊥
no_sample words none seed rows x = let t = is_taken words seed rows x in none t.formed t.passes

module _ (words : List Text) (m : ArgMatches) (found : IsFound app words (rows_of (found_of m))) where
  value_at : (name : Text) → first_value (found_of m) name ≡ first_of name (matches_of app words)
  value_at = value_is app words m found

  finds : (seed rows : ℕ) → IsSample (codes "sample" ∷ words) seed rows → FindsSample m seed rows
  finds seed rows x =
      let t = is_taken words seed rows x in (
        subst (λ (o : Option Text). IsSomeAnd o (λ text. IsNumber text seed)) (sym (value_at seed_name ∙ t.values.0)) x.seed_is,
        subst (λ (o : Option Text). IsSomeAnd o (λ text. IsNumberWithin 1 SAMPLE_ROWS text rows)) (sym (value_at rows_name ∙ t.values.1.0)) x.rows_is,
      )

  is_sample : (seed rows : ℕ) → FindsSample m seed rows → IsSample (codes "sample" ∷ words) seed rows
  is_sample seed rows is =
      let g = taken (codes "sample") sample_options names words found.formed found.passes in
      let seed_at = named_text app words m found seed_name (λ text. IsNumber text seed) is.0 in
      let rows_at = named_text app words m found rows_name (λ text. IsNumberWithin 1 SAMPLE_ROWS text rows) is.1 in
      record {
        options = words;
        seed_text = seed_at.0;
        rows_text = rows_at.0;
        split = refl;
        reads = subst (λ (o : Option Text). AreOptions ((seed_name, Some seed_at.0) ∷ (rows_name, o) ∷ []) words) rows_at.1
            (subst (λ (o : Option Text). AreOptions ((seed_name, o) ∷ (rows_name, first_of rows_name (matches_of app words)) ∷ []) words) seed_at.1 g.are);
        seed_is = seed_at.2;
        rows_is = rows_at.2;
      }

  pub sample_read : (o : Option (ℕ × ℕ)) → MatchOption o ((seed rows : ℕ) → FindsSample m seed rows → ⊥) (λ sample. FindsSample m sample.0 sample.1)
      → MatchOption o ((seed rows : ℕ) → IsSample (codes "sample" ∷ words) seed rows → ⊥) (λ sample. IsSample (codes "sample" ∷ words) sample.0 sample.1)
  sample_read None none = λ seed rows x. none seed rows (finds seed rows x)
  sample_read (Some sample) is = is_sample sample.0 sample.1 is
