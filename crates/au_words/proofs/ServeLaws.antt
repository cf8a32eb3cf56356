-- The options of `serve`, by what `clap` finds.
use Rattle.std.specs.List.{All}
use Rattle.std.specs.Prelude.{IsSomeAnd, MatchOption}
use Rattle.std.proofs.Common.{◌≡◌, ℕ, List, [], ◌∷◌, Option, Some, None, refl, sym, ap, ◌∙◌, subst, codes, true≢false}
use Rattle.clap.specs.Faults.{fault_of}
use Rattle.clap.specs.Matches.{first_value, found_of}
use Rattle.clap.specs.Simple.{App, matches_of}
use Rattle.clap.specs.Walk.{Text, first_of, rows_of}
use Rattle.clap.specs.declared.parser.matches.ArgMatches.{ArgMatches}
use Rattle.au_words.specs.descent.Options.{FindsServe, IsFormed, options_app, serve_options}
use Rattle.au_base.specs.Limits.{WORKERS}
use Rattle.au_words.specs.Words.{AreOptions, IsConnectionsOf, IsNumberWithin, IsServe, connections_name, port_name, workers_name}
use Rattle.au_words.proofs.OptionLaws.{AreNames, IsFound, IsTaken, given, named_text, taken, value_is}

abbrev pub app : App
app = options_app (codes "serve") serve_options

names : AreNames serve_options
names = ((λ e. cc), refl, refl, ((λ e. cc), refl, refl, ((λ e. cc), refl, refl, tt)))

pub is_taken : (words : List Text) (port workers connections : ℕ) (x : IsServe (codes "serve" ∷ words) port workers connections)
    → IsTaken app words ((port_name, Some x.port_text) ∷ (workers_name, Some x.workers_text) ∷ (connections_name, x.connections_text) ∷ [])
is_taken words port workers connections x =
    let split : codes "serve" ∷ x.options ≡ codes "serve" ∷ words = sym x.split in
    let same : x.options ≡ words = cc in
    let options : List (Text × Option Text) = (port_name, Some x.port_text) ∷ (workers_name, Some x.workers_text) ∷ (connections_name, x.connections_text) ∷ [] in
    given (codes "serve") serve_options names words options (refl, (λ q. refl), (refl, (λ q. refl), (refl, (λ q. absurd (true≢false (sym q))), tt)))
    (subst (AreOptions options) same x.reads)

pub no_serve : (words : List Text) → (All IsFormed words → fault_of app words ≡ [] → ⊥) → (port workers connections : ℕ) → IsServe (codes "serve" ∷ words) port workers connections → ⊥
no_serve words none port workers connections x = let t = is_taken words port workers connections x in none t.formed t.passes

module _ (words : List Text) (m : ArgMatches) (found : IsFound app words (rows_of (found_of m))) where
  value_at : (name : Text) → first_value (found_of m) name ≡ first_of name (matches_of app words)
  value_at = value_is app words m found

  finds : (port workers connections : ℕ) → IsServe (codes "serve" ∷ words) port workers connections → FindsServe m port workers connections
  finds port workers connections x =
      let t = is_taken words port workers connections x in (
        subst (λ (o : Option Text). IsSomeAnd o (λ text. IsNumberWithin 1 65_535 text port)) (sym (value_at port_name ∙ t.values.0)) x.port_is,
        subst (λ (o : Option Text). IsSomeAnd o (λ text. IsNumberWithin 1 WORKERS text workers)) (sym (value_at workers_name ∙ t.values.1.0)) x.workers_is,
        subst (λ (o : Option Text). IsConnectionsOf o connections) (sym (value_at connections_name ∙ t.values.1.1.0)) x.connections_is,
      )

  is_serve : (port workers connections : ℕ) → FindsServe m port workers connections → IsServe (codes "serve" ∷ words) port workers connections
  is_serve port workers connections is =
      let g = taken (codes "serve") serve_options names words found.formed found.passes in
      let at_workers = first_of workers_name (matches_of app words) in
      let at_connections = first_of connections_name (matches_of app words) in
      let port_at = named_text app words m found port_name (λ text. IsNumberWithin 1 65_535 text port) is.0 in
      let workers_at = named_text app words m found workers_name (λ text. IsNumberWithin 1 WORKERS text workers) is.1 in
      record {
        options = words;
        port_text = port_at.0;
        workers_text = workers_at.0;
        connections_text = at_connections;
        split = refl;
        reads = subst (λ (o : Option Text). AreOptions ((port_name, Some port_at.0) ∷ (workers_name, o) ∷ (connections_name, at_connections) ∷ []) words) workers_at.1
            (subst (λ (o : Option Text). AreOptions ((port_name, o) ∷ (workers_name, at_workers) ∷ (connections_name, at_connections) ∷ []) words) port_at.1 g.are);
        port_is = port_at.2;
        workers_is = workers_at.2;
        connections_is = subst (λ (o : Option Text). IsConnectionsOf o connections) (value_at connections_name) is.2;
      }

  pub serve_read : (o : Option (ℕ × ℕ × ℕ)) → MatchOption o ((port workers connections : ℕ) → FindsServe m port workers connections → ⊥) (λ s. FindsServe m s.0 s.1 s.2)
      → MatchOption o ((port workers connections : ℕ) → IsServe (codes "serve" ∷ words) port workers connections → ⊥) (λ s. IsServe (codes "serve" ∷ words) s.0 s.1 s.2)
  serve_read None none = λ port workers connections x. none port workers connections (finds port workers connections x)
  serve_read (Some s) is = is_serve s.0 s.1 s.2 is
