-- What the words of a command with options determine, and that they are more than one.
use Rattle.std.specs.Str.Parse.{digits_value, without_leading_plus}
use Rattle.std.proofs.Common.{◌≡◌, ℕ, List, [], ◌∷◌, Option, Some, None, sym, ap, ap₂, ◌∙◌, subst, codes, refl}
use Rattle.clap.specs.Walk.{Text}
use Rattle.au_words.specs.declared.command.Command.TheVariants as command
use Rattle.au_words.specs.Words.{AreOptions, IsConnectionsOf, IsInit, IsLimitOf, IsNumber, IsSample, IsServe, connections_name, given_of, limit_name, password_name, port_name, rows_name, seed_name, workers_name}
use Rattle.au_words.proofs.InitLaws as init
use Rattle.au_words.proofs.OptionLaws.{not_without}
use Rattle.au_words.proofs.SampleLaws as sample
use Rattle.au_words.proofs.ServeLaws as serve

same_limit : (t u : Option Text) (a b : ℕ) → t ≡ u → IsLimitOf t a → IsLimitOf u b → a ≡ b
same_limit t u a b same x y = by_text u (subst (λ (o : Option Text). IsLimitOf o a) same x) y
  where
    by_text : (o : Option Text) → IsLimitOf o a → IsLimitOf o b → a ≡ b
    by_text None x y = x ∙ sym y
    by_text (Some text) x y = x.0.value ∙ sym y.0.value

same_number : (t u : Text) (a b : ℕ) → t ≡ u → IsNumber t a → IsNumber u b → a ≡ b
same_number t u a b same x y = x.value ∙ ap (λ (l : Text). digits_value 10 (without_leading_plus l)) same ∙ sym y.value

pub same_init : (words : List Text) (p q : Text) (a b : ℕ) → IsInit words p a → IsInit words q b → command.Init p a ≡ command.Init q b
same_init words p q a b x y = go (subst (λ (l : List Text). IsInit l p a) x.split x) (subst (λ (l : List Text). IsInit l q b) x.split y)
  where
    go : IsInit (codes "init" ∷ x.options) p a → IsInit (codes "init" ∷ x.options) q b → command.Init p a ≡ command.Init q b
    go here there =
        let s = init.is_taken x.options p a here in
        let t = init.is_taken x.options q b there in
        let texts : Some p ≡ Some q = sym s.values.0 ∙ t.values.0 in
        let passwords : p ≡ q = cc in
        ap₂ command.Init passwords (same_limit here.limit_text there.limit_text a b (sym s.values.1.0 ∙ t.values.1.0) here.limit_is there.limit_is)

pub same_sample : (words : List Text) (a b c d : ℕ) → IsSample words a c → IsSample words b d → command.Sample a c ≡ command.Sample b d
same_sample words a b c d x y = go (subst (λ (l : List Text). IsSample l a c) x.split x) (subst (λ (l : List Text). IsSample l b d) x.split y)
  where
    go : IsSample (codes "sample" ∷ x.options) a c → IsSample (codes "sample" ∷ x.options) b d → command.Sample a c ≡ command.Sample b d
    go here there =
        let s = sample.is_taken x.options a c here in
        let t = sample.is_taken x.options b d there in
        let seeds : Some here.seed_text ≡ Some there.seed_text = sym s.values.0 ∙ t.values.0 in
        let seed : here.seed_text ≡ there.seed_text = cc in
        let many : Some here.rows_text ≡ Some there.rows_text = sym s.values.1.0 ∙ t.values.1.0 in
        let rows : here.rows_text ≡ there.rows_text = cc in
        ap₂ command.Sample (same_number here.seed_text there.seed_text a b seed here.seed_is there.seed_is) (same_number here.rows_text there.rows_text c d rows here.rows_is.0 there.rows_is.0)

same_connections : (t u : Option Text) (a b : ℕ) → t ≡ u → IsConnectionsOf t a → IsConnectionsOf u b → a ≡ b
same_connections t u a b same x y = by_text u (subst (λ (o : Option Text). IsConnectionsOf o a) same x) y
  where
    by_text : (o : Option Text) → IsConnectionsOf o a → IsConnectionsOf o b → a ≡ b
    by_text None x y = x ∙ sym y
    by_text (Some text) x y = x.value ∙ sym y.value

serves : (a b c d e f : ℕ) → a ≡ b → c ≡ d → e ≡ f → command.Serve a c e ≡ command.Serve b d f
serves a b c d e f ports workers connections = ap₂ (λ (m n : ℕ). command.Serve m n e) ports workers ∙ ap (λ (n : ℕ). command.Serve b d n) connections

pub same_serve : (words : List Text) (a b c d e f : ℕ) → IsServe words a c e → IsServe words b d f → command.Serve a c e ≡ command.Serve b d f
same_serve words a b c d e f x y = go (subst (λ (l : List Text). IsServe l a c e) x.split x) (subst (λ (l : List Text). IsServe l b d f) x.split y)
  where
    go : IsServe (codes "serve" ∷ x.options) a c e → IsServe (codes "serve" ∷ x.options) b d f → command.Serve a c e ≡ command.Serve b d f
    go here there =
        let s = serve.is_taken x.options a c e here in
        let t = serve.is_taken x.options b d f there in
        let ports : Some here.port_text ≡ Some there.port_text = sym s.values.0 ∙ t.values.0 in
        let port : here.port_text ≡ there.port_text = cc in
        let many : Some here.workers_text ≡ Some there.workers_text = sym s.values.1.0 ∙ t.values.1.0 in
        let workers : here.workers_text ≡ there.workers_text = cc in
        let connections = sym s.values.1.1.0 ∙ t.values.1.1.0 in
        serves a b c d e f (same_number here.port_text there.port_text a b port here.port_is.0 there.port_is.0)
        (same_number here.workers_text there.workers_text c d workers here.workers_is.0 there.workers_is.0)
        (same_connections here.connections_text there.connections_text e f connections here.connections_is there.connections_is)

-- `init`, `sample` and `serve` aren't words of their own

pub init_alone : (word : Text) (password : Text) (limit : ℕ) → IsInit (word ∷ []) password limit → ⊥
init_alone word password limit x =
    let split : word ∷ [] ≡ codes "init" ∷ x.options = x.split in
    let none : x.options ≡ [] = cc in
    let named : List (Text × Option Text) = (password_name, Some password) ∷ (limit_name, x.limit_text) ∷ [] in
    not_without named (password_name, password) (given_of ((limit_name, x.limit_text) ∷ [])) refl (subst (AreOptions named) none x.reads)

pub sample_alone : (word : Text) (seed rows : ℕ) → IsSample (word ∷ []) seed rows → ⊥
sample_alone word seed rows x =
    let split : word ∷ [] ≡ codes "sample" ∷ x.options = x.split in
    let none : x.options ≡ [] = cc in
    let named : List (Text × Option Text) = (seed_name, Some x.seed_text) ∷ (rows_name, Some x.rows_text) ∷ [] in
    not_without named (seed_name, x.seed_text) ((rows_name, x.rows_text) ∷ []) refl (subst (AreOptions named) none x.reads)

pub serve_alone : (word : Text) (port workers connections : ℕ) → IsServe (word ∷ []) port workers connections → ⊥
serve_alone word port workers connections x =
    let split : word ∷ [] ≡ codes "serve" ∷ x.options = x.split in
    let none : x.options ≡ [] = cc in
    let named : List (Text × Option Text) = (port_name, Some x.port_text) ∷ (workers_name, Some x.workers_text) ∷ (connections_name, x.connections_text) ∷ [] in
    not_without named (port_name, x.port_text) (given_of ((workers_name, Some x.workers_text) ∷ (connections_name, x.connections_text) ∷ [])) refl (subst (AreOptions named) none x.reads)
