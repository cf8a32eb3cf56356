use Rattle.std.proofs.Common.{◌≡◌, ◌∙◌, ap}
use Rattle.clap.specs.Walk.{texts}
use Rattle.clap.specs.Words.{app_of}
use Rattle.au_words.proofs.ServeLaws.{app, serve_read, no_serve}
use Rattle.au_words.proofs.OptionLaws.{none_found, some_found}
use Rattle.au_words.proofs.serve.serve_of.Goals as goal

pub returns-in-Some : goal.returns-in-Some
returns-in-Some c =
    let words_are : texts c.as_slice.result.now ≡ c.args.options.now = ap texts c.as_slice.ensures.value ∙ c.in_ok-words.ensures in
    serve_read c.args.options.now c.in-Some.found
    (some_found (app_of c.in_ok-command.command) app (texts c.as_slice.result.now) c.args.options.now c.in_ok-found.field-0 c.in-Some.found c.in_ok-command.ensures words_are
    c.in_ok-found.ensures c.in-Some.is)
    c.numbers_of.result c.numbers_of.ensures

pub returns : goal.returns
returns c =
    let words_are : texts c.as_slice.result.now ≡ c.args.options.now = ap texts c.as_slice.ensures.value ∙ c.in_ok-words.ensures in
    no_serve c.args.options.now
    (none_found (app_of c.in_ok-command.command) app (texts c.as_slice.result.now) c.args.options.now c.in_ok-found.field-0 c.in_ok-command.ensures words_are
    c.in_ok-found.ensures c.in-None.is)
