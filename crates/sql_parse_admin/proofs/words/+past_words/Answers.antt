use Rattle.std.proofs.Common.{ap, sym, ◌∙◌}
use Rattle.std.specs.Option.{option_map}
use Rattle.sql_parse.specs.Privileges.{words}
use Rattle.sql_parse.specs.Symbols.{kinds}
use Rattle.sql_parse_admin.proofs.WordLaws.{words_first, one_word, last_word, no_word, next_word}
use Rattle.sql_parse_admin.proofs.words.+past_words.Goals as goal

pub returns-in_err-expect_word-in-Some : goal.returns-in_err-expect_word-in-Some
returns-in_err-expect_word-in-Some t c =
    let none = rw (c.in_err-expect_word-in-Some.was, c.as_bytes.ensures.value) at c.expect_word.ensures in
    let first = words_first c.args.name.now (c.in-Some.word, c.in-Some.others) c.in-Some.ensures.cases in
    let all = no_word c.args.name.now c.in-Some.word.now (words c.in-Some.others.now) (kinds c.args.tokens.now) first (sym none) in
    ap (option_map (λ rest. kinds rest.now)) c.from_residual.ensures ∙ sym all

pub returns-in_ok-expect_word-in-Some : goal.returns-in_ok-expect_word-in-Some
returns-in_ok-expect_word-in-Some t c =
    let next = rw (c.in_ok-expect_word-in-Some.was, c.as_bytes.ensures.value) at c.expect_word.ensures in
    let first = words_first c.args.name.now (c.in-Some.word, c.in-Some.others) c.in-Some.ensures.cases in
    c.past_words.ensures ∙ sym (next_word c.args.name.now c.in-Some.word.now (words c.in-Some.others.now) (kinds c.args.tokens.now) _ first (sym next))

pub returns-in-None : goal.returns-in-None
returns-in-None t c = last_word _ _ _ (one_word _ c.in-None.ensures.cases) (rw c.as_bytes-in-None.ensures.value at c.expect_word-in-None.ensures)
