use Rattle.std.proofs.Common.{◌∙◌, ap, List, ℕ}
use Rattle.std.specs.Str.{bytes_eq}
use Rattle.au_define.proofs.Places.{named_at, none_named, past}
use Rattle.au_define.proofs.finding.has_named.Goals as goal

pub returns-then-place-entries : goal.returns-then-place-entries
returns-then-place-entries g c =
    let read = c.index-entries-place in
    c.eq.ensures ∙ ap (λ (name : List ℕ). bytes_eq name c.args.name.now) (c.as_str.ensures ∙ c.name.ensures) ∙ ap (λ entry. bytes_eq (g.T.Named.name_of entry) c.args.name.now) read.is
    ∙ named_at g.T.Named.name_of c.args.name.now c.args.entries.now _ read.result c.requires.order c.name_place-place.ensures c.if-place-entries.true

pub returns-else-place-entries : goal.returns-else-place-entries
returns-else-place-entries g c = past _ _ c.if-place-entries.false ∙ none_named g.T.Named.name_of c.args.name.now c.args.entries.now _ c.name_place-place.ensures c.if-place-entries.false
