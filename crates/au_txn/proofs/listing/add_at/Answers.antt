use Rattle.std.proofs.Common.{◌≡◌, ◌∙◌, inl, inr, [], true, false, sym}
use Rattle.au_txn.proofs.Listed.{weaker}
use Rattle.au_rows.specs.Held.{number_of, seen_at}
use Rattle.au_txn.proofs.Listed.{added-listed, again-listed, first-or-later}
use Rattle.au_txn.proofs.listing.add_at.Goals as goal

pub returns-then-is_repeated : goal.returns-then-is_repeated
returns-then-is_repeated c = elim (first-or-later c.args.at) [
  | inl first ↦ absurd (let wrong : true ≡ false = sym c.if-is_repeated.true ∙ c.is_repeated.ensures.first first in cc)
  | inr later ↦ again-listed _ _ c.args.names.now c.args.at later.0 (record { table = record { owner = []; name = [] }; row = record { 0 = 0 } }) c.args.finals.now.items c.requires.within later.1
      (sym (c.is_repeated.ensures.later later.0 (record { table = record { owner = []; name = [] }; row = record { 0 = 0 } }) later.1) ∙ c.if-is_repeated.true) c.requires.so_far
]

pub returns : goal.returns
returns c = weaker c.add_final.result c.add_final.ensures
    (λ x added. added-listed (λ t n. seen_at (number_of t c.args.rows.now.tables) n c.args.clients.0 c.args.rows.now.held) (λ t n. seen_at (number_of t c.args.rows.now.tables) n c.args.clients.1 c.args.rows.now.held)
    c.args.names.now c.args.at c.index-names-at.result c.args.finals.now.items c.add_final.new.finals.items c.requires.within c.index-names-at.is c.requires.so_far added c.requires.rise
    (λ k d next. sym (c.is_repeated.ensures.later k d next) ∙ c.if-is_repeated.false))
