-- Places in order, each row once.
use Rattle.std.specs.Prelude.{List, [], ◌∷◌, Bool, true, ◌==◌, ◌&&◌, ◌||◌, nat_lt}
use Rattle.std.specs.List.{list_all}
use Rattle.au_rows.specs.declared.place.Place.{Place}

-- by table and then by number
abbrev pub is_before : Place → Place → Bool
is_before p q = nat_lt p.table q.table || ((p.table == q.table) && nat_lt p.number.0 q.number.0)

-- each place is before all later ones
abbrev pub in_order : List Place → Bool
in_order [] = true
in_order (place ∷ places) = list_all (is_before place) places && in_order places
