-- Lines and columns of a text (this project's own form).
use Rattle.std.specs.Prelude.{ℕ, ◌+◌, List, if◌then◌else◌, ◌==◌, fold}
use Rattle.est_text.specs.Bytes.{line_feed}
use Rattle.est_text.specs.declared.place.Place.{Place}

-- the place after one more byte: a line ends with LF (this project's own form)
abbrev pub next_place : Place → ℕ → Place
next_place p b =
    if b == line_feed then record { line = p.line + 1; column = 1 } else record { line = p.line; column = p.column + 1 }

-- the place just after a text: a line and a column, both from 1, the column in bytes (this project's own form)
abbrev pub place_after : List ℕ → Place
place_after text = fold next_place (record { line = 1; column = 1 }) text
