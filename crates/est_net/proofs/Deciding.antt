-- One cell that is decided is one step more.
use Rattle.std.proofs.Common.{◌≡◌, ◌+◌, ℕ, List, set, get_or, Bool, true, false, Some, arith}
use Rattle.std.specs.Prelude.{slice_get}
use Rattle.std.proofs.lemmas.List.Sums.{sum_by-set}
use Rattle.std.proofs.lemmas.Option.{slice_get_within, slice_get-get_or}
use Rattle.est_meaning.specs.declared.status.Status.{Status}
use Rattle.est_meaning.specs.declared.status.Status.TheVariants.{Unknown}
use Rattle.est_net.specs.Cells.{decided, known_as, steps_of}

open_at : (cells : List Status) (i : ℕ) → slice_get cells i ≡ Some Unknown → steps_of (get_or cells i Unknown) ≡ 0
open_at cells i e = grind (arith, e, slice_get_within cells i Unknown e, slice_get-get_or cells i Unknown)

one : (value : Bool) → steps_of (known_as value) ≡ 1
one true = omega arith
one false = omega arith

pub decided_more : (cells : List Status) (i : ℕ) (value : Bool) → slice_get cells i ≡ Some Unknown
    → decided (set cells i (known_as value)) ≡ decided cells + 1
decided_more cells i value e =
    omega (
      arith,
      sum_by-set steps_of cells i (known_as value) Unknown (slice_get_within cells i Unknown e),
      open_at cells i e,
      one value,
    )
