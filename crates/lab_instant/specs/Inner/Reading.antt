-- Reading one cell after another (this project's own form).
use Rattle.std.specs.Prelude.{◌≡◌, ◌+◌, ℕ, List, slice_get}
use Rattle.est_meaning.specs.declared.status.Status.{Status}
use Rattle.est_net.specs.declared.owners.StatementCell.{StatementCell}
use Rattle.lab_instant.specs.Seen.{all_begun, all_locals, all_resumed, begun_at, found_below, resumed_at}
use Rattle.lab_instant.specs.declared.seen.Incarnation.{Incarnation}
use Rattle.lab_instant.specs.declared.seen.Seen.{Seen}

-- what took part, by the owners of the cells from place c on
pub record AreAll (owners : List StatementCell) (f : ℕ → Status) (c : ℕ) (seen : Seen) : Type 0 where
  pub began : seen.began.items ≡ all_begun owners f c
  pub went_on : seen.went_on.items ≡ all_resumed owners f c
  pub locals : seen.locals.items ≡ all_locals owners f c

-- what began and what went on, by the owners before place n
pub record AreReadTo (owners : List StatementCell) (f : ℕ → Status) (c n : ℕ) (b w : List Incarnation) : Type 0 where
  pub began : b ≡ found_below (λ x. begun_at (slice_get owners x) (f (c + x))) n
  pub went_on : w ≡ found_below (λ x. resumed_at (slice_get owners x) f (c + x)) n
