use Rattle.std.proofs.Common.{◌≡◌, ◌∙◌, Some, sym}
use Rattle.rbac_policy.specs.Facts.{IsLive}
use Rattle.policy_board.proofs.Reading.{has_asked}
use Rattle.policy_board.proofs.seat.Seat.lives.Goals as goal

pub returns-in-Ok : goal.returns-in-Ok
returns-in-Ok g c =
    let there : c.self.inside.reader ≡ Some c.unwrap-reader.result =
    sym c.take.ensures.value ∙ c.unwrap-reader.ensures in
    has_asked (λ entries. IsLive entries c.args.session) c.lives-lives.result _ _ _ _ _ _ _ _ _ _ _ c.self.view_is there
    c.leave.ensures
    c.in-Ok.ensures (c.lives-lives.ensures c.in-Ok.reading c.policy.ensures)
