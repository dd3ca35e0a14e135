use Rattle.std.proofs.Common.{subst, []}
use Rattle.access_core.specs.Desk.{AdminStep}
use Rattle.client_loop.specs.SharedAnswers.{desk_with}
use Rattle.client_loop.proofs.SharedLemmas.{logout_reply}
use Rattle.client_loop.proofs.shared_desk.SharedDeskDesk.admin.Goals as goal

pub returns-clause-logout : goal.returns-clause-logout
returns-clause-logout g c is =
    let step = c.command_board.ensures.step [] in
    logout_reply c.args.session (desk_with c.command_board.ensures.old [])
    c.command_board.result (desk_with c.command_board.ensures.new [])
    (subst (λ command. AdminStep c.args.session command
    (desk_with c.command_board.ensures.old []) c.command_board.result
    (desk_with c.command_board.ensures.new [])) is step)
