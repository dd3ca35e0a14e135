use Rattle.rbac_policy.proofs.OfSessions.EndingLemmas.{leaves_room, logout_leaves_room, logout_has_room}
use Rattle.rbac_policy.proofs.laws.logouts_have_room.Goals as goal

pub returns-clause-room : goal.returns-clause-room
returns-clause-room c = λ policy entries stands most room. leaves_room policy entries most stands room

pub returns-clause-left : goal.returns-clause-left
returns-clause-left c = λ entries entry session most room command given live. logout_leaves_room entries entry session
    most room command given live

pub returns-clause-taken : goal.returns-clause-taken
returns-clause-taken c = λ entries session most room live. logout_has_room entries session most room live
