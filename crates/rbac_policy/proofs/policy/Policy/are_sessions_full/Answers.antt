use Rattle.std.proofs.Common.{◌∙◌, ap, sym}
use Rattle.std.specs.Prelude.{is_some}
use Rattle.rbac_policy.specs.declared.rows.Session.{Session}
use Rattle.rbac_policy.specs.declared.sizes.TheConstants.{SESSIONS}
use Rattle.rbac_policy.specs.Facts.{IsLive}
use Rattle.rbac_policy.proofs.OfSlots.Room.{keeps_sessions}
use Rattle.rbac_policy.proofs.OfReaders.Reading.{full_test}
use Rattle.rbac_policy.proofs.policy.Policy.are_sessions_full.Goals as goal

pub returns : goal.returns
returns c = λ L st.
    let p = c.args.self.now in
    full_test (λ (x : Session). x.number) p.sessions (IsLive L) SESSIONS c.is_none.result
    (keeps_sessions p.roles p.sessions L st.sessions) st.sessions.places
    (sym (ap is_some c.free.ensures) ∙ c.is_none.ensures)
