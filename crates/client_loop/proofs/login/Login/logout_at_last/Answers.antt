use Rattle.std.proofs.Common.{refl, ◌∙◌, ap}
use Rattle.client_loop.specs.Logins.{none_yet, one_more}
use Rattle.client_loop.proofs.login.Login.logout_at_last.Goals as goal

pub loop-init : goal.loop-init
loop-init g c = record { same = refl; refused = none_yet _ }

pub returns-in-Ok : goal.returns-in-Ok
returns-in-Ok g c = record {
  now = c.loop.desk;
  refused = c.loop.invariant.refused;
  out = rw c.loop.invariant.same at c.in-Ok.ensures;
}

pub loop-preserved-in-Err : goal.loop-preserved-in-Err
loop-preserved-in-Err g c = record {
  same = ap (λ l. l.session) c.in-Err.ensures.1 ∙ c.loop.invariant.same;
  refused = one_more _ _ _ c.loop.invariant.refused (rw c.loop.invariant.same at c.in-Err.ensures.2);
}

pub loop-preserved : goal.loop-preserved
loop-preserved g c = record {
  same = ap (λ l. l.session) c.in-Err.ensures.1 ∙ c.loop.invariant.same;
  refused = one_more _ _ _ c.loop.invariant.refused (rw c.loop.invariant.same at c.in-Err.ensures.2);
}
