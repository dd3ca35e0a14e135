use Rattle.std.proofs.Common.{◌≡◌}
use Rattle.client_loop.specs.Logins.{RefusesLogouts}
use Rattle.client_loop.proofs.login.Login.logout_at_last.Given as goal

abbrev pub invariant-loop : goal.invariant-loop
invariant-loop g l = record {
  same : l.login.session ≡ l.fn.self.session;
  refused : RefusesLogouts g.D.Desk.answers l.fn.self.session l.fn.desk l.desk;
}
