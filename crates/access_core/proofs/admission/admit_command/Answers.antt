use Rattle.std.proofs.Common.{◌≡◌, refl, true}
use Rattle.access_core.proofs.admission.admit_command.Goals as goal

pub returns : goal.returns
returns c = λ entries stands.
    rw c.in-Some.is (record {
      place = 1;
      refuses = (
        refl,
        λ may. let yes : c.may.result ≡ true = (c.may.ensures entries stands).1 may in
            let other = c.if-may.false in absurd cc,
      );
      passed = ((c.lives.ensures entries stands).0 c.if-not-lives.false, record {});
    })
