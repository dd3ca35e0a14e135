use Rattle.std.proofs.Common.{inl}
use Rattle.lab_run.proofs.run.prove_text.Goals as goal

pub returns-in_ok-told-in-Ok : goal.returns-in_ok-told-in-Ok
returns-in_ok-told-in-Ok c = inl (record {
  given = c.in-Ok.loaded;
  gives = c.in-Ok.ensures.given;
  right = c.in_ok-told-in-Ok.ensures;
})
