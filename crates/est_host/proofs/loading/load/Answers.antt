use Rattle.est_host.proofs.loading.load.Goals as goal
use Rattle.est_host.specs.Faults.{not_text, refused}

pub returns-in_default-clause-told : goal.returns-in_default-clause-told
returns-in_default-clause-told c = rw c.without_place.ensures (not_text (λ m t. c.in_default.ensures.cases.0 m))

pub returns-in_default-from_utf8-clause-told : goal.returns-in_default-from_utf8-clause-told
returns-in_default-from_utf8-clause-told c =
    rw c.without_place-in_default-from_utf8.ensures (not_text (λ m t. c.in_default-from_utf8.ensures.cases.0 t))

pub returns-in-Err-clause-told : goal.returns-in-Err-clause-told
returns-in-Err-clause-told c =
    rw (c.fault_of.ensures, ← c.in-Ok.ensures.cases.0, ← c.in-Ok-from_utf8.ensures.cases.0)
    (refused c.in-Err.refusal c.in-Err.ensures.fault)
