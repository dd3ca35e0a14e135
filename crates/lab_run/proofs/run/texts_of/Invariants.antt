use Rattle.std.proofs.Common.{◌≡◌, take, map, string_bytes}
use Rattle.lab_run.proofs.run.texts_of.Given as goal

abbrev pub invariant-loop-claim : goal.invariant-loop-claim
invariant-loop-claim l = map (λ t. t.now) l.texts.items ≡ map string_bytes (take l.claim-index l.claims)
