use Rattle.std.proofs.Common.{inl, inr, refl}
use Rattle.std.proofs.KnownBytes.{Keeps-refl}
use Rattle.client_loop.specs.LineSteps.{Tells, TellsNothing}
use Rattle.client_loop.specs.Inner.Clients.{seen_of}
use Rattle.client_loop.proofs.MappedStates.{serves_map}
use Rattle.client_loop.proofs.serving.serve_lines.Goals as goal

pub returns-clause-serves : goal.returns-clause-serves
returns-clause-serves g c =
    elim (rw c.too_long_line.ensures at c.answer_connection-why.ensures.serves) [
      | inl s ↦
          inl (serves_map seen_of _ _ (λ a line text b. Tells g.D.Desk.answers line a text b)
          (λ a line b. TellsNothing g.D.Desk.answers line a b) (λ a line text b h. h)
          (λ a line b h. h) _ _ _ _ _ _ _ _ _ s)
      | inr m ↦ inr (record { no_memory = m.0; noted = m.5; same = rw (m.3, m.4) refl; silent = rw m.2 (Keeps-refl _) })
    ]
