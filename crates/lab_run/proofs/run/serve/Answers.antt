use Rattle.std.proofs.Common.{◌≡◌, ◌∙◌, ap, inl, inr}
use Rattle.lab_run.specs.Runs.{status_of_end}
use Rattle.lab_run.proofs.run.serve.Goals as goal

pub returns : goal.returns
returns g c =
    elim (rw (c.as_slice.ensures.value, c.in-Ok.ensures) at c.answer_connection-why.ensures.serves) [
      | inl s ↦
          inl (record {
            why = c.answer_connection-why.result;
            opened = (c.new-answerer.result, c.new-lab.result);
            empty = c.new-lab.ensures;
            closed = (c.answer_connection-why.new.answerer, c.answer_connection-why.new.desk);
            serves = s;
            ends = c.status_of_end.ensures;
          })
      | inr m ↦ inr (c.status_of_end.ensures ∙ ap status_of_end m.0, ap (λ w. g.O.Write.contents w.device) m.2)
    ]
