use Rattle.std.proofs.Common.{◌∙◌, ap, sym, true}
use Rattle.est_cells.proofs.Complete.{least, live_least}
use Rattle.est_cells.proofs.Emitted.{may_begun, may_resumed, sure_begun, sure_resumed}
use Rattle.est_cells.proofs.Order.{emits_down, emits_up}
use Rattle.est_cells.specs.Meaning.{begun, resumed}
use Rattle.est_micro.proofs.laws.nothing_is_missed.Goals as goal

pub returns : goal.returns
returns c = record {
  begun = λ main s r g e f T o k h.
      let M = begun main s r e in
      let b = least main s r g e f T o k h in
      record {
        given = b.cells.must;
        not_given = b.cells.may;
        emitted = λ n l. emits_up main s M T b n (ap (λ a. a n) (sure_begun main s r e) ∙ l);
        not_emitted = λ n l. sym (ap (λ a. a n) (may_begun main s r e)) ∙ emits_down main s M T b n l;
      };
  resumed = λ s bits r g e f T o k h.
      let M = resumed s bits r e in
      let b = live_least s bits r g e f T o k h in
      record {
        given = b.cells.must;
        not_given = b.cells.may;
        emitted = λ n l. emits_up true s M T b n (ap (λ a. a n) (sure_resumed s bits r e) ∙ l);
        not_emitted = λ n l. sym (ap (λ a. a n) (may_resumed s bits r e)) ∙ emits_down true s M T b n l;
      };
}
