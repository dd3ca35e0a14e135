use Rattle.std.proofs.Common.{◌≡◌, ◌∙◌, ap, refl, ◌<◌, true, Some, slice_get, arith}
use Rattle.std.proofs.lemmas.Option.{slice_get_within}
use Rattle.est_kernel.specs.Bits.{bits}
use Rattle.access_core.proofs.Places.{marks_with, marks_without, marks_none, marks_of, read_there}
use Rattle.est_kernel.proofs.Masks.{bits_zero}
use Rattle.access_core.proofs.shown.find_observed.Goals.{then-may_observe, else-may_observe}
use Rattle.access_core.proofs.shown.find_observed.Goals as goal

pub loop-place-init : goal.loop-place-init
loop-place-init c = record { none = λ place h. bits_zero place; marks = λ entries stands. marks_none }

pub loop-place-preserved : goal.loop-place-preserved
loop-place-preserved c =
    let there = read_there _ _ c.loop-place.place c.index-declarations-place.result refl c.loop-place-test.true in
    elim c.if-may_observe.branch [
      | then-may_observe w ↦ record {
        none = λ place h. ap (λ s. bits s place) w.seen-is
            ∙ (w.with-seen.ensures.other place (λ e. omega arith) ∙ c.loop-place.invariant.none place (omega arith));
        marks = λ entries stands. marks_of w.seen-is
            (marks_with (c.loop-place.invariant.marks entries stands) _ there
            ((c.may_observe.ensures entries stands).0 w.if-may_observe.true) w.with-seen.ensures.same
            w.with-seen.ensures.other);
      }
      | else-may_observe w ↦ record {
        none = λ place h. ap (λ s. bits s place) w.seen-is ∙ c.loop-place.invariant.none place (omega arith);
        marks = λ entries stands. marks_of w.seen-is
            (marks_without (c.loop-place.invariant.marks entries stands) _ there
            (λ may. let yes : c.may_observe.result ≡ true = (c.may_observe.ensures entries stands).1 may in cc)
            (c.loop-place.invariant.none _ (omega arith)));
      }
    ]

pub returns : goal.returns
returns c = λ entries stands. record {
  exactly = λ place d there.
      let here : slice_get c.declarations-declarations.result.now place ≡ Some d =
      ap (λ xs. slice_get xs place) c.declarations-declarations.ensures.all ∙ there in
      let within : place < c.loop-place.place = omega (arith, slice_get_within _ place d here) in
      (c.loop-place.invariant.marks entries stands).exactly place d within here;
}
