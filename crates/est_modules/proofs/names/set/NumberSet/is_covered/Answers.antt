use Rattle.std.proofs.Common.{◌∙◌, ◌&&◌, ◌<◌, not, refl, ap, arith}
use Rattle.std.proofs.lemmas.Bool.{false≢true}
use Rattle.est_kernel.specs.Bits.{bits}
use Rattle.est_modules.specs.NumberSets.{numbers_of}
use Rattle.est_modules.proofs.SetWords.{minus_at, covered_next, covered_whole, word_uncovered}
use Rattle.est_modules.proofs.names.set.NumberSet.is_covered.Goals as goal

pub loop-place-preserved : goal.loop-place-preserved
unfolding numbers_of
loop-place-preserved c =
    let a = c.args.self.now.words.items in
    let b = c.args.first.now.words.items in
    let d = c.args.second.now.words.items in
    let place = c.loop-place.place in
    covered_next a b d place c.difference-left.result c.difference-rest.result
    (minus_at a b place c.word.result c.word-in-loop-place.result c.difference-left.result c.word.ensures
    c.word-in-loop-place.ensures c.difference-left.ensures)
    (λ k. c.difference-rest.ensures k
    ∙ ap (λ w. bits c.difference-left.result k && not (bits w k)) c.word-in-loop-place-2.ensures)
    c.if-rest-ne0.false c.loop-place.invariant

pub returns-then-rest-ne0 : goal.returns-then-rest-ne0
unfolding numbers_of
returns-then-rest-ne0 c =
    let a = c.args.self.now.words.items in
    let b = c.args.first.now.words.items in
    let d = c.args.second.now.words.items in
    let place = c.loop-place.place in
    let some : 0 < c.difference-rest.result = omega (arith, c.if-rest-ne0.true) in (
      λ h. absurd (false≢true h),
      λ all. absurd (word_uncovered a b d place c.difference-left.result c.difference-rest.result
          (minus_at a b place c.word.result c.word-in-loop-place.result c.difference-left.result c.word.ensures
          c.word-in-loop-place.ensures c.difference-left.ensures)
          (λ k. c.difference-rest.ensures k
          ∙ ap (λ w. bits c.difference-left.result k && not (bits w k)) c.word-in-loop-place-2.ensures)
          some (omega arith) all),
    )

pub returns : goal.returns
unfolding numbers_of
returns c = (
  λ h. covered_whole c.args.self.now.words.items c.args.first.now.words.items c.args.second.now.words.items
      c.loop-place.place (omega (arith, c.loop-place-test.false)) c.loop-place.invariant,
  λ all. refl,
)
