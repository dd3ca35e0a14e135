use Rattle.std.proofs.Common.{arith}
use Rattle.est_modules.specs.NumberSets.{numbers_of}
use Rattle.est_modules.proofs.SetWords.{difference_next, difference_whole, minus_at}
use Rattle.est_modules.proofs.names.set.NumberSet.add_difference.Goals as goal

pub loop-place-preserved : goal.loop-place-preserved
unfolding numbers_of
loop-place-preserved c i =
    difference_next c.args.first.now.words.items c.args.second.now.words.items c.loop-place.place c.difference.result i
    (numbers_of c.args.self.now i) (numbers_of c.loop-place.self i) (numbers_of c.add_word.new.self i)
    (minus_at c.args.first.now.words.items c.args.second.now.words.items c.loop-place.place c.word.result
    c.word-in-loop-place.result c.difference.result c.word.ensures c.word-in-loop-place.ensures c.difference.ensures)
    (c.loop-place.invariant i) (c.in_ok-add_word.ensures i)

pub returns : goal.returns
unfolding numbers_of
returns c i =
    difference_whole c.args.first.now.words.items c.args.second.now.words.items c.loop-place.place i
    (numbers_of c.args.self.now i) (numbers_of c.loop-place.self i) (omega (arith, c.loop-place-test.false))
    (c.loop-place.invariant i)
