use Rattle.std.proofs.Common.{◌∙◌, ◌||◌, ap}
use Rattle.est_kernel.specs.Bits.{bits}
use Rattle.est_modules.specs.NumberSets.{numbers_of}
use Rattle.est_modules.proofs.SetWords.{word_added}
use Rattle.est_modules.proofs.names.set.NumberSet.add_word.Goals as goal

pub returns : goal.returns
unfolding numbers_of
returns c =
    word_added c.args.self.now.words.items c.make_room.new.self.words.items c.args.place c.union.result c.args.word
    c.in_ok-make_room.ensures.room c.in_ok-make_room.ensures.words
    (λ k. c.union.ensures k ∙ ap (λ w. bits w k || bits c.args.word k) c.word.ensures)
