use Rattle.std.proofs.Common.{◌∙◌, ◌||◌, ◌&&◌, ◌/◌, ◌%◌, ap, nat_eq}
use Rattle.std.proofs.lemmas.Result.{on_ok_weaker}
use Rattle.est_modules.specs.NumberSets.{numbers_of}
use Rattle.est_modules.proofs.SetWords.{digits}
use Rattle.est_modules.proofs.names.set.NumberSet.insert.Goals as goal

pub returns : goal.returns
returns c =
    let n = c.args.number in
    on_ok_weaker c.add_word.result
    (λ added i. added i
    ∙ ap (λ b. numbers_of c.args.self.now i || b)
    (ap (λ b. nat_eq (i / 64) (n / 64) && b) (c.single.ensures (i % 64)) ∙ digits n i))
    c.add_word.ensures
