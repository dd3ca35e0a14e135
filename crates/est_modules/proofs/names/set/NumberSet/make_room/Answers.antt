use Rattle.std.proofs.Common.{◌∙◌, List, ℕ, ◌-◌, ◌+◌, ◌++◌, replicate, vec_len, ap, arith}
use Rattle.std.proofs.lemmas.List.{take_all}
use Rattle.std.specs.Prelude.{slice_index}
use Rattle.est_modules.proofs.SetWords.{padded}
use Rattle.est_modules.proofs.names.set.NumberSet.make_room.Goals as goal

pub returns-in_ok-resize-clause-words : goal.returns-in_ok-resize-clause-words
returns-in_ok-resize-clause-words c k =
    let old = c.args.self.now.words.items in
    let place = c.args.place in
    let more = place + 1 - vec_len c.args.self.now.words in
    ap (λ (ws : List ℕ). slice_index ws k)
    (c.in_ok-resize.ensures.items
    ∙ ap (λ (ws : List ℕ). ws ++ replicate more 0) (take_all (place + 1) old (omega arith)))
    ∙ padded old more k
