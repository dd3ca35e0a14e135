use Rattle.std.proofs.Common.{◌∙◌, ◌++◌, [], ◌∷◌, length, Some, refl, ap, arith}
use Rattle.std.specs.Vec.{with_item}
use Rattle.est_link.proofs.UsedSignals.{used_more, number_kept}
use Rattle.est_link.proofs.used_signals.UsedSignals.add_number.Goals as goal

pub returns-clause-grown : goal.returns-clause-grown
returns-clause-grown c =
    let old = c.args.self.now in
    let rooms = c.make_room.new.self.numbers.items in
    let place = c.args.place in
    let n = c.in_ok-number.number in
    let room = c.in_ok-make_room.ensures.room in
    let same = c.in_ok-make_room.ensures.numbers in (
      used_more old rooms place n c.of.result (record {
        numbers = with_item c.make_room.new.self.numbers place (Some n);
        meanings = c.push.new.self;
      }) (omega (
        arith,
        c.in_ok-number.ensures,
        c.len.ensures,
        ap (λ v. length v.items) c.in_ok-make_room.ensures.meanings,
      )) room same refl
          (c.in_ok-push.ensures.items ∙ ap (λ v. v.items ++ c.of.result ∷ []) c.in_ok-make_room.ensures.meanings)
          c.of.ensures,
      λ g means. record {
        outers = λ i has. means.outers i (number_kept old rooms place n room same i has);
        inners = means.inners;
      },
    )
