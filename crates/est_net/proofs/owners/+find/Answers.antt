use Rattle.std.proofs.Common.{◌+◌, false, refl, sym, inl, inr, subst, arith}
use Rattle.est_net.specs.Inner.Finding.{IsAfter, IsAmong, Finds}
use Rattle.est_net.specs.Owners.{cell_of, owners_in}
use Rattle.est_net.proofs.Finding.{HasBody, HasPart, HasTwoParts, own_found, part_finds, first_found, second_finds}
use Rattle.est_net.proofs.Finding.{body_found, again_finds, inside}
use Rattle.est_net.proofs.owners.+find.Goals as goal

pub returns-then-offset-own : goal.returns-then-offset-own
returns-then-offset-own t c =
    let a = c.args in
    subst (λ z. IsAmong a.at.cell (owners_in a.main a.s.now a.incarnation a.at.statement a.traps) a.cell
    (cell_of a.incarnation a.at.statement z)) (sym c.kind_at.ensures)
    (own_found a.main a.s.now a.incarnation a.at.statement a.traps a.at.cell a.cell c.requires.from
    (let e = c.own_cells-own.ensures.same in omega arith))

pub returns-in-Trap : goal.returns-in-Trap
returns-in-Trap t c =
    let a = c.args in
    let has = subst (λ z. HasPart z c.in-Trap.p.value (λ n. n + 1)) (sym c.in-Trap.is)
    (record { owners = λ main i n k. refl; statements = refl; size = λ main k. refl }) in
    part_finds a.main a.s.now c.deref-in-Trap.result.now a.incarnation a.at a.traps c.own_cells-own.result (λ n. n + 1)
    a.cell c.find-in-Trap.result (subst (λ z. HasPart a.s.now z (λ n. n + 1)) (sym c.deref-in-Trap.ensures) has)
    c.own_cells-own.ensures.same c.requires.numbers c.own_cells-own.ensures.some c.find-in-Trap.ensures

pub returns-in-Suspend : goal.returns-in-Suspend
returns-in-Suspend t c =
    let a = c.args in
    let has : HasPart a.s.now c.in-Suspend.p.value (λ n. n) = elim c.in-Suspend.is [
      | inl w ↦ subst (λ z. HasPart z c.in-Suspend.p.value (λ n. n)) (sym w.1)
          (record { owners = λ main i n k. refl; statements = refl; size = λ main k. refl })
      | inr w ↦ subst (λ z. HasPart z c.in-Suspend.p.value (λ n. n)) (sym w.1)
          (record { owners = λ main i n k. refl; statements = refl; size = λ main k. refl })
    ] in
    part_finds a.main a.s.now c.deref-in-Suspend.result.now a.incarnation a.at a.traps c.own_cells-own.result (λ n. n)
    a.cell c.find-in-Suspend.result (subst (λ z. HasPart a.s.now z (λ n. n)) (sym c.deref-in-Suspend.ensures) has)
    c.own_cells-own.ensures.same c.requires.numbers c.own_cells-own.ensures.some c.find-in-Suspend.ensures

pub returns-in-Found : goal.returns-in-Found
returns-in-Found t c =
    let a = c.args in
    let has = subst (λ z. HasBody z c.in-Loop.p.value) (sym c.in-Loop.is)
    (record { owners = λ main i n k. refl; statements = refl; size = λ main k. refl }) in
    body_found a.main a.s.now c.deref.result.now a.incarnation c.inside_loop-body.result a.at a.traps
    c.own_cells-own.result a.cell c.in-Found.owner (subst (λ z. HasBody a.s.now z) (sym c.deref.ensures) has)
    c.own_cells-own.ensures.same c.inside_loop-body.ensures c.in-Found.ensures

pub returns-in-After : goal.returns-in-After
returns-in-After t c =
    let a = c.args in
    let has = subst (λ z. HasBody z c.in-Loop.p.value) (sym c.in-Loop.is)
    (record { owners = λ main i n k. refl; statements = refl; size = λ main k. refl }) in
    again_finds a.main a.s.now c.in-Loop.p.value a.incarnation a.at c.in-After.next.statement c.in-After.next.cell
    a.traps c.own_cells-own.result a.cell c.find-in-After.result has c.own_cells-own.ensures.same c.if-main.true
    (subst (λ z. IsAfter a.main z (inside a.at c.own_cells-own.result) a.traps a.cell c.in-After.next) c.deref.ensures
    c.in-After.ensures)
    (subst (λ z. Finds false z 1 (record { statement = a.at.statement + 1; cell = c.in-After.next.cell }) a.traps a.cell
    c.find-in-After.result) c.deref-in-After.ensures c.find-in-After.ensures)

pub returns-in-Found-find : goal.returns-in-Found-find
returns-in-Found-find t c =
    let a = c.args in
    let p = c.in-Present.p.value in
    let q = c.in-Present.q.value in
    let has : HasTwoParts a.s.now c.in-Present.p.value c.in-Present.q.value = elim c.in-Present.is [
      | inl w ↦ subst (λ z. HasTwoParts z c.in-Present.p.value c.in-Present.q.value) (sym w.1)
          (record { owners = λ main i n k. refl; statements = refl; size = λ main k. refl })
      | inr r ↦ elim r [
        | inl e ↦ subst (λ z. HasTwoParts z c.in-Present.p.value c.in-Present.q.value) (sym e)
            (record { owners = λ main i n k. refl; statements = refl; size = λ main k. refl })
        | inr e ↦ subst (λ z. HasTwoParts z c.in-Present.p.value c.in-Present.q.value) (sym e)
            (record { owners = λ main i n k. refl; statements = refl; size = λ main k. refl })
      ]
    ] in
    first_found a.main a.s.now p q a.incarnation a.at a.traps c.own_cells-own.result a.cell c.in-Found-find.owner has
    c.own_cells-own.ensures.same
    (subst (λ z. IsAmong (a.at.cell + c.own_cells-own.result)
    (owners_in a.main z a.incarnation (a.at.statement + 1) a.traps) a.cell c.in-Found-find.owner)
    c.deref-in-Present.ensures c.in-Found-find.ensures)

pub returns-in-After-find : goal.returns-in-After-find
returns-in-After-find t c =
    let a = c.args in
    let p = c.in-Present.p.value in
    let q = c.in-Present.q.value in
    let has : HasTwoParts a.s.now c.in-Present.p.value c.in-Present.q.value = elim c.in-Present.is [
      | inl w ↦ subst (λ z. HasTwoParts z c.in-Present.p.value c.in-Present.q.value) (sym w.1)
          (record { owners = λ main i n k. refl; statements = refl; size = λ main k. refl })
      | inr r ↦ elim r [
        | inl e ↦ subst (λ z. HasTwoParts z c.in-Present.p.value c.in-Present.q.value) (sym e)
            (record { owners = λ main i n k. refl; statements = refl; size = λ main k. refl })
        | inr e ↦ subst (λ z. HasTwoParts z c.in-Present.p.value c.in-Present.q.value) (sym e)
            (record { owners = λ main i n k. refl; statements = refl; size = λ main k. refl })
      ]
    ] in
    second_finds a.main a.s.now p q a.incarnation a.at c.in-After-find.next a.traps c.own_cells-own.result a.cell
    c.find-in-After-find.result has c.own_cells-own.ensures.same
    (subst (λ z. IsAfter a.main z (inside a.at c.own_cells-own.result) a.traps a.cell c.in-After-find.next)
    c.deref-in-Present.ensures c.in-After-find.ensures)
    (subst (λ z. Finds a.main z a.incarnation c.in-After-find.next a.traps a.cell c.find-in-After-find.result)
    c.deref-in-After-find.ensures c.find-in-After-find.ensures)
