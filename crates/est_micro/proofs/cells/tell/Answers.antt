use Rattle.std.proofs.Common.{◌≡◌, ◌∙◌, ◌+◌, ℕ, refl, arith, rules, subst}
use Rattle.est_kernel.specs.CodeViews.{codes_of}
use Rattle.est_net.specs.Cells.{cell_at}
use Rattle.est_micro.proofs.FreshCells.{fresh_part, fresh_told, open_of_fresh}
use Rattle.est_micro.proofs.Telling.{ToldAndRead, fresh_further, one_read, read_possible_done, read_sure_done}
use Rattle.est_micro.proofs.Telling.{rest_false, told_done, two_read}
use Rattle.est_micro.proofs.cells.tell.Goals as goal

pub tell_code-first-requires-clause-fresh : goal.tell_code-first-requires-clause-fresh
tell_code-first-requires-clause-fresh g c = fresh_part _ _ _ _ _ _ (omega arith) (omega arith) c.requires.fresh

pub tell_code-read-requires-clause-fresh : goal.tell_code-read-requires-clause-fresh
tell_code-read-requires-clause-fresh g c =
    fresh_told _ (c.args.cell + 0) _ _ _ _ _ _ _ c.tell_code-first.ensures.learns (omega arith) (omega arith)
    (omega arith) c.requires.fresh

pub returns-then-count-eq2 : goal.returns-then-count-eq2
returns-then-count-eq2 g c =
    let a = c.tell_code-first.ensures in
    let b = c.tell_code-read.ensures in
    let e : 2 ≡ c.args.count = search rules in
    let h = subst (λ (z : ℕ). ToldAndRead c.args.cell z c.args.judged.now c.args.net.now.cells.items
    c.tell_code-read.new.net.cells.items (codes_of c.tell_code-read.result.sure)
    (codes_of c.tell_code-read.result.possible)) e
    (two_read c.args.cell c.args.judged.now c.args.net.now.cells.items _ _ _ _ _ _ _ _ c.empty.ensures
    c.empty-2.ensures a.learns a.sure a.other_sure a.possible a.other_possible b.learns b.sure b.other_sure b.possible
    b.other_possible) in
    record {
      told = told_done c.args.cell c.args.count c.args.judged.now c.args.net.now.cells.items _ h.told;
      sure = read_sure_done _ (cell_at c.tell_code-read.new.net.cells.items) c.args.cell c.args.count h.sure_read;
      possible = read_possible_done _ (cell_at c.tell_code-read.new.net.cells.items) c.args.cell c.args.count
          h.possible_read;
      kept = b.kept ∙ a.kept;
    }

pub tell_code-requires-clause-fresh : goal.tell_code-requires-clause-fresh
tell_code-requires-clause-fresh g c =
    let a = c.tell_code-first.ensures in
    let b = c.tell_code-read.ensures in
    let e : c.args.count ≡ 3 = search rules in
    let h = two_read c.args.cell c.args.judged.now c.args.net.now.cells.items _ _ _ _ _ _ _ _ c.empty.ensures
    c.empty-2.ensures a.learns a.sure a.other_sure a.possible a.other_possible b.learns b.sure b.other_sure b.possible
    b.other_possible in
    fresh_part _ _ (c.args.cell + c.args.count) _ _ _ (omega arith) (omega (arith, e))
    (fresh_further _ c.args.cell 2 c.args.count 2 c.args.judged.now _ _ h.told (omega arith) c.requires.some
    c.requires.fresh)

pub returns-then-count-eq3 : goal.returns-then-count-eq3
returns-then-count-eq3 g c =
    let a = c.tell_code-first.ensures in
    let b = c.tell_code-read.ensures in
    let d = c.tell_code.ensures in
    let e : 3 ≡ c.args.count = search rules in
    let h = subst (λ (z : ℕ). ToldAndRead c.args.cell z c.args.judged.now c.args.net.now.cells.items
    c.tell_code.new.net.cells.items (codes_of c.tell_code.result.sure) (codes_of c.tell_code.result.possible)) e
    (one_read c.args.cell 2 c.args.judged.now c.args.net.now.cells.items _ _ _ _ _ _ _ _
    (two_read c.args.cell c.args.judged.now c.args.net.now.cells.items _ _ _ _ _ _ _ _ c.empty.ensures
    c.empty-2.ensures a.learns a.sure a.other_sure a.possible a.other_possible b.learns b.sure b.other_sure b.possible
    b.other_possible) d.learns refl refl d.sure d.other_sure d.possible d.other_possible) in
    record {
      told = told_done c.args.cell c.args.count c.args.judged.now c.args.net.now.cells.items _ h.told;
      sure = read_sure_done _ (cell_at c.tell_code.new.net.cells.items) c.args.cell c.args.count h.sure_read;
      possible = read_possible_done _ (cell_at c.tell_code.new.net.cells.items) c.args.cell c.args.count
          h.possible_read;
      kept = d.kept ∙ (b.kept ∙ a.kept);
    }

pub fill-requires-clause-open : goal.fill-requires-clause-open
fill-requires-clause-open g c =
    let a = c.tell_code-first.ensures in
    let b = c.tell_code-read.ensures in
    let h = two_read c.args.cell c.args.judged.now c.args.net.now.cells.items _ _ _ _ _ _ _ _ c.empty.ensures
    c.empty-2.ensures a.learns a.sure a.other_sure a.possible a.other_possible b.learns b.sure b.other_sure b.possible
    b.other_possible in
    open_of_fresh _ _ _ _ (search rules) (fresh_further _ c.args.cell 2 c.args.count 2 c.args.judged.now _ _ h.told
    (omega arith) c.requires.some c.requires.fresh)

pub returns-then-not-has_exit-2 : goal.returns-then-not-has_exit-2
returns-then-not-has_exit-2 g c =
    let a = c.tell_code-first.ensures in
    let b = c.tell_code-read.ensures in
    let h = rest_false c.args.cell c.args.count c.args.judged.now c.args.net.now.cells.items _ _ _ _ c.requires.some
    (c.has_exit.ensures (search rules)) (c.has_exit-then-not-has_exit.ensures (search rules))
    (open_of_fresh _ _ _ _ (search rules) c.requires.fresh)
    (two_read c.args.cell c.args.judged.now c.args.net.now.cells.items _ _ _ _ _ _ _ _ c.empty.ensures
    c.empty-2.ensures a.learns a.sure a.other_sure a.possible a.other_possible b.learns b.sure b.other_sure b.possible
    b.other_possible) c.fill.ensures.cells in
    record {
      told = told_done c.args.cell c.args.count c.args.judged.now c.args.net.now.cells.items _ h.told;
      sure = read_sure_done _ (cell_at c.fill.new.self.cells.items) c.args.cell c.args.count h.sure_read;
      possible = read_possible_done _ (cell_at c.fill.new.self.cells.items) c.args.cell c.args.count h.possible_read;
      kept = c.fill.ensures.kept ∙ (b.kept ∙ a.kept);
    }

pub loop-code-init : goal.loop-code-init
loop-code-init g c =
    let a = c.tell_code-first.ensures in
    let b = c.tell_code-read.ensures in
    record {
      told = two_read c.args.cell c.args.judged.now c.args.net.now.cells.items _ _ _ _ _ _ _ _ c.empty.ensures
          c.empty-2.ensures a.learns a.sure a.other_sure a.possible a.other_possible b.learns b.sure b.other_sure
          b.possible b.other_possible;
      kept = b.kept ∙ a.kept;
    }

pub tell_code-read-requires-in-loop-code-clause-fresh : goal.tell_code-read-requires-in-loop-code-clause-fresh
tell_code-read-requires-in-loop-code-clause-fresh g c =
    let high = c.loop-code-test.true in
    fresh_part _ _ (c.args.cell + c.args.count) _ _ _ (omega arith) (omega (arith, high))
    (fresh_further _ c.args.cell c.loop-code.code c.args.count c.loop-code.code c.args.judged.now _ _
    c.loop-code.invariant.told.told (omega arith) (omega (arith, high)) c.requires.fresh)

pub loop-code-preserved : goal.loop-code-preserved
loop-code-preserved g c =
    let a = c.tell_code-read-in-loop-code.ensures in
    record {
      told = one_read c.args.cell _ c.args.judged.now c.args.net.now.cells.items _ _ _ _ _ _ _ _
          c.loop-code.invariant.told a.learns refl refl a.sure a.other_sure a.possible a.other_possible;
      kept = a.kept ∙ c.loop-code.invariant.kept;
    }

pub returns-clause-told : goal.returns-clause-told
returns-clause-told g c =
    let e : c.loop-code.code ≡ c.args.count = omega arith in
    let h = subst (λ (z : ℕ). ToldAndRead c.args.cell z c.args.judged.now c.args.net.now.cells.items
    c.loop-code.net.cells.items (codes_of c.loop-code.read.sure) (codes_of c.loop-code.read.possible)) e
    c.loop-code.invariant.told in
    told_done c.args.cell c.args.count c.args.judged.now c.args.net.now.cells.items _ h.told

pub returns-clause-sure : goal.returns-clause-sure
returns-clause-sure g c =
    let e : c.loop-code.code ≡ c.args.count = omega arith in
    let h = subst (λ (z : ℕ). ToldAndRead c.args.cell z c.args.judged.now c.args.net.now.cells.items
    c.loop-code.net.cells.items (codes_of c.loop-code.read.sure) (codes_of c.loop-code.read.possible)) e
    c.loop-code.invariant.told in
    read_sure_done _ (cell_at c.loop-code.net.cells.items) c.args.cell c.args.count h.sure_read

pub returns-clause-possible : goal.returns-clause-possible
returns-clause-possible g c =
    let e : c.loop-code.code ≡ c.args.count = omega arith in
    let h = subst (λ (z : ℕ). ToldAndRead c.args.cell z c.args.judged.now c.args.net.now.cells.items
    c.loop-code.net.cells.items (codes_of c.loop-code.read.sure) (codes_of c.loop-code.read.possible)) e
    c.loop-code.invariant.told in
    read_possible_done _ (cell_at c.loop-code.net.cells.items) c.args.cell c.args.count h.possible_read
