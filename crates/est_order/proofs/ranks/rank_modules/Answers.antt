use Rattle.std.proofs.Common.{◌≡◌, ◌<◌, length, slice_index_or, ap, subst, sym, ◌∙◌, arith}
use Rattle.est_order.specs.RunRows.{rows_of}
use Rattle.est_order.specs.Inner.Reached.{AreRanks, size}
use Rattle.est_order.proofs.LevelLemmas.{rows_count}
use Rattle.est_order.proofs.OrderLemmas.{ranks_more, ranks_fall, none_more, leads_there}
use Rattle.est_order.proofs.ranks.rank_modules.Goals as goal

pub loop-place-preserved : goal.loop-place-preserved
loop-place-preserved c =
    let rows = rows_of c.args.runs.now in
    let set = c.in_ok-reached.reached.items in
    record {
      ranks = ranks_more rows c.loop-place.place c.count.result c.loop-place.ranks.items c.push.new.self.items set
          c.in_ok-push.ensures.items c.loop-place.invariant.ranks c.in_ok-reached.ensures
          (c.count.ensures ∙ ap size c.deref.ensures.value);
      none = none_more rows c.loop-place.place set c.loop-place.invariant.none c.in_ok-reached.ensures
          (subst (λ b. slice_index_or set c.loop-place.place b ≡ b) c.if-index.false (sym c.index.ensures));
    }

pub returns-clause-falling : goal.returns-clause-falling
returns-clause-falling c =
    let rows = rows_of c.args.runs.now in
    let all : length rows ≡ c.loop-place.place = omega (arith, c.loop-place-test.false, rows_count c.args.runs.now) in
    ranks_fall rows c.loop-place.ranks.items
    (subst (λ n. AreRanks rows n c.loop-place.ranks.items) (sym all) c.loop-place.invariant.ranks)
    (λ place h. c.loop-place.invariant.none place (subst (λ n. place < n) all (leads_there rows h)) h)
