use Rattle.std.proofs.Common.{◌≡◌, ℕ, Bool, false, List, [], ◌∷◌, Vec, Global, length, replicate, ap₂, subst, sym}
use Rattle.std.proofs.Common.{arith, rules}
use Rattle.std.proofs.lemmas.List.{length-map}
use Rattle.est_order.specs.RunRows.{rows_of}
use Rattle.est_order.specs.Inner.Reached.{Search, IsSearching}
use Rattle.est_order.proofs.SearchLemmas.{search_begins, search_step, search_ends, step_is_less, next_is_there}
use Rattle.est_order.proofs.SearchLemmas.{no_items}
use Rattle.est_order.proofs.reach.reach.Goals as goal

pub row_of-requires : goal.row_of-requires
row_of-requires c =
    let there = next_is_there (rows_of c.args.runs.now) c.args.place c.loop-next.seen.items c.loop-next.waiting.items
    c.pop.new.self.items c.in-Some.next c.in-Some.ensures.items c.loop-next.invariant in
    omega (arith, there, length-map c.args.runs.now (λ (row : Vec ℕ Global). row.items))

pub loop-next-init : goal.loop-next-init
loop-next-init c =
    let rows = rows_of c.args.runs.now in
    let seen : c.in_ok-seen.seen.items ≡ replicate (length c.args.runs.now) false =
    c.in_ok-seen.ensures.items_if_clones_equal (λ y same. same) in
    let waiting : c.in_ok-waiting.waiting.items ≡ c.args.place ∷ [] =
    c.in_ok-waiting.ensures.items_if_clones_equal (λ y same. same) in
    subst (λ (s : Search). IsSearching rows c.args.place s)
    (ap₂ (λ (a : List Bool) (b : List ℕ). record { seen = a; waiting = b }) (sym seen) (sym waiting))
    (search_begins rows c.args.place (length c.args.runs.now)
    (sym (length-map c.args.runs.now (λ (row : Vec ℕ Global). row.items))) c.requires)

pub loop-next-smaller : goal.loop-next-smaller
loop-next-smaller c =
    step_is_less c.loop-next.seen.items c.loop-next.waiting.items c.pop.new.self.items c.row_of.result.now
    c.in-Some.next _ c.in-Some.ensures.items c.in_ok-follow.ensures

pub loop-next-preserved : goal.loop-next-preserved
loop-next-preserved c =
    search_step (rows_of c.args.runs.now) c.args.place c.loop-next.seen.items c.loop-next.waiting.items
    c.pop.new.self.items c.row_of.result.now c.in-Some.next _ c.in-Some.ensures.items c.row_of.ensures
    c.in_ok-follow.ensures c.loop-next.invariant

pub returns : goal.returns
returns c =
    let none : length c.loop-next.waiting.items ≡ 0 = search (rules, c.in_default.ensures.cases) in
    search_ends (rows_of c.args.runs.now) c.args.place
    (record { seen = c.loop-next.seen.items; waiting = c.loop-next.waiting.items })
    (no_items _ none) c.loop-next.invariant
