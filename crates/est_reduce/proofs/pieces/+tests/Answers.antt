use Rattle.std.proofs.Common.{◌≡◌, ◌∙◌, List, IfOk, map, ap, sym, subst, rules}
use Rattle.std.proofs.lemmas.List.{take_all}
use Rattle.std.specs.List.{AllByRecursion}
use Rattle.est_kernel.specs.Scope.{EachSignal}
use Rattle.est_kernel.specs.Term.{Query, Joint, joined}
use Rattle.est_kernel.specs.View.{query_of, queries_of}
use Rattle.est_reduce.specs.Inner.Sizes.{IsSmallName, IsSmallQuery}
use Rattle.est_reduce.specs.Views.{bound_query}
use Rattle.est_reduce.specs.declared.body.BoundTest.{BoundTest}
use Rattle.est_reduce.specs.declared.body.BoundTest.TheFolds.{the_lemmas}
use Rattle.est_reduce.proofs.Tests.{operands_seen, small_parts, each_at}
use Rattle.est_reduce.proofs.pieces.+tests.Goals as goal

pub joined-test-requires-2 : goal.joined-test-requires-2
joined-test-requires-2 t c = (
  search (rules, the_lemmas, c.deref.ensures),
  rw c.deref.ensures (small_parts c.args.operands.now c.requires.small).0,
)

pub joined-test-requires-3 : goal.joined-test-requires-3
joined-test-requires-3 t c = (
  search (rules, the_lemmas, c.deref-2.ensures),
  rw c.deref-2.ensures (small_parts c.args.operands.now c.requires.small).1,
)

pub joined-test-requires : goal.joined-test-requires
joined-test-requires t c =
    let small = (small_parts c.args.operands.now c.requires.small).2 in
    let items = c.deref-bound-items.result.now in
    let all : AllByRecursion (λ (u : BoundTest). EachSignal IsSmallName (bound_query u)) items =
    subst (AllByRecursion (λ (u : BoundTest). EachSignal IsSmallName (bound_query u)))
    (sym c.deref-bound-items.ensures.value)
    small in (
      search (rules, the_lemmas, c.bound-item.is, c.loop-bound-test.true, c.deref-bound-items.ensures.value),
      subst (λ (u : BoundTest). IsSmallQuery (bound_query u)) (sym c.bound-item.is)
          (each_at IsSmallName items c.loop-bound.bound-index c.bound-item.result all c.loop-bound-test.true),
    )

pub joined-returns : goal.joined-returns
joined-returns t c =
    let o = c.args.operands.now in
    let k = c.args.connective in
    let first : query_of c.in_ok-first.first ≡ bound_query o.first.value =
    c.in_ok-first.ensures ∙ ap bound_query c.deref.ensures in
    let second : query_of c.in_ok-second.second ≡ bound_query o.second.value =
    c.in_ok-second.ensures ∙ ap bound_query c.deref-2.ensures in
    let later : map query_of c.loop-bound.later.items ≡ map bound_query o.later.items =
    c.loop-bound.invariant
    ∙ ap (map bound_query) (take_all c.loop-bound.bound-index c.deref-bound-items.result.now c.loop-bound-test.false
    ∙ c.deref-bound-items.ensures.value) in
    let P : Query → Type 0 = λ x. IfOk c.joined.result (λ j. query_of j ≡ x) in
    subst P
    (ap (λ (q : Query). joined k q
    (queries_of (query_of c.in_ok-second.second) (map query_of c.loop-bound.later.items))) first
    ∙ ap (λ (q : Query). joined k (bound_query o.first.value) (queries_of q (map query_of c.loop-bound.later.items)))
    second
    ∙ ap (λ (qs : List Query). joined k (bound_query o.first.value) (queries_of (bound_query o.second.value) qs)) later
    ∙ sym (ap (λ (j : Joint). joined k j.first j.later) (operands_seen o))) c.joined.ensures
