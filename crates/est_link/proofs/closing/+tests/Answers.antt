use Rattle.std.proofs.Common.{◌≡◌, ◌∙◌, List, IfOk, map, ap, sym, subst}
use Rattle.std.proofs.lemmas.List.{take_all}
use Rattle.est_kernel.specs.Term.{Query, Joint, joined}
use Rattle.est_kernel.specs.View.{queries_of}
use Rattle.est_reduce.specs.Views.{bound_query as query_view}
use Rattle.est_reduce.proofs.Tests.{operands_seen}
use Rattle.est_link.specs.Linking.{query_meant, queries_meant}
use Rattle.est_link.specs.Inner.OpenBodies.{meant_by}
use Rattle.est_link.proofs.Meanings.{test_meant, listed_meant}
use Rattle.est_link.proofs.closing.+tests.Goals as goal

pub close_joined-returns : goal.close_joined-returns
close_joined-returns t c =
    let o = c.args.operands.now in
    let k = c.args.connective in
    let g = meant_by c.args.at.now.meanings.now in
    let first : query_view c.in_ok-first.first ≡ test_meant g o.first.value =
    c.in_ok-first.ensures ∙ ap (test_meant g) c.deref.ensures in
    let second : query_view c.in_ok-second.second ≡ test_meant g o.second.value =
    c.in_ok-second.ensures ∙ ap (test_meant g) c.deref-2.ensures in
    let later : map query_view c.loop-test.later.items ≡ map (test_meant g) o.later.items =
    c.loop-test.invariant
    ∙ ap (map (test_meant g)) (take_all c.loop-test.test-index c.deref-test-items.result.now c.loop-test-test.false
    ∙ c.deref-test-items.ensures.value) in
    let P : Query → Type 0 = λ x. IfOk c.joined.result (λ j. query_view j ≡ x) in
    subst P
    (ap (λ (q : Query). joined k q
    (queries_of (query_view c.in_ok-second.second) (map query_view c.loop-test.later.items))) first
    ∙ ap (λ (q : Query). joined k (test_meant g o.first.value)
    (queries_of q (map query_view c.loop-test.later.items))) second
    ∙ ap (λ (rs : List Query). joined k (test_meant g o.first.value)
    (queries_of (test_meant g o.second.value) rs)) later
    ∙ ap (joined k (test_meant g o.first.value)) (sym (listed_meant g (query_view o.second.value) o.later.items))
    ∙ sym (ap (λ (j : Joint). joined k (query_meant g j.first) (queries_meant g j.later)) (operands_seen o)))
    c.joined.ensures
