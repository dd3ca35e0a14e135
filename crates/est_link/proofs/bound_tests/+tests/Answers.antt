use Rattle.std.proofs.Common.{◌≡◌, ◌∙◌, List, ◌∷◌, IfOk, map, ap, sym, subst}
use Rattle.std.proofs.lemmas.List.{take_all}
use Rattle.est_kernel.specs.Term.{Query, joined}
use Rattle.est_kernel.specs.View.{queries_of}
use Rattle.est_kernel.specs.declared.statement.Connective.TheVariants.{And, Or}
use Rattle.est_syntax.specs.declared.tree.Literal.TheViews.{out-Conjunction, out-Expression}
use Rattle.est_modules.specs.Modules.{program_of}
use Rattle.est_link.specs.Inner.Scopes.{binders_of}
use Rattle.est_reduce.specs.Views.{bound_query as query_view}
use Rattle.est_link.specs.Linking.{signal_at}
use Rattle.est_link.proofs.Asked.{literal_seen, conjunction_seen, more_seen, more_literals, more_conjunctions}
use Rattle.est_link.proofs.bound_tests.+tests.Goals as goal

-- src/bound_tests.rt:46:5
pub find_conjunction-loop-literal-preserved : goal.find_conjunction-loop-literal-preserved
find_conjunction-loop-literal-preserved t c =
    let f = signal_at (program_of c.args.place.now.linker.now.home.now) (binders_of c.args.place.now.scope.now) in
    ap (map query_view) c.in_ok-push.ensures.items
    ∙ more_seen query_view (literal_seen f) c.loop-literal.later.items c.in_ok-find_literal.field-0 c.in-Some.others.now
    c.loop-literal.literal-index c.literal-item.result c.loop-literal-test.true c.loop-literal.invariant
    (c.in_ok-find_literal.ensures ∙ ap (literal_seen f) c.literal-item.is)

-- src/bound_tests.rt:36:1
pub find_conjunction-returns : goal.find_conjunction-returns
find_conjunction-returns t c =
    let f = signal_at (program_of c.args.place.now.linker.now.home.now) (binders_of c.args.place.now.scope.now) in
    let seen = literal_seen f in
    let first : query_view c.in_ok-first.first ≡ seen (out-Conjunction c.args.conjunction.now).first.value =
    c.in_ok-first.ensures ∙ ap seen c.deref-2.ensures in
    let second : query_view c.in_ok-second.second ≡ seen c.in-Some.second.now = c.in_ok-second.ensures in
    let later : map query_view c.loop-literal.later.items ≡ map seen c.in-Some.others.now =
    c.loop-literal.invariant
    ∙ ap (map seen) (take_all c.loop-literal.literal-index c.in-Some.others.now c.loop-literal-test.false) in
    let parts : (out-Conjunction c.args.conjunction.now).later.items ≡ c.in-Some.second.now ∷ c.in-Some.others.now =
    sym c.deref.ensures.value ∙ c.in-Some.ensures.cases.0 in
    let P : Query → Type 0 = λ x. IfOk c.joined.result (λ j. query_view j ≡ x) in
    subst P
    (ap (λ (q : Query). joined And q
    (queries_of (query_view c.in_ok-second.second) (map query_view c.loop-literal.later.items))) first
    ∙ ap (λ (q : Query). joined And (seen (out-Conjunction c.args.conjunction.now).first.value)
    (queries_of q (map query_view c.loop-literal.later.items))) second
    ∙ ap (λ (qs : List Query). joined And (seen (out-Conjunction c.args.conjunction.now).first.value)
    (queries_of (seen c.in-Some.second.now) qs)) later
    ∙ sym (more_literals f c.args.conjunction.now c.in-Some.second.now c.in-Some.others.now parts)) c.joined.ensures

-- src/bound_tests.rt:65:5
pub find_expression-loop-conjunction-preserved : goal.find_expression-loop-conjunction-preserved
find_expression-loop-conjunction-preserved t c =
    let f = signal_at (program_of c.args.place.now.linker.now.home.now) (binders_of c.args.place.now.scope.now) in
    ap (map query_view) c.in_ok-push.ensures.items
    ∙ more_seen query_view (conjunction_seen f) c.loop-conjunction.later.items c.in_ok-find_conjunction.field-0
    c.in-Some.others.now c.loop-conjunction.conjunction-index c.conjunction-item.result c.loop-conjunction-test.true
    c.loop-conjunction.invariant (c.in_ok-find_conjunction.ensures ∙ ap (conjunction_seen f) c.conjunction-item.is)

-- src/bound_tests.rt:55:1
pub find_expression-returns : goal.find_expression-returns
find_expression-returns t c =
    let f = signal_at (program_of c.args.place.now.linker.now.home.now) (binders_of c.args.place.now.scope.now) in
    let seen = conjunction_seen f in
    let first : query_view c.in_ok-first.first ≡ seen (out-Expression c.args.expression.now).first.value =
    c.in_ok-first.ensures ∙ ap seen c.deref-2.ensures in
    let second : query_view c.in_ok-second.second ≡ seen c.in-Some.second.now = c.in_ok-second.ensures in
    let later : map query_view c.loop-conjunction.later.items ≡ map seen c.in-Some.others.now =
    c.loop-conjunction.invariant
    ∙ ap (map seen)
    (take_all c.loop-conjunction.conjunction-index c.in-Some.others.now c.loop-conjunction-test.false) in
    let parts : (out-Expression c.args.expression.now).later.items ≡ c.in-Some.second.now ∷ c.in-Some.others.now =
    sym c.deref.ensures.value ∙ c.in-Some.ensures.cases.0 in
    let P : Query → Type 0 = λ x. IfOk c.joined.result (λ j. query_view j ≡ x) in
    subst P
    (ap (λ (q : Query). joined Or q
    (queries_of (query_view c.in_ok-second.second) (map query_view c.loop-conjunction.later.items))) first
    ∙ ap (λ (q : Query). joined Or (seen (out-Expression c.args.expression.now).first.value)
    (queries_of q (map query_view c.loop-conjunction.later.items))) second
    ∙ ap (λ (qs : List Query). joined Or (seen (out-Expression c.args.expression.now).first.value)
    (queries_of (seen c.in-Some.second.now) qs)) later
    ∙ sym (more_conjunctions f c.args.expression.now c.in-Some.second.now c.in-Some.others.now parts)) c.joined.ensures
