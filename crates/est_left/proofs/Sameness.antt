-- Two tests, or two terms, pass the test of sameness exactly if they are equal.
use Rattle.std.proofs.Common.{◌≡◌, refl, ap, subst}
use Rattle.std.specs.Prelude.{true, ◌&&◌, ◌↔◌, IsTrue, nat_eq}
use Rattle.std.proofs.lemmas.Bool.{and_parts, and_from, eqb-true, eq-eqb, false≢true}
use Rattle.est_kernel.specs.Term.{Name, outer, inner, Query, tick, of, negated, joined, Queries, last, more}
use Rattle.est_kernel.specs.Term.{Term, nothing, pause, emit, present, suspend, held, seq, loop, par, trap, exit}
use Rattle.est_kernel.specs.Term.{signal}
use Rattle.est_kernel.specs.declared.statement.Connective.{Connective}
use Rattle.est_kernel.specs.declared.statement.Connective.TheVariants.{And, Or}
use Rattle.est_left.specs.Inner.Sameness.{same_name, same_connective, same_query, same_queries, same_term}

one_name : (s u : Name) → same_name s u ≡ true → s ≡ u
one_name (outer m) (outer n) h = ap outer (eqb-true m n h)
one_name (inner m) (inner n) h = ap inner (eqb-true m n h)
one_name _ _ h = absurd (false≢true h)

name_itself : (s : Name) → same_name s s ≡ true
name_itself (outer n) = eq-eqb n n refl
name_itself (inner n) = eq-eqb n n refl

one_connective : (c d : Connective) → same_connective c d ≡ true → c ≡ d
one_connective And And h = refl
one_connective Or Or h = refl
one_connective _ _ h = absurd (false≢true h)

connective_itself : (c : Connective) → same_connective c c ≡ true
connective_itself And = refl
connective_itself Or = refl

mutual
  one_query : (t u : Query) → same_query t u ≡ true → t ≡ u
  one_query tick tick h = refl
  one_query (of s) (of u) h = ap of (one_name s u h)
  one_query (negated t) (negated u) h = ap negated (one_query t u h)
  one_query (joined c t ts) (joined d u us) h =
      let whole = and_parts (same_connective c d) (same_query t u && same_queries ts us) h in
      let parts = and_parts (same_query t u) (same_queries ts us) whole.1 in
      let a : c ≡ d = one_connective c d whole.0 in
      let b : t ≡ u = one_query t u parts.0 in
      let e : ts ≡ us = one_queries ts us parts.1 in
      cc
  one_query _ _ h = absurd (false≢true h)

  one_queries : (ts us : Queries) → same_queries ts us ≡ true → ts ≡ us
  one_queries (last t) (last u) h = ap last (one_query t u h)
  one_queries (more t ts) (more u us) h =
      let parts = and_parts (same_query t u) (same_queries ts us) h in
      let b : t ≡ u = one_query t u parts.0 in
      let e : ts ≡ us = one_queries ts us parts.1 in
      cc
  one_queries _ _ h = absurd (false≢true h)

mutual
  query_itself : (t : Query) → same_query t t ≡ true
  query_itself tick = refl
  query_itself (of s) = name_itself s
  query_itself (negated t) = query_itself t
  query_itself (joined c t ts) =
      and_from _ _ (connective_itself c) (and_from _ _ (query_itself t) (queries_itself ts))

  queries_itself : (ts : Queries) → same_queries ts ts ≡ true
  queries_itself (last t) = query_itself t
  queries_itself (more t ts) = and_from _ _ (query_itself t) (queries_itself ts)

one_term : (t u : Term) → same_term t u ≡ true → t ≡ u
one_term nothing nothing h = refl
one_term pause pause h = refl
one_term (emit s) (emit u) h = ap emit (one_name s u h)
one_term (present t p q) (present u r s) h =
    let whole = and_parts (same_query t u) (same_term p r && same_term q s) h in
    let parts = and_parts (same_term p r) (same_term q s) whole.1 in
    let a : t ≡ u = one_query t u whole.0 in
    let b : p ≡ r = one_term p r parts.0 in
    let e : q ≡ s = one_term q s parts.1 in
    cc
one_term (suspend t p) (suspend u q) h =
    let parts = and_parts (same_query t u) (same_term p q) h in
    let a : t ≡ u = one_query t u parts.0 in
    let b : p ≡ q = one_term p q parts.1 in
    cc
one_term (held t p) (held u q) h =
    let parts = and_parts (same_query t u) (same_term p q) h in
    let a : t ≡ u = one_query t u parts.0 in
    let b : p ≡ q = one_term p q parts.1 in
    cc
one_term (seq p q) (seq r s) h =
    let parts = and_parts (same_term p r) (same_term q s) h in
    let a : p ≡ r = one_term p r parts.0 in
    let b : q ≡ s = one_term q s parts.1 in
    cc
one_term (loop p) (loop q) h = ap loop (one_term p q h)
one_term (par p q) (par r s) h =
    let parts = and_parts (same_term p r) (same_term q s) h in
    let a : p ≡ r = one_term p r parts.0 in
    let b : q ≡ s = one_term q s parts.1 in
    cc
one_term (trap p) (trap q) h = ap trap (one_term p q h)
one_term (exit k) (exit n) h = ap exit (eqb-true k n h)
one_term (signal s p) (signal u q) h =
    let parts = and_parts (nat_eq s u) (same_term p q) h in
    let a : s ≡ u = eqb-true s u parts.0 in
    let b : p ≡ q = one_term p q parts.1 in
    cc
one_term _ _ h = absurd (false≢true h)

term_itself : (t : Term) → same_term t t ≡ true
term_itself nothing = refl
term_itself pause = refl
term_itself (emit s) = name_itself s
term_itself (present t p q) =
    and_from _ _ (query_itself t) (and_from _ _ (term_itself p) (term_itself q))
term_itself (suspend t p) = and_from _ _ (query_itself t) (term_itself p)
term_itself (held t p) = and_from _ _ (query_itself t) (term_itself p)
term_itself (seq p q) = and_from _ _ (term_itself p) (term_itself q)
term_itself (loop p) = term_itself p
term_itself (par p q) = and_from _ _ (term_itself p) (term_itself q)
term_itself (trap p) = term_itself p
term_itself (exit k) = eq-eqb k k refl
term_itself (signal s p) = and_from _ _ (eq-eqb s s refl) (term_itself p)

-- two terms are one exactly if they pass the test
pub is_same : (t u : Term) → IsTrue (same_term t u) ↔ (t ≡ u)
is_same t u = (one_term t u, λ e. subst (λ (v : Term). same_term t v ≡ true) e (term_itself t))
