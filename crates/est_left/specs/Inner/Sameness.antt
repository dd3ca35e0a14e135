-- Whether two terms are one, as a test: private to this crate. The laws of proofs/Sameness tie it to equality.
use Rattle.std.specs.Prelude.{Bool, true, false, ◌&&◌, nat_eq}
use Rattle.est_kernel.specs.Term.{Name, outer, inner, Query, tick, of, negated, joined, Queries, last, more, Joint}
use Rattle.est_kernel.specs.Term.{Term, nothing, pause, emit, present, suspend, held, seq, loop, par, trap, exit}
use Rattle.est_kernel.specs.Term.{signal}
use Rattle.est_kernel.specs.declared.statement.Connective.{Connective}
use Rattle.est_kernel.specs.declared.statement.Connective.TheVariants.{And, Or}

-- the two name one signal
abbrev pub same_name : Name → Name → Bool
same_name (outer m) (outer n) = nat_eq m n
same_name (inner m) (inner n) = nat_eq m n
same_name _ _ = false

-- the two connectives are one
abbrev pub same_connective : Connective → Connective → Bool
same_connective And And = true
same_connective Or Or = true
same_connective _ _ = false

abbrev mutual
  -- the two ask the same
  pub same_query : Query → Query → Bool
  same_query tick tick = true
  same_query (of s) (of u) = same_name s u
  same_query (negated t) (negated u) = same_query t u
  same_query (joined c t ts) (joined d u us) = same_connective c d && (same_query t u && same_queries ts us)
  same_query _ _ = false

  -- as many tests, which ask the same in their order
  pub same_queries : Queries → Queries → Bool
  same_queries (last t) (last u) = same_query t u
  same_queries (more t ts) (more u us) = same_query t u && same_queries ts us
  same_queries _ _ = false

-- the operands ask the same
abbrev pub same_joint : Joint → Joint → Bool
same_joint one other = same_query one.first other.first && same_queries one.later other.later

-- the two terms are one
abbrev pub same_term : Term → Term → Bool
same_term nothing nothing = true
same_term pause pause = true
same_term (emit s) (emit u) = same_name s u
same_term (present t p q) (present u r s) = same_query t u && (same_term p r && same_term q s)
same_term (suspend t p) (suspend u q) = same_query t u && same_term p q
same_term (held t p) (held u q) = same_query t u && same_term p q
same_term (seq p q) (seq r s) = same_term p r && same_term q s
same_term (loop p) (loop q) = same_term p q
same_term (par p q) (par r s) = same_term p r && same_term q s
same_term (trap p) (trap q) = same_term p q
same_term (exit k) (exit n) = nat_eq k n
same_term (signal s p) (signal u q) = nat_eq s u && same_term p q
same_term _ _ = false
