-- Tests and their operands, as the code has them.
use Rattle.std.proofs.Common.{◌≡◌, ◌≤◌, ◌<◌, ℕ, zero, suc, ◌+◌, length, get_or, List, [], ◌∷◌, map, ap, subst, ◌∙◌}
use Rattle.std.proofs.Common.{arith, rules}
use Rattle.est_kernel.specs.Limits.{word_count, later_word_count, joint_word_count}
use Rattle.est_kernel.specs.Scope.{EachSignal, EachSignalOfAll}
use Rattle.est_kernel.specs.Term.{Name, Query, joined}
use Rattle.est_kernel.specs.declared.statement.Connective.{Connective}
use Rattle.est_kernel.specs.View.{queries_of}
use Rattle.est_reduce.specs.Inner.Sizes.{IsSmallName, IsSmallQuery, IsSmallJoint}
use Rattle.est_reduce.specs.Views.{bound_query, bound_joint}
use Rattle.est_reduce.specs.declared.body.BoundTest.{BoundTest}
use Rattle.est_reduce.specs.declared.body.BoundOperands.{BoundOperands}
use Rattle.est_reduce.specs.declared.body.BoundTest.TheViews.{Joined, out-BoundOperands, roll-BoundOperands}
use Rattle.est_reduce.specs.declared.body.BoundTest.TheOpen.{BoundOperands-F}
use Rattle.est_reduce.specs.declared.body.BoundTest.TheFolds.{the_lemmas}
use Rattle.std.specs.List.{AllByRecursion}

-- what operands are, as the code has them
pub operands_seen : (o : BoundOperands) → bound_joint o
    ≡ record {
      first = bound_query (out-BoundOperands o).first.value;
      later = queries_of (bound_query (out-BoundOperands o).second.value)
          (map bound_query (out-BoundOperands o).later.items);
    }
operands_seen o = search (rules, the_lemmas)

-- what a connective asks, as it is made
pub joined_seen : (c : Connective) (p : BoundOperands-F BoundTest BoundOperands)
    → bound_query (Joined c (roll-BoundOperands p)) ≡ joined c (bound_query p.first.value)
    (queries_of (bound_query p.second.value) (map bound_query p.later.items))
joined_seen c p = search (rules, the_lemmas)

-- how many words further operands have, with the one before each
abbrev pub words_of : List BoundTest → ℕ
words_of [] = 0
words_of (t ∷ ts) = word_count (bound_query t) + 1 + words_of ts

listed_words : (t : Query) (ts : List BoundTest) → later_word_count (queries_of t (map bound_query ts)) ≡ word_count t
    + 1 + words_of ts
listed_words t [] = omega arith
listed_words t (u ∷ us) = ap (λ n. word_count t + 1 + n) (listed_words (bound_query u) us)

-- the words of operands are those of the first, the second and the later ones
pub operands_words : (o : BoundOperands) → joint_word_count (bound_joint o)
    ≡ word_count (bound_query (out-BoundOperands o).first.value)
    + (word_count (bound_query (out-BoundOperands o).second.value) + 1 + words_of (out-BoundOperands o).later.items)
operands_words o =
    let parts = out-BoundOperands o in
    ap joint_word_count (operands_seen o) ∙ ap (λ n. word_count (bound_query parts.first.value) + n)
    (listed_words (bound_query parts.second.value) parts.later.items)

-- where each test of a list has a property, so has each of its tests
pub listed_each : (P : Name → Type 0) (t : Query) (ts : List BoundTest)
    → EachSignalOfAll P (queries_of t (map bound_query ts))
    → EachSignal P t × AllByRecursion (λ (u : BoundTest). EachSignal P (bound_query u)) ts
listed_each P t [] h = (h, tt)
listed_each P t (u ∷ us) h = (h.0, listed_each P (bound_query u) us h.1)

-- the same at a place of the list
pub each_at : (P : Name → Type 0) (ts : List BoundTest) (n : ℕ) (d : BoundTest)
    → AllByRecursion (λ (u : BoundTest). EachSignal P (bound_query u)) ts → n < length ts
    → EachSignal P (bound_query (get_or ts n d))
each_at P [] n d a h = absurd (omega arith)
each_at P (t ∷ ts) zero d a h = a.0
each_at P (t ∷ ts) (suc n) d a h = each_at P ts n d a.1 (omega arith)

-- where each number of operands fits its type, so does each of the first, the second and the later ones
pub small_parts : (o : BoundOperands) → IsSmallJoint (bound_joint o)
    → IsSmallQuery (bound_query (out-BoundOperands o).first.value)
    × IsSmallQuery (bound_query (out-BoundOperands o).second.value)
    × AllByRecursion (λ (u : BoundTest). EachSignal IsSmallName (bound_query u)) (out-BoundOperands o).later.items
small_parts o h =
    let parts = out-BoundOperands o in
    let seen = subst IsSmallJoint (operands_seen o) h in
    let rest = listed_each IsSmallName (bound_query parts.second.value) parts.later.items seen.1 in
    (seen.0, rest.0, rest.1)
