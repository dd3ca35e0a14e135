-- Operands, as the code has them, pass the test of sameness one after another.
use Rattle.std.proofs.Common.{◌≡◌, suc, List, [], ◌∷◌, map, length, refl, ap, sym, ◌∙◌}
use Rattle.std.proofs.Math.Bool.{and_assoc, and-true, and-false}
use Rattle.std.specs.Prelude.{Bool, true, false, ◌&&◌}
use Rattle.est_kernel.specs.Term.{Query}
use Rattle.est_kernel.specs.View.{query_of, queries_of, joint_of}
use Rattle.est_kernel.specs.declared.statement.Operands.{Operands}
use Rattle.est_kernel.specs.declared.statement.Test.{Test}
use Rattle.est_kernel.specs.declared.statement.Test.TheViews.{out-Operands}
use Rattle.est_kernel.proofs.Tests.{operands_seen}
use Rattle.est_left.specs.Inner.Sameness.{same_query, same_queries, same_joint}

-- as many tests, which ask the same in their order
abbrev pub same_listed : List Test → List Test → Bool
same_listed [] [] = true
same_listed (t ∷ ts) (u ∷ us) = same_query (query_of t) (query_of u) && same_listed ts us
same_listed _ _ = false

listed : (t u : Query) (ts us : List Test)
    → same_queries (queries_of t (map query_of ts)) (queries_of u (map query_of us))
    ≡ (same_query t u && same_listed ts us)
listed t u [] [] = sym (and-true (same_query t u))
listed t u [] (v ∷ vs) = sym (and-false (same_query t u))
listed t u (s ∷ ss) [] = sym (and-false (same_query t u))
listed t u (s ∷ ss) (v ∷ vs) = ap (λ (b : Bool). same_query t u && b) (listed (query_of s) (query_of v) ss vs)

-- lists of two lengths are not the same
pub lengths_differ : (ts us : List Test) → ¬ (length ts ≡ length us) → same_listed ts us ≡ false
lengths_differ [] [] other = absurd (other refl)
lengths_differ [] (u ∷ us) other = refl
lengths_differ (t ∷ ts) [] other = refl
lengths_differ (t ∷ ts) (u ∷ us) other =
    ap (λ (b : Bool). same_query (query_of t) (query_of u) && b)
    (lengths_differ ts us (λ same. other (ap suc same))) ∙ and-false (same_query (query_of t) (query_of u))

-- the operands are the same exactly if the first, the second and the later ones are
pub operands_same : (o p : Operands) → same_joint (joint_of o) (joint_of p)
    ≡ ((same_query (query_of (out-Operands o).first.value) (query_of (out-Operands p).first.value)
    && same_query (query_of (out-Operands o).second.value) (query_of (out-Operands p).second.value))
    && same_listed (out-Operands o).later.items (out-Operands p).later.items)
operands_same o p =
    let a = out-Operands o in
    let b = out-Operands p in
    ap (λ j. same_joint j (joint_of p)) (operands_seen o) ∙ (ap (same_joint _) (operands_seen p)
    ∙ (ap (λ (c : Bool). same_query (query_of a.first.value) (query_of b.first.value) && c)
    (listed (query_of a.second.value) (query_of b.second.value) a.later.items b.later.items)
    ∙ sym (and_assoc (same_query (query_of a.first.value) (query_of b.first.value))
    (same_query (query_of a.second.value) (query_of b.second.value))
    (same_listed a.later.items b.later.items))))

second_tells : (a b c : Bool) → b ≡ false → false ≡ ((a && b) && c)
second_tells true true c h = absurd cc
second_tells true false c h = refl
second_tells false b c h = refl

both_tell : (a b c : Bool) → a ≡ true → b ≡ true → c ≡ ((a && b) && c)
both_tell true true c h k = refl
both_tell true false c h k = absurd cc
both_tell false b c h k = absurd cc

-- operands of two numbers are not the same
pub numbers_tell : (o p : Operands) → ¬ (length (out-Operands o).later.items ≡ length (out-Operands p).later.items)
    → false ≡ same_joint (joint_of o) (joint_of p)
numbers_tell o p other =
    let a = out-Operands o in
    let b = out-Operands p in
    let first = same_query (query_of a.first.value) (query_of b.first.value)
    && same_query (query_of a.second.value) (query_of b.second.value) in
    sym (operands_same o p ∙ (ap (λ (c : Bool). first && c) (lengths_differ a.later.items b.later.items other)
    ∙ and-false first))

-- nor are those whose second differ
pub seconds_tell : (o p : Operands)
    → same_query (query_of (out-Operands o).second.value) (query_of (out-Operands p).second.value) ≡ false
    → false ≡ same_joint (joint_of o) (joint_of p)
seconds_tell o p differ =
    let a = out-Operands o in
    let b = out-Operands p in
    second_tells (same_query (query_of a.first.value) (query_of b.first.value))
    (same_query (query_of a.second.value) (query_of b.second.value)) (same_listed a.later.items b.later.items) differ
    ∙ sym (operands_same o p)

-- where the first and the second are the same, the later ones tell
pub later_tell : (o p : Operands)
    → same_query (query_of (out-Operands o).first.value) (query_of (out-Operands p).first.value) ≡ true
    → same_query (query_of (out-Operands o).second.value) (query_of (out-Operands p).second.value) ≡ true
    → same_listed (out-Operands o).later.items (out-Operands p).later.items ≡ same_joint (joint_of o) (joint_of p)
later_tell o p one two =
    let a = out-Operands o in
    let b = out-Operands p in
    both_tell (same_query (query_of a.first.value) (query_of b.first.value))
    (same_query (query_of a.second.value) (query_of b.second.value)) (same_listed a.later.items b.later.items) one two
    ∙ sym (operands_same o p)
