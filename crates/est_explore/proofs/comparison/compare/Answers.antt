use Rattle.std.proofs.Common.{refl, arith, inl, inr}
use Rattle.est_explore.proofs.DifferLemmas.{agree_all, differ_first, more_pairs, more_pair_trials}
use Rattle.est_explore.proofs.SameLemmas.{same_for}
use Rattle.est_explore.proofs.comparison.compare.Goals as goal

pub returns-in-Some : goal.returns-in-Some
returns-in-Some g c = λ states steps ended.
    let first = rw c.deref.ensures.value at c.in-Some.ensures in
    differ_first _ _ (record { interface = c.requires.interface; relations = refl; allowed = refl }) _ _
    c.requires.explored c.in-Some.at c.in_ok-word.word.items first.0 first.1 first.2
    (c.in_ok-word.ensures _ c.requires.explored.begins)

pub returns-then-found-len : goal.returns-then-found-len
returns-then-found-len g c = λ states steps ended. elim ended [
  | inl all ↦ absurd (let w = c.if-found-len.true in let e = c.len.ensures in let o = c.args.found.now.nodes.ok.0 in
      omega arith)
  | inr more ↦ elim more [
    | inl s ↦ inl (more_pairs _ _ (record { interface = c.requires.interface; relations = refl; allowed = refl }) _ _
        c.requires.explored states s)
    | inr t ↦
        inr (more_pair_trials _ _ (record { interface = c.requires.interface; relations = refl; allowed = refl }) _
        _ c.requires.explored steps t)
  ]
]

pub returns : goal.returns
returns g c = λ states steps ended n.
    let w = c.if-found-len.false in
    let e = c.len.ensures in
    let o = c.args.found.now.nodes.ok.0 in
    same_for _ _ (record { interface = c.requires.interface; relations = refl; allowed = refl }) _ _ c.requires.explored
    n
    (agree_all _ _ (record { interface = c.requires.interface; relations = refl; allowed = refl }) _ _
    c.requires.explored
    (rw c.deref.ensures.value at c.in_default.ensures) (omega arith) n)
