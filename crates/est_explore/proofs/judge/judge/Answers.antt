use Rattle.std.proofs.Common.{arith, inl, inr}
use Rattle.est_explore.proofs.JudgeLemmas.{cleared_all, fails_first, more_states, more_trials}
use Rattle.est_explore.proofs.RunLemmas.{holds_for}
use Rattle.est_explore.proofs.judge.judge.Goals as goal

pub returns-in-Some : goal.returns-in-Some
returns-in-Some g c = λ states steps ended.
    let first = rw c.deref.ensures.value at c.in-Some.ensures in
    fails_first _ _ _ c.requires.explored c.args.claim.now c.requires.watched c.in-Some.at c.in_ok-word.word.items
    first.0 first.1 first.2 (c.in_ok-word.ensures _ c.requires.explored.begins)

pub returns-then-found-len : goal.returns-then-found-len
returns-then-found-len g c = λ states steps ended. elim ended [
  | inl all ↦ absurd (let w = c.if-found-len.true in let e = c.len.ensures in let o = c.args.found.now.nodes.ok.0 in
      omega arith)
  | inr more ↦ elim more [
    | inl s ↦ inl (more_states _ _ _ c.requires.explored states s)
    | inr t ↦ inr (more_trials _ _ _ c.requires.explored steps t)
  ]
]

pub returns : goal.returns
returns g c = λ states steps ended n.
    let w = c.if-found-len.false in
    let e = c.len.ensures in
    let o = c.args.found.now.nodes.ok.0 in
    holds_for _ _ _ c.requires.explored c.args.claim.now c.requires.watched n
    (cleared_all _ _ _ c.requires.explored c.args.claim.now (rw c.deref.ensures.value at c.in_default.ensures)
    (omega arith) n)
