-- After a round that changes nothing, no round changes anything.
use Rattle.std.proofs.Common.{◌≡◌, ◌≤◌, ℕ, zero, suc, ◌+◌, ◌-◌, ap, sym, ◌∙◌, arith}
use Rattle.est_kernel.specs.Term.{Term}
use Rattle.est_meaning.specs.Environments.{Env}
use Rattle.est_meaning.specs.Rounds.{JudgedSignals, round, env_after}

stays : (k n : ℕ) (j : JudgedSignals) (t : Term) (e : Env) → round j t (env_after n j t e) ≡ env_after n j t e
    → env_after (k + n) j t e ≡ env_after n j t e
stays zero n j t e h = ap (λ m. env_after m j t e) (omega arith)
stays (suc k) n j t e h =
    let c : suc k + n ≡ suc (k + n) = omega arith in
    ap (λ m. env_after m j t e) c ∙ (ap (round j t) (stays k n j t e h) ∙ h)

-- where a round changes nothing, no later one does
pub settled : (m n : ℕ) → n ≤ m → (j : JudgedSignals) (t : Term) (e : Env)
    → round j t (env_after n j t e) ≡ env_after n j t e → env_after n j t e ≡ env_after m j t e
settled m n l j t e h =
    let c : (m - n) + n ≡ m = omega arith in
    sym (stays (m - n) n j t e h) ∙ ap (λ x. env_after x j t e) c
