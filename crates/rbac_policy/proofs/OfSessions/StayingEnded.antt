-- Sessions that have ended don't live again.
use Rattle.std.proofs.Common.{ℕ, ◌≤◌, List, [], ◌∷◌, ◌++◌, inl, inr, arith, sym, subst}
use Rattle.std.proofs.lemmas.List.{append_assoc, append-nil}
use Rattle.rbac_policy.specs.declared.commands.Entry.{Entry}
use Rattle.rbac_policy.specs.Entries.{logins}
use Rattle.rbac_policy.specs.Facts.{IsLive}
use Rattle.rbac_policy.proofs.OfSessions.Lives.{lives_after}
use Rattle.rbac_policy.proofs.Untouched.{logins_push}

-- one more entry gives no number that was given before, so it makes no session of such a number
ended_push : (L : List Entry) (e : Entry) (session : ℕ) → session ≤ logins L → ¬ (IsLive L session)
    → ¬ (IsLive (L ++ e ∷ []) session)
ended_push L e session given ended live = elim (lives_after L e session live.0 live.1).0 [
  | inl made ↦ absurd (omega (arith, made.creates.number, given))
  | inr stays ↦ ended (live.0, stays.0)
]

pub stays_ended : (L more : List Entry) (session : ℕ) → session ≤ logins L → ¬ (IsLive L session)
    → ¬ (IsLive (L ++ more) session)
stays_ended L [] session given ended live = ended (subst (λ l. IsLive l session) (append-nil L) live)
stays_ended L (e ∷ more) session given ended live =
    let still : session ≤ logins (L ++ e ∷ []) =
    subst (λ n. session ≤ n) (sym (logins_push L e)) (omega (arith, given)) in
    stays_ended (L ++ e ∷ []) more session still (ended_push L e session given ended)
    (subst (λ l. IsLive l session) (sym (append_assoc L (e ∷ []) more)) live)
