-- How many sessions live before and after a logout.
use Rattle.std.proofs.Common.{◌≡◌, ◌≢◌, ℕ, zero, suc, ◌+◌, ◌<◌, ◌≤◌, List, [], ◌∷◌, ◌++◌, length, inl, inr, arith, sym}
use Rattle.std.proofs.Common.{◌∙◌, ap, refl}
use Rattle.std.specs.Prelude.{Some}
use Rattle.std.specs.List.{All, AllPairs}
use Rattle.std.proofs.lemmas.List.{length_push}
use Rattle.rbac_policy.specs.declared.commands.AdminCommand.TheVariants.{DeleteSession}
use Rattle.rbac_policy.specs.declared.commands.Entry.{Entry}
use Rattle.rbac_policy.specs.declared.policy.Policy.{Policy}
use Rattle.rbac_policy.specs.declared.sizes.TheConstants.{SESSIONS}
use Rattle.rbac_policy.specs.Counting.{HasAtLeast}
use Rattle.rbac_policy.specs.Facts.{IsLive}
use Rattle.rbac_policy.specs.Leaving.{LeavesRoom}
use Rattle.rbac_policy.specs.StandsFor.{StandsFor}
use Rattle.rbac_policy.proofs.OfSessions.Lives.{Made, lives_after}
use Rattle.rbac_policy.proofs.OfSlots.Room.{few, keeps_sessions}

-- who lives after a logout lived before it, and is another session than the one that logged out
lived : (L : List Entry) (e : Entry) (s n : ℕ) → e.command ≡ DeleteSession → e.session ≡ Some s → IsLive (L ++ e ∷ []) n
    → IsLive L n × (n ≡ s → ⊥)
lived L e s n command given l = elim (lives_after L e n l.0 l.1).0 [
  | inl m ↦ absurd (not_made m)
  | inr k ↦ ((l.0, k.0), λ same. k.1 (inl (given ∙ ap Some (sym same), command)))
] where
  not_made : Made L e n l.0 → ⊥
  not_made m = cc (command, m.creates.login)

-- with the session that logs out there was one more
one_more : (L : List Entry) (e : Entry) (s k : ℕ) → e.command ≡ DeleteSession → e.session ≡ Some s → IsLive L s
    → HasAtLeast k (IsLive (L ++ e ∷ [])) → HasAtLeast (k + 1) (IsLive L)
one_more L e s k command given live h = record {
  values = s ∷ h.values;
  distinct = apart;
  have = all;
  enough = omega (arith, h.enough);
} where
  apart : AllPairs (λ x y. x ≢ y) (s ∷ h.values)
  apart zero zero d low within = absurd (omega (arith, low))
  apart zero (suc q) d low within = λ same. (lived L e s _ command given (h.have q d (omega (arith, within)))).1
      (sym same)
  apart (suc p) zero d low within = absurd (omega (arith, low))
  apart (suc p) (suc q) d low within = h.distinct p q d (omega (arith, low)) (omega (arith, within))

  all : All (IsLive L) (s ∷ h.values)
  all zero d within = live
  all (suc p) d within = (lived L e s _ command given (h.have p d (omega (arith, within)))).0

-- room for as many entries as sessions may live is enough
pub leaves_room : (policy : Policy) (L : List Entry) (most : ℕ) → StandsFor policy L → length L + SESSIONS ≤ most
    → LeavesRoom most L
leaves_room policy L most st room = record {
  each = λ count h. omega (
    arith,
    room,
    few _ policy.sessions (IsLive L) SESSIONS count
        (keeps_sessions policy.roles policy.sessions L st.sessions) st.sessions.places h,
  );
}

-- a logout leaves as much room as there was
pub logout_leaves_room : (L : List Entry) (e : Entry) (s most : ℕ) → LeavesRoom most L → e.command ≡ DeleteSession
    → e.session ≡ Some s → IsLive L s → LeavesRoom most (L ++ e ∷ [])
logout_leaves_room L e s most r command given live = record {
  each = λ count h. omega (arith, r.each (count + 1) (one_more L e s count command given live h), length_push L e);
}

-- a session that lives has room for its logout
pub logout_has_room : (L : List Entry) (s most : ℕ) → LeavesRoom most L → IsLive L s → length L < most
logout_has_room L s most r live = omega (arith, r.each 1 one) where
  one : HasAtLeast 1 (IsLive L)
  one = record {
    values = s ∷ [];
    distinct = λ p q d low within. absurd (omega (arith, low, within));
    have = alone;
    enough = refl;
  } where
    alone : All (IsLive L) (s ∷ [])
    alone zero d within = live
    alone (suc p) d within = absurd (omega (arith, within))
