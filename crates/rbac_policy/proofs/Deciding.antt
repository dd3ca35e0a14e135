-- A policy that stands for a list decides what may be done there.
use Rattle.std.proofs.Common.{◌≡◌, ◌↔◌, ℕ, Bool, true, false, IsTrue, List, refl, subst, arith, inl, inr, rules}
use Rattle.rbac_policy.specs.Names.{NameText}
use Rattle.rbac_policy.proofs.OfRoles.Below.{below_sound, below_all}
use Rattle.rbac_policy.proofs.OfRoles.Order.{authorized_below, below_authorized}
use Rattle.std.specs.Prelude.{Option, Some, None, is_some}
use Rattle.std.specs.Int.Bits.{bit_and}
use Rattle.std.proofs.lemmas.Bool.{cases_eq}
use Rattle.rbac_policy.specs.declared.commands.Entry.{Entry}
use Rattle.rbac_policy.specs.declared.objects.Operation.{Operation}
use Rattle.rbac_policy.specs.declared.objects.Object.{Object}
use Rattle.rbac_policy.specs.declared.policy.Policy.{Policy}
use Rattle.rbac_policy.specs.declared.rows.Grant.{Grant}
use Rattle.rbac_policy.specs.declared.rows.Session.{Session}
use Rattle.rbac_policy.specs.Decided.{Decided}
use Rattle.rbac_policy.specs.Facts.{IsLive, IsAuthorized, May}
use Rattle.rbac_policy.specs.Order.{below}
use Rattle.rbac_policy.specs.StandsFor.{StandsFor}
use Rattle.rbac_policy.specs.Tables.{session_of, grant_of, place_of, roles_of}
use Rattle.rbac_policy.proofs.Asking.{may_no_session, may_no_grant, may_found, session_test, role_at, no_role}
use Rattle.rbac_closure.specs.Sets.{Has}
use Rattle.rbac_closure.proofs.SetLemmas.{common_place, no_common_place, has_cases}

module _ (p : Policy) (L : List Entry) (st : StandsFor p L) where
  pub live_decided : (n : ℕ) → Decided (IsLive L n)
  live_decided n = by_test (is_some (session_of n p.sessions))
      (session_test p L st n (is_some (session_of n p.sessions)) refl) where
        by_test : (b : Bool) → (IsTrue b ↔ IsLive L n) → Decided (IsLive L n)
        by_test true test = inl (test.0 (search rules))
        by_test false test = inr (λ h. absurd (search (rules, test.1 h)))

  pub may_decided : (n : ℕ) (op : Operation) (object : Object) → Decided (May L n op object)
  may_decided n op object = by_session (session_of n p.sessions) refl where
    by_grant : (x : Session) → session_of n p.sessions ≡ Some x → (o : Option Grant) → grant_of op object p.grants ≡ o
        → Decided (May L n op object)
    by_grant x sx None none = inr (may_no_grant p L st n op object none)
    by_grant x sx (Some g) sg =
        let found = may_found p L st n op object x g sx sg in
        let rows : ℕ = below p.juniors x.active in
        elim (cases_eq (bit_and rows g.roles) 0) [
          | inl empty ↦ inr (λ may. no_common_place rows g.roles (found.1 may) empty)
          | inr some ↦ inl (found.0 (common_place rows g.roles some))
        ]

    by_session : (o : Option Session) → session_of n p.sessions ≡ o → Decided (May L n op object)
    by_session None none = inr (may_no_session p L st n op object none)
    by_session (Some x) sx = by_grant x sx (grant_of op object p.grants) refl

  -- whether a user is authorized for a role
  pub authorized_decided : (u r : NameText) → Decided (IsAuthorized L u r)
  authorized_decided u r = by_place (place_of r p.roles) refl where
    all : ℕ
    all = below p.juniors (roles_of u p.users)

    by_place : (o : Option ℕ) → place_of r p.roles ≡ o → Decided (IsAuthorized L u r)
    by_place None e = inr (λ a. no_role p L st r e a.exists)
    by_place (Some q) e =
        let there = role_at p L st r q e in
        elim (has_cases all q) [
          | inl has ↦
              inl (below_authorized p.roles p.juniors p.users L st.roles st.users u r q there
              (below_sound p.juniors (roles_of u p.users) q has))
          | inr none ↦ inr (λ a.
              let h = authorized_below p.roles p.juniors p.users L st.roles st.users u r a in
              let same = st.roles.unique h.0 q r h.1 there in
              absurd (omega (arith, none, subst (Has all) same (below_all p.juniors (roles_of u p.users) h.0 h.2))))
        ]
