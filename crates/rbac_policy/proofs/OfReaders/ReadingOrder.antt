-- What the readers of edges and of the order say of the list of entries.
use Rattle.std.proofs.Common.{◌≡◌, ℕ, ◌↔◌, List, refl, subst, Bool, IsTrue}
use Rattle.std.specs.Prelude.{Some, None, slice_index}
use Rattle.rbac_closure.specs.Edges as edge
use Rattle.rbac_closure.specs.Edges.{Chain, stay, step}
use Rattle.rbac_closure.specs.Sets.{Has}
use Rattle.rbac_policy.specs.declared.commands.Entry.{Entry}
use Rattle.rbac_policy.specs.declared.policy.Policy.{Policy}
use Rattle.rbac_policy.specs.Names.{NameText}
use Rattle.rbac_policy.specs.Facts.{IsRole, IsEdge, IsAtOrBelow}
use Rattle.rbac_policy.specs.Tables.{At, place_of}
use Rattle.rbac_policy.specs.StandsFor.{StandsFor}
use Rattle.rbac_policy.proofs.OfRoles.Order.{chain_up, chain_down, one_role}
use Rattle.rbac_policy.proofs.Asking.{role_at, no_role}
use Rattle.rbac_policy.proofs.OfReaders.ReadingRoles.{in_mask, mask_role}

module _ (p : Policy) (L : List Entry) (st : StandsFor p L) where
  -- an edge leads between roles that are there
  pub edge_junior : (a b : NameText) → IsEdge L a b → IsRole L b
  edge_junior a b e =
      let h = (st.roles.exist a).0 (st.roles.only_roles a b e) in
      mask_role p L st b _ ((st.roles.edges h.at a (subst (At p.roles h.at) h.fact h.there) b).0 e)

  pub edge_test : (a b : NameText) (above place : ℕ) (t : Bool) → place_of a p.roles ≡ Some above
      → place_of b p.roles ≡ Some place
      → IsTrue t ↔ edge.IsEdge p.juniors above place → IsTrue t ↔ IsEdge L a b
  edge_test a b above place t found_a found_b test =
      let slot = st.roles.edges above a (role_at p L st a above found_a) b in
      let bit = in_mask p L st b (slice_index p.juniors above) place found_b in (
        λ h. slot.1 (bit.1 (test.0 h)),
        λ h. test.1 (bit.0 (slot.0 h)),
      )

  pub below_test : (junior senior : NameText) (above place all : ℕ) (t : Bool) → place_of senior p.roles ≡ Some above
      → place_of junior p.roles ≡ Some place
      → ((q : ℕ) → Has all q ↔ edge.IsAbove p.juniors above q) → IsTrue t ↔ Has all place
      → IsTrue t ↔ IsAtOrBelow L junior senior
  below_test junior senior above place all t found_s found_j walked test =
      let here = role_at p L st senior above found_s in
      let there = role_at p L st junior place found_j in (
        λ h.
            let up = chain_up p.roles p.juniors L st.roles ((walked place).0 (test.0 h)) senior here in
            subst (Chain (IsEdge L) senior) (one_role p.roles place up.0 junior up.1 there) up.2,
        λ h.
            let down = chain_down p.roles p.juniors L st.roles h above here in
            let same = st.roles.unique down.0 place junior down.1 there in
            test.1 ((walked place).1 (subst (Chain (edge.IsEdge p.juniors) above) same down.2)),
      )

  -- nothing but a role lies below a role
  pub below_role : (junior senior : NameText) → IsRole L senior → IsAtOrBelow L junior senior → IsRole L junior
  below_role junior senior exists stay = exists
  below_role junior senior exists (step e more) = below_role junior _ (edge_junior senior _ e) more

  -- what is no role has itself below it, and nothing else
  pub below_none : (junior senior : NameText) → place_of senior p.roles ≡ None → IsAtOrBelow L junior senior
      → senior ≡ junior
  below_none junior senior none stay = refl
  below_none junior senior none (step e more) = absurd (no_role p L st senior none (st.roles.only_roles senior _ e))
