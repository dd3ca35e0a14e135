-- The order of the entries' edges is that of the rows' places.
use Rattle.std.proofs.lemmas.Bool.{false≢true}
use Rattle.std.proofs.lemmas.Nat.Bits.{bit_at-zero}
use Rattle.std.proofs.Common.{◌≡◌, ℕ, zero, suc, [], ◌∷◌, cond, ◌⊎◌, List, inl, inr, arith, sym, ◌∙◌, ap, refl, subst}
use Rattle.std.proofs.Common.{true, false, Bool}
use Rattle.std.specs.Prelude.{Some, None, Option}
use Rattle.std.specs.Str.{bytes_eq}
use Rattle.std.proofs.lemmas.Slice.Eq.{bytes_eq-Decides}
use Rattle.std.proofs.lemmas.Option.{slice_get_within, same_Some}
use Rattle.rbac_closure.specs.Sets.{Has}
use Rattle.rbac_closure.specs.Edges as edge
use Rattle.rbac_closure.specs.Edges.{Chain, stay, step, IsBelowSome}
use Rattle.rbac_policy.specs.declared.commands.Entry.{Entry}
use Rattle.rbac_policy.specs.declared.rows.User.{User}
use Rattle.rbac_policy.specs.Facts.{IsAssigned, IsEdge, IsAuthorized}
use Rattle.rbac_policy.specs.Names.{NameText}
use Rattle.rbac_policy.specs.Tables.{At, roles_of}
use Rattle.rbac_policy.specs.StandsFor.{UsersStand, RolesStand}

-- one place has one role
pub one_role : (roles : List (Option NameText)) (p : ℕ) (a b : NameText) → At roles p a → At roles p b → a ≡ b
one_role roles p a b x y = cc

module _ (roles : List (Option NameText)) (juniors : List ℕ) (L : List Entry) (stand : RolesStand roles juniors L) where
  -- a chain of edges from the role at a place is a chain of rows
  pub chain_down : {a b : NameText} → Chain (IsEdge L) a b → (p : ℕ) → At roles p a
      → (q : ℕ) × At roles q b × Chain (edge.IsEdge juniors) p q
  chain_down stay p there = (p, there, stay)
  chain_down (step e more) p there =
      let m = (stand.edges p _ there _).0 e in
      let rest = chain_down more m.place m.there in
      (rest.0, rest.1, step m.bit rest.2)

  -- and the converse
  pub chain_up : {p q : ℕ} → Chain (edge.IsEdge juniors) p q → (a : NameText) → At roles p a
      → (b : NameText) × At roles q b × Chain (IsEdge L) a b
  chain_up stay a there = (a, there, stay)
  chain_up (step {a = p} {b = m} e more) a there =
      let named = stand.named p m e in
      let first = (stand.edges p a there named.0).1 (record { place = m; there = named.1; bit = e }) in
      let rest = chain_up more named.0 named.1 in
      (rest.0, rest.1, step first rest.2)

-- what `roles_of` finds: the mask of a slot with the user, or nothing where no slot has it
pub record FoundUser (u : NameText) (users : List (Option User)) : Type 0 where
  pub at : ℕ
  pub user : User
  pub there : At users at user
  pub name : user.name ≡ u
  pub mask : roles_of u users ≡ user.roles

pub record NoUser (u : NameText) (users : List (Option User)) : Type 0 where
  pub absent : (at : ℕ) (x : User) → At users at x → x.name ≡ u → ⊥
  pub mask : roles_of u users ≡ 0

later : (u : NameText) (slot : Option User) (slots : List (Option User)) → roles_of u (slot ∷ slots) ≡ roles_of u slots
    → ((x : User) → slot ≡ Some x → x.name ≡ u → ⊥) → FoundUser u slots ⊎ NoUser u slots
    → FoundUser u (slot ∷ slots) ⊎ NoUser u (slot ∷ slots)
later u slot slots e other h = elim h [
  | inl f ↦ inl (record { at = suc f.at; user = f.user; there = f.there; name = f.name; mask = e ∙ f.mask })
  | inr n ↦ inr (record { absent = absent_at n.absent; mask = e ∙ n.mask })
] where
  absent_at : ((at : ℕ) (x : User) → At slots at x → x.name ≡ u → ⊥) → (at : ℕ) (x : User) → At (slot ∷ slots) at x
      → x.name ≡ u → ⊥
  absent_at no_later zero x there = other x (same_Some slot (Some x) there)
  absent_at no_later (suc at) x there = no_later at x there

pub find_user : (u : NameText) (users : List (Option User)) → FoundUser u users ⊎ NoUser u users
find_user u [] =
    inr (record {
      absent = λ at x there. absurd (omega (arith, slice_get_within {A = Option User} [] at (Some x) there));
      mask = refl;
    })
find_user u (None ∷ slots) = later u None slots refl (λ x e. cc) (find_user u slots)
find_user u (Some x ∷ slots) = found_at (find_user u slots) (bytes_eq x.name u) refl where
  found_at : FoundUser u slots ⊎ NoUser u slots → (b : Bool) → bytes_eq x.name u ≡ b
      → FoundUser u (Some x ∷ slots) ⊎ NoUser u (Some x ∷ slots)
  found_at rest true e =
      inl (record {
        at = 0;
        user = x;
        there = refl;
        name = (bytes_eq-Decides x.name u).0 e;
        mask = ap (λ b. cond b x.roles (roles_of u slots)) e;
      })
  found_at rest false e = later u (Some x) slots (ap (λ b. cond b x.roles (roles_of u slots)) e)
      (λ y same name. absurd
      (false≢true (sym e ∙ (bytes_eq-Decides x.name u).1 (ap (λ (z : User). z.name) (same_Some x y same) ∙ name))))
      rest

-- a user is authorized for the roles that lie in or below the mask of its slot
module _ (roles : List (Option NameText)) (juniors : List ℕ) (users : List (Option User)) (L : List Entry)
    (rs : RolesStand roles juniors L) (us : UsersStand roles users L) where
  pub authorized_below : (u r : NameText) → IsAuthorized L u r
      → (p : ℕ) × At roles p r × IsBelowSome juniors (roles_of u users) p
  authorized_below u r a = elim (find_user u users) [
    | inl f ↦
        let mine = (us.assigned f.at f.user f.there a.by).0
        (subst (λ n. IsAssigned L n a.by) (sym f.name) a.assigned) in
        let down = chain_down roles juniors L rs a.order mine.place mine.there in (
          down.0,
          down.1,
          record { top = mine.place; within = subst (λ m. Has m mine.place) (sym f.mask) mine.bit; chain = down.2 },
        )
    | inr n ↦
        let h = (us.exist u).0 (us.only_users u a.by a.assigned) in
        absurd (n.absent h.at h.value h.there h.fact)
  ]

  pub below_authorized : (u r : NameText) (p : ℕ) → At roles p r → IsBelowSome juniors (roles_of u users) p
      → IsAuthorized L u r
  below_authorized u r p there b = elim (find_user u users) [
    | inl f ↦
        let bit = subst (λ m. Has m b.top) f.mask b.within in
        let named = us.named f.at f.user f.there b.top bit in
        let up = chain_up roles juniors L rs b.chain named.0 named.1 in
        let same = one_role roles p up.0 r up.1 there in
        record {
          exists = (rs.exist r).1 (record { at = p; value = r; there = there; fact = refl });
          by = named.0;
          assigned = subst (λ n. IsAssigned L n named.0) f.name
              ((us.assigned f.at f.user f.there named.0).1 (record { place = b.top; there = named.1; bit = bit }));
          order = subst (Chain (IsEdge L) named.0) same up.2;
        }
    | inr n ↦ absurd (omega (arith, subst (λ m. Has m b.top) n.mask b.within, bit_at-zero b.top))
  ]

  -- what lies in or below a user's mask has a name
  pub below_named : (u : NameText) (p : ℕ) → IsBelowSome juniors (roles_of u users) p → (r : NameText) × At roles p r
  below_named u p b = elim (find_user u users) [
    | inl f ↦
        let named = us.named f.at f.user f.there b.top (subst (λ m. Has m b.top) f.mask b.within) in
        let up = chain_up roles juniors L rs b.chain named.0 named.1 in
        (up.0, up.1)
    | inr n ↦ absurd (omega (arith, subst (λ m. Has m b.top) n.mask b.within, bit_at-zero b.top))
  ]
