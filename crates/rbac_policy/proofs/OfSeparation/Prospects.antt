-- The first violation after an edge or a separation set more.
use Rattle.std.proofs.Common.{◌≡◌, ℕ, ◌⊎◌, ◌↔◌, List, [], ◌∷◌, ◌++◌, length, arith, ◌∙◌, ap, subst, refl, inl, inr}
use Rattle.std.specs.Prelude.{Option, Some, None, MatchOption, Contains}
use Rattle.std.proofs.Math.Seq.{take-length}
use Rattle.std.proofs.lemmas.Option.{slice_get_within, same_Some}
use Rattle.rbac_closure.specs.Edges.{edge_added}
use Rattle.rbac_closure.proofs.ChainLemmas.{widened}
use Rattle.rbac_policy.specs.declared.policy.Policy.{Policy}
use Rattle.rbac_policy.specs.declared.commands.AdminCommand.TheVariants.{DeleteRole, AddInheritance, CreateSession}
use Rattle.rbac_policy.specs.declared.commands.AdminCommand.TheVariants.{AddActiveRole, DropActiveRole, CreateDsdSet}
use Rattle.rbac_policy.specs.declared.commands.AdminCommand.TheVariants.{DeleteDsdSet}
use Rattle.rbac_policy.specs.declared.commands.Entry.{Entry}
use Rattle.rbac_policy.specs.declared.rows.DsdSet.{DsdSet}
use Rattle.rbac_policy.specs.declared.separation.Violation.{Violation}
use Rattle.rbac_policy.specs.Names.{NameText}
use Rattle.rbac_policy.specs.Facts.{IsSet, IsActive, IsAuthorized, Lives, HasOnlyAuthorized, CreatesWith, Activates}
use Rattle.rbac_policy.specs.Facts.{Drops, Ends, Unassigns, Disinherits}
use Rattle.rbac_policy.specs.Separation.{IsFirstViolated}
use Rattle.rbac_policy.specs.Inner.Violations.{first_violation}
use Rattle.rbac_policy.specs.Tables.{At, place_of, mask_of}
use Rattle.rbac_policy.specs.StandsFor.{InMask, IsRowOf, SetsStand, StandsFor}
use Rattle.rbac_policy.proofs.Steps.{in_force_push, get_push, get_last}
use Rattle.rbac_policy.proofs.OfSessions.Lives.{lives_after, lives_before}
use Rattle.rbac_policy.proofs.Asking.{role_at}
use Rattle.rbac_policy.proofs.OfRoles.Listed.{in_mask_of}
use Rattle.rbac_policy.proofs.OfRoles.Inheriting.{inheriting}
use Rattle.rbac_policy.proofs.Untouched.{untouched, untouched_roles, untouched_sets, through}
use Rattle.rbac_policy.proofs.OfSeparation.Violating.{SessionRows, SetRows}
use Rattle.rbac_policy.proofs.OfSeparation.Separated.{front_slot, before_none, shown_violation}

-- what the answer says of a list
abbrev pub Tells : List Entry → Option Violation → Type 0
Tells L o = MatchOption o ((set : NameText) (session : ℕ) → IsFirstViolated L set session → ⊥)
    (λ v. IsFirstViolated L v.set v.session)

pub sets_of : (roles : List (Option NameText)) (sets : List (Option DsdSet)) (L : List Entry) → SetsStand roles sets L
    → SetRows roles sets L
sets_of roles sets L s = record { listed = s.listed; made = s.made }

module _ (p : Policy) (L : List Entry) (st : StandsFor p L) where
  -- the entry takes nobody's authorization away
  pub record Lossless (e : Entry) : Type 0 where
    pub no_loss : (r : NameText) → e.command ≡ DeleteRole r → ⊥
    pub no_unassign : (u r : NameText) → Unassigns u r e → ⊥
    pub no_disinherit : (a b : NameText) → Disinherits a b e → ⊥

  pub still_authorized : (e : Entry) → Lossless e → (u r : NameText) → IsAuthorized L u r
      → IsAuthorized (L ++ e ∷ []) u r
  still_authorized e keeps u r a = record {
    exists = (in_force_push _ _ L e).1 (inr (a.exists, keeps.no_loss r));
    by = a.by;
    assigned = (in_force_push _ _ L e).1 (inr (a.assigned, keeps.no_unassign u a.by));
    order = widened (λ x y edge. (in_force_push _ _ L e).1 (inr (edge, keeps.no_disinherit x y))) a.order;
  }

  -- sessions as they were, after an entry that gives and takes no active role, and takes nobody's authorization away
  record Quiet (e : Entry) : Type 0 where
    no_login : (u : NameText) (roles : List NameText) → e.command ≡ CreateSession u roles → ⊥
    no_take : (r : NameText) → e.command ≡ AddActiveRole r → ⊥
    no_drop : (r : NameText) → e.command ≡ DropActiveRole r → ⊥
    no_end : (n : ℕ) (u : NameText) → Ends n u e → ⊥
    keeps : Lossless e

  module _ (e : Entry) (quiet : Quiet e) where
    same_active : (n : ℕ) (r : NameText) → IsActive (L ++ e ∷ []) n r ↔ IsActive L n r
    same_active n r = untouched (λ before x. CreatesWith n r before x ⊎ Activates n r x) (Drops n r) L e
        (λ m. elim m [ inl a ↦ quiet.no_login a.user a.roles a.creates.login | inr b ↦ quiet.no_take r b.1 ])
        (λ u. quiet.no_drop r u.1)

    still_lives : (n : ℕ) (u : NameText) → Lives L n u → Lives (L ++ e ∷ []) n u
    still_lives n u l = lives_before L e n u (inr (l, quiet.no_end n u)) (λ r a.
        let whole : HasOnlyAuthorized L n u = subst (λ xs. HasOnlyAuthorized xs n u) (take-length L)
        (l.authorized (length L) (slice_get_within L l.at l.entry l.there) (omega arith)) in
        still_authorized e quiet.keeps u r (whole r ((same_active n r).0 a)))

    rows_after : SessionRows p.roles (p.sessions ++ None ∷ []) (L ++ e ∷ [])
    rows_after = record {
      stands = λ n live. elim (lives_after L e n live.0 live.1).0 [
        | inl m ↦ absurd (quiet.no_login live.0 m.roles m.creates.login)
        | inr l ↦ let h = (st.sessions.exist n live.0).0 l.0 in
            record {
              at = h.at;
              value = h.value;
              there = front_slot p.sessions None h.at h.value h.there;
              fact = h.fact.0;
            }
      ];
      lives = λ at x there. (
        x.user,
        still_lives x.number x.user
            ((st.sessions.exist x.number x.user).1
            (record { at = at; value = x; there = before_none p.sessions at x there; fact = (refl, refl) })),
      );
      active = λ at x there r. through (same_active x.number r)
          (st.sessions.active at x (before_none p.sessions at x there) r);
      named = λ at x there. st.sessions.named at x (before_none p.sessions at x there);
    }

  quiet_edge : (by : Option ℕ) (senior junior : NameText)
      → Quiet (record { session = by; command = AddInheritance senior junior })
  quiet_edge by senior junior = record {
    no_login = λ u roles h. cc;
    no_take = λ r h. cc;
    no_drop = λ r h. cc;
    no_end = λ n u h. elim h [ inl x ↦ (let k = x.1 in cc) | inr y ↦ cc ];
    keeps = record {
      no_loss = λ r h. cc;
      no_unassign = λ u r h. elim h [ inl x ↦ cc | inr y ↦ elim y [ inl x ↦ cc | inr z ↦ cc ] ];
      no_disinherit = λ a b h. elim h [ inl x ↦ cc | inr y ↦ elim y [ inl x ↦ cc | inr z ↦ cc ] ];
    };
  }

  pub after_edge : (by : Option ℕ) (senior junior : NameText) (above place : ℕ) → place_of senior p.roles ≡ Some above
      → place_of junior p.roles ≡ Some place
      → (juniors : List ℕ) → juniors ≡ edge_added above place p.juniors
      → (o : Option Violation) → o ≡ first_violation juniors (p.sessions ++ None ∷ []) p.sets
      → Tells (L ++ record { session = by; command = AddInheritance senior junior } ∷ []) o
  after_edge by senior junior above place found_s found_j juniors edges o is =
      let e : Entry = record { session = by; command = AddInheritance senior junior } in
      let rows : List ℕ = edge_added above place p.juniors in
      let rs = inheriting p.roles p.juniors L by above senior (role_at p L st senior above found_s) place junior
      (role_at p L st junior place found_j) st.roles in
      shown_violation p.roles rows p.sets (p.sessions ++ None ∷ []) (L ++ e ∷ []) rs
      (rows_after e (quiet_edge by senior junior))
      (sets_of p.roles p.sets (L ++ e ∷ []) (untouched_sets p.roles p.sets L e refl st.sets)) o
      (is ∙ ap (λ js. first_violation js (p.sessions ++ None ∷ []) p.sets) edges)

  module _ (by : Option ℕ) (set : NameText) (count : ℕ) (listed : List NameText)
      (known : (r : NameText) → Contains listed r → (q : ℕ) × At p.roles q r) where
    abbrev e : Entry
    e = record { session = by; command = CreateDsdSet set count listed }

    abbrev coming : DsdSet
    coming = record { name = set; count = count; roles = mask_of p.roles listed; place = length L }

    quiet : Quiet e
    quiet = record {
      no_login = λ u roles h. cc;
      no_take = λ r h. cc;
      no_drop = λ r h. cc;
      no_end = λ n u h. elim h [ inl x ↦ (let k = x.1 in cc) | inr y ↦ cc ];
      keeps = record {
        no_loss = λ r h. cc;
        no_unassign = λ u r h. elim h [ inl x ↦ cc | inr y ↦ elim y [ inl x ↦ cc | inr z ↦ cc ] ];
        no_disinherit = λ a b h. elim h [ inl x ↦ cc | inr y ↦ elim y [ inl x ↦ cc | inr z ↦ cc ] ];
      };
    }

    set_push : (place : ℕ) (name : NameText) (many : ℕ) (members : List NameText)
        → IsSet (L ++ e ∷ []) place name many members
        ↔ (((length L ≡ place) × (CreateDsdSet set count listed ≡ CreateDsdSet name many members))
        ⊎ IsSet L place name many members)
    set_push place name many members =
        let M : List Entry → Entry → Type 0 = λ before x. (length before ≡ place)
        × (x.command ≡ CreateDsdSet name many members) in
        let U : Entry → Type 0 = λ x. x.command ≡ DeleteDsdSet name in (
          λ h. elim ((in_force_push M U L e).0 h) [ inl m ↦ inl m | inr k ↦ inr k.0 ],
          λ h. (in_force_push M U L e).1 (elim h [ inl m ↦ inl m | inr k ↦ inr (k, λ u. cc) ]),
        )

    its_members : (r : NameText) → Contains listed r ↔ InMask p.roles (mask_of p.roles listed) r
    its_members r = let k = in_mask_of p.roles st.roles.unique st.roles.places listed known r in
        (λ c. k.1 c, λ m. k.0 m)

    its_row : (place : ℕ) (name : NameText) (many : ℕ) (members : List NameText) → length L ≡ place
        → CreateDsdSet set count listed ≡ CreateDsdSet name many members
        → IsRowOf p.roles place name many members coming
    its_row place name many members at is =
        let a : set ≡ name = cc in
        let b : count ≡ many = cc in
        let c : listed ≡ members = cc in
        record {
          name = a;
          number = b;
          made = at;
          members = λ r. subst
              (λ xs. Contains xs r ↔ InMask p.roles (mask_of p.roles listed) r) c (its_members r);
        }

    sets_after : SetRows p.roles (p.sets ++ Some coming ∷ []) (L ++ e ∷ [])
    sets_after = record {
      listed = λ place name many members h. elim ((set_push place name many members).0 h) [
        | inl m ↦
            record {
              at = length p.sets;
              value = coming;
              there = get_last p.sets (Some coming);
              fact = its_row place name many members m.0 m.1;
            }
        | inr k ↦ let h = st.sets.listed place name many members k in
            record {
              at = h.at;
              value = h.value;
              there = front_slot p.sets (Some coming) h.at h.value h.there;
              fact = h.fact;
            }
      ];
      made = λ at x there. elim (get_push p.sets (Some coming) (Some x) at there) [
        | inl old ↦ let m = st.sets.made at x old.1 in (m.0, (set_push x.place x.name x.count m.0).1 (inr m.1), m.2)
        | inr new ↦
            subst (λ (z : DsdSet). (members : List NameText) × IsSet (L ++ e ∷ []) z.place z.name z.count members
            × IsRowOf p.roles z.place z.name z.count members z) (same_Some coming x new.1) (
              listed,
              (set_push (length L) set count listed).1 (inl (refl, refl)),
              its_row (length L) set count listed refl refl,
            )
      ];
    }

    after_creation : (o : Option Violation) → o ≡ first_violation p.juniors (p.sessions ++ None ∷ [])
        (p.sets ++ Some coming ∷ []) → Tells (L ++ e ∷ []) o
    after_creation o is = shown_violation p.roles p.juniors (p.sets ++ Some coming ∷ []) (p.sessions ++ None ∷ [])
        (L ++ e ∷ []) (untouched_roles p.roles p.juniors L e refl st.roles) (rows_after e quiet) sets_after o is

  pub after_set : (by : Option ℕ) (set : NameText) (count : ℕ) (listed : List NameText)
      → ((r : NameText) → Contains listed r → (q : ℕ) × At p.roles q r)
      → (o : Option Violation) → o ≡ first_violation p.juniors (p.sessions ++ None ∷ [])
      (p.sets ++ Some (record { name = set; count = count; roles = mask_of p.roles listed; place = p.version }) ∷ [])
      → Tells (L ++ record { session = by; command = CreateDsdSet set count listed } ∷ []) o
  after_set by set count listed known o is =
      let row = λ (k : ℕ). let z : DsdSet =
      record { name = set; count = count; roles = mask_of p.roles listed; place = k } in z in
      after_creation by set count listed known o
      (is ∙ ap (λ k. first_violation p.juniors (p.sessions ++ None ∷ []) (p.sets ++ Some (row k) ∷ [])) st.version)
