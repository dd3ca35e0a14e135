-- The table of separation sets after one was created or deleted, and by the names of another table of roles.
use Rattle.std.proofs.Common.{◌≡◌, ℕ, ◌⊎◌, ◌↔◌, List, [], ◌∷◌, ◌++◌, length, map, set, cond, inl, inr, sym, ◌∙◌, ap}
use Rattle.std.proofs.Common.{refl, subst, true, false, Bool}
use Rattle.std.specs.Prelude.{Option, Some, None, Contains, slice_get}
use Rattle.std.specs.Str.{bytes_eq}
use Rattle.std.proofs.lemmas.Slice.Eq.{bytes_eq-Decides}
use Rattle.std.proofs.lemmas.Bool.{false≢true}
use Rattle.std.proofs.lemmas.Option.{same_Some}
use Rattle.std.proofs.lemmas.List.{length-map, length-set}
use Rattle.rbac_policy.specs.declared.sizes.TheConstants.{ROLES}
use Rattle.rbac_policy.specs.declared.commands.AdminCommand.TheVariants.{CreateDsdSet, DeleteDsdSet}
use Rattle.rbac_policy.specs.declared.commands.Entry.{Entry}
use Rattle.rbac_policy.specs.declared.rows.DsdSet.{DsdSet}
use Rattle.rbac_policy.specs.Names.{NameText}
use Rattle.rbac_policy.specs.Facts.{IsSet, IsSetName}
use Rattle.rbac_policy.specs.Tables.{At, mask_of, set_without}
use Rattle.rbac_policy.specs.StandsFor.{InMask, IsNamed, IsRowOf, SetsStand}
use Rattle.rbac_policy.proofs.Steps.{in_force_push}
use Rattle.rbac_policy.proofs.Untouched.{through}
use Rattle.rbac_policy.proofs.OfGrants.Granting.{flip}
use Rattle.rbac_policy.proofs.OfSlots.Slots.{get_set_same, get_set_other, mapped, map_at, written, Free}
use Rattle.rbac_policy.proofs.OfRoles.Listed.{in_mask_of, named_mask_of}

-- the masks of the sets say the same by the names of another table
pub renamed_sets : (before after : List (Option NameText)) (sets : List (Option DsdSet)) (L : List Entry)
    → ((at : ℕ) (x : DsdSet) → At sets at x → (r : NameText) → InMask before x.roles r ↔ InMask after x.roles r)
    → ((at : ℕ) (x : DsdSet) → At sets at x → IsNamed after x.roles) → SetsStand before sets L → SetsStand after sets L
renamed_sets before after sets L same named s = record {
  listed = λ place name count members h.
      let k = s.listed place name count members h in
      let f = k.fact in
      record {
        at = k.at;
        value = k.value;
        there = k.there;
        fact = record {
          name = f.name;
          number = f.number;
          made = f.made;
          members = λ r. through (f.members r) (same k.at k.value k.there r);
        };
      };
  made = λ at x there.
      let m = s.made at x there in
      let f = m.2 in (
        m.0,
        m.1,
        record {
          name = f.name;
          number = f.number;
          made = f.made;
          members = λ r. through (f.members r) (same at x there r);
        },
      );
  named = named;
  unique = s.unique;
  places = s.places;
}

module _ (roles : List (Option NameText)) (unique : (p q : ℕ) (r : NameText) → At roles p r → At roles q r → p ≡ q)
    (many : length roles ≡ ROLES) (sets : List (Option DsdSet)) (L : List Entry) (s : Option ℕ) (n0 : NameText)
    (ss : SetsStand roles sets L) where
  module _ (c0 : ℕ) (listed0 : List NameText) (known : (r : NameText) → Contains listed0 r → (p : ℕ) × At roles p r)
      (absent : IsSetName L n0 → ⊥) (i : ℕ) (fr : Free sets i) where
    abbrev pub the_creation : Entry
    the_creation = record { session = s; command = CreateDsdSet n0 c0 listed0 }

    abbrev pub the_set : DsdSet
    the_set = record { name = n0; count = c0; roles = mask_of roles listed0; place = length L }

    made_push : (place : ℕ) (name : NameText) (count : ℕ) (members : List NameText)
        → IsSet (L ++ the_creation ∷ []) place name count members
        ↔ (((length L ≡ place) × (CreateDsdSet n0 c0 listed0 ≡ CreateDsdSet name count members))
        ⊎ IsSet L place name count members)
    made_push place name count members =
        let M : List Entry → Entry → Type 0 = λ before e. (length before ≡ place)
        × (e.command ≡ CreateDsdSet name count members) in
        let U : Entry → Type 0 = λ e. e.command ≡ DeleteDsdSet name in (
          λ h. elim ((in_force_push M U L the_creation).0 h) [ inl m ↦ inl m | inr k ↦ inr k.0 ],
          λ h. (in_force_push M U L the_creation).1 (elim h [ inl m ↦ inl m | inr k ↦ inr (k, λ u. cc) ]),
        )

    its_members : (r : NameText) → Contains listed0 r ↔ InMask roles (mask_of roles listed0) r
    its_members r = flip (in_mask_of roles unique many listed0 known r)

    old_place : (at : ℕ) (x : DsdSet) → At sets at x → At (set sets i (Some the_set)) at x
    old_place at x there = get_set_other sets i at (Some the_set)
        (λ e. cc (fr.empty, subst (λ k. slice_get sets k ≡ Some (Some x)) e there)) ∙ there

    its_row : (place : ℕ) (name : NameText) (count : ℕ) (members : List NameText) → length L ≡ place
        → CreateDsdSet n0 c0 listed0 ≡ CreateDsdSet name count members → IsRowOf roles place name count members the_set
    its_row place name count members at is =
        let a : n0 ≡ name = cc in
        let b : c0 ≡ count = cc in
        let c : listed0 ≡ members = cc in
        record {
          name = a;
          number = b;
          made = at;
          members = λ r. subst
              (λ xs. Contains xs r ↔ InMask roles (mask_of roles listed0) r) c (its_members r);
        }

    another : (at : ℕ) (x : DsdSet) → At sets at x → n0 ≡ x.name → ⊥
    another at x there same =
        let m = ss.made at x there in
        absent (record {
          place = x.place;
          count = x.count;
          roles = m.0;
          is_set = subst (λ v. IsSet L x.place v x.count m.0) (sym same) m.1;
        })

    pub created : SetsStand roles (set sets i (Some the_set)) (L ++ the_creation ∷ [])
    created = record {
      listed = λ place name count members h. elim ((made_push place name count members).0 h) [
        | inl m ↦
            record {
              at = i;
              value = the_set;
              there = get_set_same sets i (Some the_set) fr.within;
              fact = its_row place name count members m.0 m.1;
            }
        | inr k ↦ let h = ss.listed place name count members k in
            record { at = h.at; value = h.value; there = old_place h.at h.value h.there; fact = h.fact }
      ];
      made = λ at x there. elim (written sets i at the_set x fr.within there) [
        | inl q ↦
            subst (λ (z : DsdSet). (members : List NameText) × IsSet
            (L ++ the_creation ∷ []) z.place z.name z.count members × IsRowOf roles z.place z.name z.count members z)
            q.1 (
              listed0,
              (made_push (length L) n0 c0 listed0).1 (inl (refl, refl)),
              its_row (length L) n0 c0 listed0 refl refl,
            )
        | inr old ↦ let m = ss.made at x old in (m.0, (made_push x.place x.name x.count m.0).1 (inr m.1), m.2)
      ];
      named = λ at x there. elim (written sets i at the_set x fr.within there) [
        | inl q ↦ subst (λ (z : DsdSet). IsNamed roles z.roles) q.1 (named_mask_of roles unique many listed0 known)
        | inr old ↦ ss.named at x old
      ];
      unique = λ p q x y a b same. elim (written sets i p the_set x fr.within a) [
        | inl u ↦ elim (written sets i q the_set y fr.within b) [
          | inl v ↦ u.0 ∙ sym v.0
          | inr old ↦ absurd (another q y old (ap (λ (z : DsdSet). z.name) u.1 ∙ same))
        ]
        | inr mine ↦ elim (written sets i q the_set y fr.within b) [
          | inl v ↦ absurd (another p x mine (ap (λ (z : DsdSet). z.name) v.1 ∙ sym same))
          | inr old ↦ ss.unique p q x y mine old same
        ]
      ];
      places = length-set sets i (Some the_set) ∙ ss.places;
    }

  abbrev pub the_removal : Entry
  the_removal = record { session = s; command = DeleteDsdSet n0 }

  gone_push : (place : ℕ) (name : NameText) (count : ℕ) (members : List NameText)
      → IsSet (L ++ the_removal ∷ []) place name count members ↔ (IsSet L place name count members × (n0 ≡ name → ⊥))
  gone_push place name count members =
      let M : List Entry → Entry → Type 0 = λ before e. (length before ≡ place)
      × (e.command ≡ CreateDsdSet name count members) in
      let U : Entry → Type 0 = λ e. e.command ≡ DeleteDsdSet name in (
        λ h. elim ((in_force_push M U L the_removal).0 h) [
          | inl m ↦ (let x = m.1 in cc)
          | inr k ↦
              (k.0, λ same. k.1 (ap DeleteDsdSet same))
        ],
        λ h. (in_force_push M U L the_removal).1 (inr (h.0, λ u. h.1 cc)),
      )

  left : (x y : DsdSet) → set_without n0 (Some x) ≡ Some y → (x ≡ y) × (n0 ≡ x.name → ⊥)
  left x y gives = by_test (bytes_eq x.name n0) refl where
    by_test : (b : Bool) → bytes_eq x.name n0 ≡ b → (x ≡ y) × (n0 ≡ x.name → ⊥)
    by_test true e = cc (ap (λ b. cond b None (Some x)) e, gives)
    by_test false e = (
      same_Some x y (sym (ap (λ b. cond b None (Some x)) e) ∙ gives),
      λ same. false≢true (sym e ∙ (bytes_eq-Decides x.name n0).1 (sym same)),
    )

  stays : (x : DsdSet) → (n0 ≡ x.name → ⊥) → set_without n0 (Some x) ≡ Some x
  stays x differs = by_test (bytes_eq x.name n0) refl where
    by_test : (b : Bool) → bytes_eq x.name n0 ≡ b → set_without n0 (Some x) ≡ Some x
    by_test true e = absurd (differs (sym ((bytes_eq-Decides x.name n0).0 e)))
    by_test false e = ap (λ b. cond b None (Some x)) e

  before_removal : (at : ℕ) (y : DsdSet) → At (map (set_without n0) sets) at y → At sets at y × (n0 ≡ y.name → ⊥)
  before_removal at y there =
      let m = mapped (set_without n0) sets at y refl there in
      let k = left m.value y m.gives in
      (subst (At sets at) k.0 m.there, λ same. k.1 (same ∙ sym (ap (λ (z : DsdSet). z.name) k.0)))

  pub removed : SetsStand roles (map (set_without n0) sets) (L ++ the_removal ∷ [])
  removed = record {
    listed = λ place name count members h.
        let g = (gone_push place name count members).0 h in
        let k = ss.listed place name count members g.0 in
        record {
          at = k.at;
          value = k.value;
          there = map_at (set_without n0) sets k.at k.value k.value k.there
              (stays k.value (λ same. g.1 (same ∙ k.fact.name)));
          fact = k.fact;
        };
    made = λ at x there.
        let old = before_removal at x there in
        let m = ss.made at x old.0 in
        (m.0, (gone_push x.place x.name x.count m.0).1 (m.1, old.1), m.2);
    named = λ at x there. ss.named at x (before_removal at x there).0;
    unique = λ p q x y a b same. ss.unique p q x y (before_removal p x a).0 (before_removal q y b).0 same;
    places = length-map sets (set_without n0) ∙ ss.places;
  }
