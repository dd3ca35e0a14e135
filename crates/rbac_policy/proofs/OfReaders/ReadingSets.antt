-- What the readers of separation sets say of the list of entries.
use Rattle.std.proofs.Common.{◌≡◌, ℕ, ◌↔◌, List, cond, sym, ◌∙◌, ap, refl, subst, true, false, Bool, IsTrue, arith}
use Rattle.std.specs.Prelude.{slice_get, Option, Some, None, Contains, ◌==◌}
use Rattle.std.specs.List.{list_any}
use Rattle.std.specs.Int.{bit_at}
use Rattle.std.proofs.lemmas.Bool.{false≢true}
use Rattle.std.proofs.lemmas.Bool.Decides.{Decides-eqb}
use Rattle.std.proofs.lemmas.Slice.Eq.{bytes_eq-Decides}
use Rattle.std.proofs.lemmas.Option.{same_Some}
use Rattle.std.proofs.lemmas.Map.Keys.{any_passes_from_place}
use Rattle.rbac_policy.specs.declared.commands.Entry.{Entry}
use Rattle.rbac_policy.specs.declared.rows.DsdSet.{DsdSet}
use Rattle.rbac_policy.specs.declared.policy.Policy.{Policy}
use Rattle.rbac_policy.specs.Names.{NameText}
use Rattle.rbac_closure.specs.Sets.{Has}
use Rattle.rbac_policy.specs.Facts.{IsSet, IsSetName}
use Rattle.rbac_policy.specs.Separation.{IsFirstSetOf}
use Rattle.rbac_policy.specs.Inner.SetTables.{set_is, set_with, place_of_row, first_set_with}
use Rattle.rbac_policy.specs.Tables.{At, place_of}
use Rattle.rbac_policy.specs.StandsFor.{StandsFor}
use Rattle.rbac_policy.proofs.Asking.{reflects, no_role}
use Rattle.rbac_policy.proofs.OfGrants.Granting.{some_passes}
use Rattle.rbac_policy.proofs.OfReaders.ReadingRoles.{in_mask, mask_role}
use Rattle.rbac_policy.proofs.OfSlots.Least.{Judged, Stands, judged}

-- the slot of a set that has the role
record Member (sets : List (Option DsdSet)) (place : ℕ) (row : DsdSet) : Type 0 where
  at : ℕ
  there : At sets at row
  bit : Has row.roles place

slot_member : (sets : List (Option DsdSet)) (place at : ℕ) (slot : Option DsdSet) (row : DsdSet)
    → slice_get sets at ≡ Some slot → set_with place slot ≡ Some row → Member sets place row
slot_member sets place at None row there gives = cc
slot_member sets place at (Some x) row there gives = by_test (bit_at x.roles place == 1) refl where
  by_test : (b : Bool) → (bit_at x.roles place == 1) ≡ b → Member sets place row
  by_test true e =
      let same : x ≡ row = same_Some x row (sym (ap (λ b. cond b (Some x) None) e) ∙ gives) in
      subst (Member sets place) same
      (record { at = at; there = there; bit = (Decides-eqb (bit_at x.roles place) 1).0 e })
  by_test false e = cc (sym (ap (λ b. cond b (Some x) None) e) ∙ gives)

member_slot : (place : ℕ) (row : DsdSet) → Has row.roles place → set_with place (Some row) ≡ Some row
member_slot place row bit = ap (λ b. cond b (Some row) None) ((Decides-eqb (bit_at row.roles place) 1).1 bit)

-- the first of them
least_row : (sets : List (Option DsdSet)) (place : ℕ) → Judged {Y = Option DsdSet} {R = DsdSet} place_of_row
    (set_with place) (Stands place_of_row (set_with place) sets) (first_set_with place sets)
unfolding first_set_with
least_row sets place = judged place_of_row (set_with place) sets

module _ (p : Policy) (L : List Entry) (st : StandsFor p L) where
  pub set_test : (s : NameText) (b : Bool) → b ≡ list_any (set_is s) p.sets → IsTrue b ↔ IsSetName L s
  set_test s b is = reflects b (IsSetName L s)
      (λ t. let f = some_passes (set_is s) p.sets (sym is ∙ t) in made f.at f.value f.there f.test)
      (λ t h. let k = st.sets.listed h.place s h.count h.roles h.is_set in
      false≢true
      (sym t ∙ is ∙ any_passes_from_place (set_is s) p.sets k.at (Some k.value) k.there
      ((bytes_eq-Decides k.value.name s).1 k.fact.name))) where
        made : (at : ℕ) (o : Option DsdSet) → slice_get p.sets at ≡ Some o → set_is s o ≡ true → IsSetName L s
        made at None there t = absurd (false≢true t)
        made at (Some x) there t =
            let m = st.sets.made at x there in
            subst (IsSetName L) ((bytes_eq-Decides x.name s).0 t)
            (record { place = x.place; count = x.count; roles = m.0; is_set = m.1 })

  module _ (r : NameText) (place : ℕ) (found : place_of r p.roles ≡ Some place) where
    -- a set of which the role is a member has a row with its bit
    row_of_set : (at : ℕ) (set : NameText) (count : ℕ) (members : List NameText) → IsSet L at set count members
        → Contains members r
        → (k : ℕ) × (row : DsdSet) × At p.sets k row × (row.place ≡ at) × Has row.roles place
    row_of_set at set count members is member =
        let h = st.sets.listed at set count members is in (
          h.at,
          h.value,
          h.there,
          h.fact.made,
          (in_mask p L st r h.value.roles place found).0
              ((h.fact.members r).0 member),
        )

    pub first_row : (row : DsdSet) → first_set_with place p.sets ≡ Some row → IsFirstSetOf L r row.name
    first_row row is =
        let least =
        subst (Judged {Y = Option DsdSet} {R = DsdSet} place_of_row (set_with place)
        (Stands place_of_row (set_with place) p.sets)) is (least_row p.sets place) in
        let mine = slot_member p.sets place least.is_seen.0 least.from row least.is_seen.1 least.gives in
        let m = st.sets.made mine.at row mine.there in
        record {
          place = row.place;
          count = row.count;
          roles = m.0;
          is_set = m.1;
          member = (m.2.members r).1 ((in_mask p L st r row.roles place found).1 mine.bit);
          first = λ earlier other number members low other_set member.
              let k = row_of_set earlier other number members other_set member in
              let not_less = least.least (Some k.1) k.1 (k.0, k.2) (member_slot place k.1 k.4) in
              omega (arith, low, not_less, k.3);
        }

    pub no_row : first_set_with place p.sets ≡ None → (set : NameText) → IsFirstSetOf L r set → ⊥
    no_row is set f =
        let none =
        subst (Judged {Y = Option DsdSet} {R = DsdSet} place_of_row (set_with place)
        (Stands place_of_row (set_with place) p.sets)) is (least_row p.sets place) in
        let k = row_of_set f.place set f.count f.roles f.is_set f.member in
        none (Some k.1) k.1 (k.0, k.2) (member_slot place k.1 k.4)

  pub no_row_of : (r : NameText) → place_of r p.roles ≡ None → (set : NameText) → IsFirstSetOf L r set → ⊥
  no_row_of r none set f =
      let h = st.sets.listed f.place set f.count f.roles f.is_set in
      no_role p L st r none (mask_role p L st r h.value.roles ((h.fact.members r).0 f.member))
