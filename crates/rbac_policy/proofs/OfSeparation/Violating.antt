-- The first violation that the tables show is the first that the entries make.
use Rattle.std.proofs.Common.{◌≡◌, ℕ, ◌≤◌, ◌↔◌, List, length, cond, true, false, Bool, arith, sym, ◌∙◌, ap, refl, subst}
use Rattle.std.proofs.Common.{inl, inr}
use Rattle.std.specs.Prelude.{slice_get, Option, Some, None, Contains}
use Rattle.std.proofs.lemmas.Bool.{false≢true}
use Rattle.std.proofs.lemmas.Bool.Decides.{leb_tells}
use Rattle.std.proofs.lemmas.Option.{same_Some}
use Rattle.rbac_closure.specs.Sets.{Has, common, places_of}
use Rattle.rbac_closure.proofs.SetLemmas.{has_common}
use Rattle.rbac_policy.specs.declared.commands.Entry.{Entry}
use Rattle.rbac_policy.specs.declared.rows.Session.{Session}
use Rattle.rbac_policy.specs.declared.rows.DsdSet.{DsdSet}
use Rattle.rbac_policy.specs.declared.separation.Violation.{Violation}
use Rattle.rbac_policy.specs.Names.{NameText}
use Rattle.rbac_policy.specs.Order.{below}
use Rattle.rbac_policy.specs.Facts.{IsSet, IsLive, IsActive, IsActiveOrBelow, Violates}
use Rattle.rbac_policy.specs.Counting.{HasAtLeast}
use Rattle.rbac_policy.specs.Separation.{IsFirstViolated}
use Rattle.rbac_policy.specs.Tables.{At}
use Rattle.rbac_policy.specs.Inner.Violations.{holds_many, violator, least_violator, violated_by, violation_of}
use Rattle.rbac_policy.specs.Inner.Violations.{place_of_set, first_violation}
use Rattle.rbac_policy.specs.StandsFor.{Holds, InMask, IsNamed, IsRowOf, RolesStand}
use Rattle.rbac_policy.proofs.OfRoles.Below.{below_sound, below_all}
use Rattle.rbac_policy.proofs.OfRoles.Order.{one_role, chain_up, chain_down}
use Rattle.rbac_policy.proofs.OfSeparation.Counted.{as_many_roles, as_many_places}
use Rattle.rbac_policy.proofs.OfSlots.Least.{LeastOf, Judged, Stands, judged}

-- the living sessions and their active roles, in slots of any number
pub record SessionRows (roles : List (Option NameText)) (sessions : List (Option Session))
    (L : List Entry) : Type 0 where
  pub stands : (n : ℕ) → IsLive L n → Holds (λ x. x.number ≡ n) sessions
  pub lives : (at : ℕ) (x : Session) → At sessions at x → IsLive L x.number
  pub active : (at : ℕ) (x : Session) → At sessions at x → (r : NameText)
      → IsActive L x.number r ↔ InMask roles x.active r
  pub named : (at : ℕ) (x : Session) → At sessions at x → IsNamed roles x.active

-- the same, where a slot may hold a part of what is active in its session: another of the session then holds all
pub record SessionParts (roles : List (Option NameText)) (sessions : List (Option Session))
    (L : List Entry) : Type 0 where
  pub whole : (n : ℕ) → IsLive L n
      → Holds (λ x. (x.number ≡ n) × ((r : NameText) → IsActive L n r → InMask roles x.active r)) sessions
  pub lives : (at : ℕ) (x : Session) → At sessions at x → IsLive L x.number
  pub active : (at : ℕ) (x : Session) → At sessions at x → (r : NameText) → InMask roles x.active r
      → IsActive L x.number r
  pub named : (at : ℕ) (x : Session) → At sessions at x → IsNamed roles x.active

-- slots that hold all hold a part
pub parts_of : (roles : List (Option NameText)) (sessions : List (Option Session)) (L : List Entry)
    → SessionRows roles sessions L → SessionParts roles sessions L
parts_of roles sessions L sr = record {
  whole = λ n live.
      let h = sr.stands n live in
      record {
        at = h.at;
        value = h.value;
        there = h.there;
        fact = (h.fact, λ r a. (sr.active h.at h.value h.there r).0 (subst (λ k. IsActive L k r) (sym h.fact) a));
      };
  lives = sr.lives;
  active = λ at x there r. (sr.active at x there r).1;
  named = sr.named;
}

-- the separation sets, in slots of any number
pub record SetRows (roles : List (Option NameText)) (sets : List (Option DsdSet)) (L : List Entry) : Type 0 where
  pub listed : (place : ℕ) (set : NameText) (count : ℕ) (members : List NameText) → IsSet L place set count members
      → Holds (IsRowOf roles place set count members) sets
  pub made : (at : ℕ) (x : DsdSet) → At sets at x → (members : List NameText) × IsSet L x.place x.name x.count members
      × IsRowOf roles x.place x.name x.count members x

weaker : {A : Type 0} (P Q : A → Type 0) (n : ℕ) → ((a : A) → P a → Q a) → HasAtLeast n P → HasAtLeast n Q
weaker P Q n f h =
    record { values = h.values; distinct = h.distinct; have = λ p d within. f _ (h.have p d within); enough = h.enough }

module _ (roles : List (Option NameText)) (juniors : List ℕ) (sets : List (Option DsdSet))
    (sessions : List (Option Session)) (L : List Entry)
    (rs : RolesStand roles juniors L) (sr : SessionParts roles sessions L) (tr : SetRows roles sets L) where
  -- one session and one set
  module _ (at : ℕ) (x : Session) (there : At sessions at x) where
    below_named : (q : ℕ) → Has (below juniors x.active) q → (r : NameText) × At roles q r
    below_named q bit =
        let b = below_sound juniors x.active q bit in
        let top = sr.named at x there b.top b.within in
        let up = chain_up roles juniors L rs b.chain top.0 top.1 in
        (up.0, up.1)

    module _ (d : DsdSet) (place : ℕ) (set : NameText) (count : ℕ) (members : List NameText)
        (row : IsRowOf roles place set count members d) where
      abbrev held : ℕ
      held = common (below juniors x.active) d.roles

      abbrev Held : NameText → Type 0
      Held role = Contains members role × IsActiveOrBelow L x.number role

      -- the slot holds all that is active in its session
      abbrev HoldsAll : Type 0
      HoldsAll = (role : NameText) → IsActive L x.number role → InMask roles x.active role

      in_held : HoldsAll → (role : NameText) → Held role → InMask roles held role
      in_held all role h =
          let b = h.1 in
          let top = all b.active b.is_active in
          let down = chain_down roles juniors L rs b.below top.place top.there in
          let found =
          below_all juniors x.active down.0 (record { top = top.place; within = top.bit; chain = down.2 }) in
          let member = (row.members role).0 h.0 in
          let same = rs.unique member.place down.0 role member.there down.1 in
          record {
            place = down.0;
            there = down.1;
            bit = (has_common (below juniors x.active) d.roles down.0).1
                (found, subst (Has d.roles) same member.bit);
          }

      held_in : (role : NameText) → InMask roles held role → Held role
      held_in role i =
          let bits = (has_common (below juniors x.active) d.roles i.place).0 i.bit in
          let b = below_sound juniors x.active i.place bits.0 in
          let top = sr.named at x there b.top b.within in
          let up = chain_up roles juniors L rs b.chain top.0 top.1 in
          let same = one_role roles i.place up.0 role up.1 i.there in (
            (row.members role).1 (record { place = i.place; there = i.there; bit = bits.1 }),
            subst (λ r. IsActiveOrBelow L x.number r) same (record {
              active = top.0;
              is_active = sr.active at x there top.0 (record { place = b.top; there = top.1; bit = b.within });
              below = up.2;
            }),
          )

      violates : holds_many juniors d x ≡ true → Violates L x.number count members
      violates test =
          let few : d.count ≤ length (places_of held) = elim
          (leb_tells d.count (length (places_of held))) [
            | inl t ↦ t.1
            | inr f ↦
                absurd (false≢true (sym f.0 ∙ test))
          ] in
          let enough = as_many_roles roles rs.unique rs.places held count
          (λ p bit. below_named p ((has_common (below juniors x.active) d.roles p).0 bit).0)
          (omega (arith, few, row.number)) in
          record { lives = sr.lives at x there; many = weaker (InMask roles held) Held count held_in enough }

      shows : HoldsAll → Violates L x.number count members → holds_many juniors d x ≡ true
      shows all v =
          let few = as_many_places roles rs.unique rs.places held count
          (weaker Held (InMask roles held) count (in_held all) v.many) in
          elim (leb_tells d.count (length (places_of held)))
          [ inl t ↦ t.0 | inr f ↦ absurd (omega (arith, f.1, few, row.number)) ]

  -- the session in a slot, if it holds too many roles of the set
  record Holder (d : DsdSet) (n : ℕ) : Type 0 where
    at : ℕ
    row : Session
    there : At sessions at row
    number : row.number ≡ n
    many : holds_many juniors d row ≡ true

  violator_row : (d : DsdSet) (at : ℕ) (slot : Option Session) (n : ℕ) → slice_get sessions at ≡ Some slot
      → violator juniors d slot ≡ Some n → Holder d n
  violator_row d at None n there gives = cc
  violator_row d at (Some x) n there gives = by_test (holds_many juniors d x) refl where
    by_test : (b : Bool) → holds_many juniors d x ≡ b → Holder d n
    by_test true e =
        record {
          at = at;
          row = x;
          there = there;
          number = same_Some x.number n
              (sym (ap (λ b. cond b (Some x.number) None) e) ∙ gives);
          many = e;
        }
    by_test false e = cc (sym (ap (λ b. cond b (Some x.number) None) e) ∙ gives)

  row_violator : (d : DsdSet) (x : Session) → holds_many juniors d x ≡ true
      → violator juniors d (Some x) ≡ Some x.number
  row_violator d x e = ap (λ b. cond b (Some x.number) None) e

  -- the least of them
  least_is : (d : DsdSet) → Judged {Y = Option Session} {R = ℕ} (λ n. n) (violator juniors d)
      (Stands (λ (n : ℕ). n) (violator juniors d) sessions) (least_violator juniors sessions d)
  unfolding least_violator
  least_is d = judged (λ (n : ℕ). n) (violator juniors d) sessions

  abbrev Seen : DsdSet → Option Session → Type 0
  Seen d = Stands (λ (n : ℕ). n) (violator juniors d) sessions

  record LeastHolder (d : DsdSet) (n : ℕ) : Type 0 where
    holder : Holder d n
    least : (at : ℕ) (x : Session) → At sessions at x → holds_many juniors d x ≡ true → n ≤ x.number

  least_holder : (d : DsdSet) (n : ℕ) → least_violator juniors sessions d ≡ Some n → LeastHolder d n
  least_holder d n is =
      let l : LeastOf (λ (n : ℕ). n) (violator juniors d) (Seen d) n =
      subst (Judged (λ (n : ℕ). n) (violator juniors d) (Seen d)) is (least_is d) in
      record {
        holder = violator_row d l.is_seen.0 l.from n l.is_seen.1 l.gives;
        least = λ at x there many. l.least (Some x) x.number (at, there) (row_violator d x many);
      }

  no_holder : (d : DsdSet) → least_violator juniors sessions d ≡ None → (at : ℕ) (x : Session) → At sessions at x
      → holds_many juniors d x ≡ true → ⊥
  no_holder d is at x there many =
      let none : (y : Option Session) (r : ℕ) → Seen d y → violator juniors d y ≡ Some r
      → ⊥ = subst (Judged (λ (n : ℕ). n) (violator juniors d) (Seen d)) is (least_is d) in
      none (Some x) x.number (at, there) (row_violator d x many)

  -- the set in a slot, with the least session that violates it
  record Broken (v : Violation) : Type 0 where
    at : ℕ
    row : DsdSet
    there : At sets at row
    place : row.place ≡ v.place
    name : row.name ≡ v.set
    least : LeastHolder row v.session

  broken_row : (at : ℕ) (slot : Option DsdSet) (v : Violation) → slice_get sets at ≡ Some slot
      → violation_of juniors sessions slot ≡ Some v → Broken v
  broken_row at None v there gives = cc
  broken_row at (Some d) v there gives = by_session (least_violator juniors sessions d) refl where
    by_session : (o : Option ℕ) → least_violator juniors sessions d ≡ o → Broken v
    by_session None e = cc (sym (ap (violated_by d) e) ∙ gives)
    by_session (Some n) e =
        let the : Violation = record { place = d.place; set = d.name; session = n } in
        let same : the ≡ v = same_Some the v (sym (ap (violated_by d) e) ∙ gives) in
        subst Broken same
        (record { at = at; row = d; there = there; place = refl; name = refl; least = least_holder d n e })

  -- a set that a session violates gives a violation of its place
  record Gives (d : DsdSet) : Type 0 where
    violation : Violation
    gives : violation_of juniors sessions (Some d) ≡ Some violation
    place : violation.place ≡ d.place

  row_broken : (d : DsdSet) (at : ℕ) (x : Session) → At sessions at x → holds_many juniors d x ≡ true → Gives d
  row_broken d at x there many = by_session (least_violator juniors sessions d) refl where
    by_session : (o : Option ℕ) → least_violator juniors sessions d ≡ o → Gives d
    by_session None e = absurd (no_holder d e at x there many)
    by_session (Some n) e =
        record {
          violation = record { place = d.place; set = d.name; session = n };
          gives = ap (violated_by d) e;
          place = refl;
        }

  -- what violates a set of the list shows in its row, and in that of the session
  record Shown (place session : ℕ) : Type 0 where
    at : ℕ
    row : DsdSet
    there : At sets at row
    made : row.place ≡ place
    gives : Gives row

  session_row : (session count : ℕ) (members : List NameText) (d : DsdSet) (place : ℕ) (set : NameText)
      → IsRowOf roles place set count members d → Violates L session count members → Holder d session
  session_row session count members d place set row v =
      let s = sr.whole session v.lives in
      record {
        at = s.at;
        row = s.value;
        there = s.there;
        number = s.fact.0;
        many = shows s.at s.value s.there d place set count members row
            (λ r a. s.fact.1 r (subst (λ n. IsActive L n r) s.fact.0 a))
            (subst (λ n. Violates L n count members) (sym s.fact.0) v);
      }

  shown : (place : ℕ) (set : NameText) (count : ℕ) (members : List NameText) (session : ℕ)
      → IsSet L place set count members → Violates L session count members → Shown place session
  shown place set count members session is v =
      let t = tr.listed place set count members is in
      let s = session_row session count members t.value place set t.fact v in
      record {
        at = t.at;
        row = t.value;
        there = t.there;
        made = t.fact.made;
        gives = row_broken t.value s.at s.row s.there s.many;
      }

  first_is : Judged {Y = Option DsdSet} {R = Violation} place_of_set (violation_of juniors sessions)
      (Stands place_of_set (violation_of juniors sessions) sets) (first_violation juniors sessions sets)
  unfolding first_violation
  first_is = judged place_of_set (violation_of juniors sessions) sets

  abbrev SeenSet : Option DsdSet → Type 0
  SeenSet = Stands place_of_set (violation_of juniors sessions) sets

  pub none_violated : first_violation juniors sessions sets ≡ None → (set : NameText) (session : ℕ)
      → IsFirstViolated L set session → ⊥
  none_violated is set session f =
      let none : (y : Option DsdSet) (r : Violation) → SeenSet y → violation_of juniors sessions y ≡ Some r
      → ⊥ = subst (Judged place_of_set (violation_of juniors sessions) SeenSet) is first_is in
      let s = shown f.place set f.count f.roles session f.is_set f.violates in
      none (Some s.row) s.gives.violation (s.at, s.there) s.gives.gives

  pub first_violated : (v : Violation) → first_violation juniors sessions sets ≡ Some v
      → IsFirstViolated L v.set v.session
  first_violated v is =
      let l : LeastOf place_of_set (violation_of juniors sessions) SeenSet v =
      subst (Judged place_of_set (violation_of juniors sessions) SeenSet) is first_is in
      let b = broken_row l.is_seen.0 l.from v l.is_seen.1 l.gives in
      let d = b.row in
      let m = tr.made b.at d b.there in
      let h = b.least.holder in
      record {
        place = d.place;
        count = d.count;
        roles = m.0;
        is_set = subst (λ n. IsSet L d.place n d.count m.0) b.name m.1;
        violates = subst (λ n. Violates L n d.count m.0) h.number
            (violates h.at h.row h.there d d.place d.name d.count m.0 m.2 h.many);
        first = λ earlier other number others before is_other any breaks.
            let s = shown earlier other number others any is_other breaks in
            absurd (omega (
              arith,
              before,
              l.least (Some s.row) s.gives.violation (s.at, s.there) s.gives.gives,
              s.gives.place,
              s.made,
              b.place,
            ));
        least = λ lesser below breaks.
            let s = session_row lesser d.count m.0 d d.place d.name m.2 breaks in
            absurd (omega (arith, below, b.least.least s.at s.row s.there s.many, s.number));
      }
