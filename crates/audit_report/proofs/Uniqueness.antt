-- Journals have one finding at most, and none where there is nothing to find; want of memory aside.
use Rattle.std.proofs.Common.{◌≡◌, ◌⊎◌, ◌∙◌, ℕ, zero, suc, ◌+◌, ◌<◌, List, [], ◌∷◌, ◌++◌, length, take, inl, inr, refl}
use Rattle.std.proofs.Common.{sym, ap, subst, arith}
use Rattle.std.specs.Prelude.{Some, slice_get}
use Rattle.std.proofs.lemmas.Bool.{cases_order}
use Rattle.std.proofs.lemmas.Option.{same_Some, slice_get_within}
use Rattle.rbac_policy.specs.declared.commands.Entry.{Entry}
use Rattle.rbac_policy.specs.Opening.{opening_entries}
use Rattle.rbac_policy.proofs.Steps.{get_last}
use Rattle.rbac_admin.specs.PolicyLists.{IsPolicyList}
use Rattle.reactor_core.specs.Meaning.{asked}
use Rattle.reactor_core.specs.declared.entry.SlotEntry.{SlotEntry}
use Rattle.access_core.specs.declared.command.SlotCommand.{SlotCommand}
use Rattle.access_core.specs.declared.refusal.Refusal.{Refusal}
use Rattle.access_core.specs.declared.refusal.Refusal.TheVariants as refusal
use Rattle.access_core.specs.declared.reply.Reply.{Reply}
use Rattle.access_core.specs.declared.reply.Reply.TheVariants as reply
use Rattle.access_core.specs.Needs.{IsAccepted}
use Rattle.access_core.specs.declared.command.SlotCommand.TheVariants.{Move}
use Rattle.access_core.specs.Journals.{Adds, IsLegalEntry, IsLegal}
use Rattle.access_core.specs.Refusals.{code_of}
use Rattle.access_core.specs.SlotStep.{SlotStep}
use Rattle.audit_report.specs.declared.finding.Finding.{Finding}
use Rattle.audit_report.specs.declared.finding.Finding.TheVariants.{Policy, Version, Refused, Reaction, Memory}
use Rattle.audit_report.specs.Findings.{IsFirstWrong, IsRefusedWith, ReactsOtherwise, IsFirstAt, FindsVersion}
use Rattle.audit_report.specs.Findings.{AtItsVersion, IsFirstOfSlot, IsFirstInSlots, IsFirst, HaveNoFinding}
use Rattle.audit_report.specs.Replaying.{IsRightAt}

-- a command on a slot has one answer (a law of access_core)
abbrev pub OneSlotAnswer : Type 0
OneSlotAnswer =
    (entries : List Entry) (slot session : ℕ) (command : SlotCommand) (before : List SlotEntry) (r s : Reply)
    (a b : List SlotEntry)
    → SlotStep entries slot session command before r a → SlotStep entries slot session command before s b
    → ¬ (r ≡ reply.Refused refusal.Memory) → ¬ (s ≡ reply.Refused refusal.Memory) → (r ≡ s) × (a ≡ b)

-- the first place that lacks a property is one
first_place : (P : ℕ → Type 0) (a b : ℕ) → ((k : ℕ) → k < a → P k) → (P a → ⊥) → ((k : ℕ) → k < b → P k) → (P b → ⊥)
    → a ≡ b
first_place P a b before wrong earlier other = elim (cases_order a b) [
  | inl same ↦ same
  | inr apart ↦ elim apart [ inl low ↦ absurd (wrong (earlier a low)) | inr high ↦ absurd (other (before b high)) ]
]

-- ---- the policy list

get_front : (xs ys : List Entry) (at : ℕ) → at < length xs → slice_get (xs ++ ys) at ≡ slice_get xs at
get_front [] ys at low = absurd (omega (arith, low))
get_front (x ∷ xs) ys zero low = refl
get_front (x ∷ xs) ys (suc at) low = get_front xs ys at (omega (arith, low))

-- each place of a policy list is right
right_everywhere : (entries : List Entry) → IsPolicyList entries → (at : ℕ) → IsRightAt entries at
right_everywhere entries list at = record {
  opens = λ low. ap (λ (es : List Entry). slice_get es at) (sym list.opens.is)
      ∙ get_front opening_entries list.opens.rest at low;
  accepted = λ entry late there. list.accepted at entry late there;
}

same_wrong : (entries : List Entry) (place other : ℕ) → IsFirstWrong entries place → IsFirstWrong entries other
    → place ≡ other
same_wrong entries place other x y =
    x.counted ∙ ap (λ k. k + 1) (first_place (IsRightAt entries) x.at y.at x.before x.wrong y.before y.wrong)
    ∙ sym y.counted

-- ---- one entry of a slot

same_refusal : (a b : Refusal) → reply.Refused a ≡ reply.Refused b → a ≡ b
same_refusal a b e = cc

same_last : (before : List SlotEntry) (x y : SlotEntry) → before ++ x ∷ [] ≡ before ++ y ∷ [] → x ≡ y
same_last before x y e =
    same_Some x y
    (sym (get_last before x) ∙ ap (λ (es : List SlotEntry). slice_get es (length before)) e ∙ get_last before y)

-- an accepted reply isn't that memory was refused
ample : (r : Reply) → IsAccepted r → r ≡ reply.Refused refusal.Memory → ⊥
ample r is e = subst IsAccepted e is

module _ (answers : OneSlotAnswer) (judged : List Entry) (slot : ℕ) (before : List SlotEntry) (e : SlotEntry) where
  told : (given : Refusal) → ¬ (given ≡ refusal.Memory) → reply.Refused given ≡ reply.Refused refusal.Memory → ⊥
  told given enough same = enough (same_refusal given refusal.Memory same)

  -- a command isn't both refused and accepted
  refused_or_added : (code : ℕ) (added : SlotEntry) → IsRefusedWith judged slot before e code
      → Adds judged slot before e added → ⊥
  refused_or_added code added x y =
      let same = answers judged slot e.stamp.session (Move (asked e.done)) before (reply.Refused x.given) y.reply before
      (before ++ added ∷ [])
      x.step y.step (told x.given x.ample) (ample y.reply y.accepted) in
      subst IsAccepted (sym same.0) y.accepted

  -- it is refused with one number
  one_code : (code other : ℕ) → IsRefusedWith judged slot before e code → IsRefusedWith judged slot before e other
      → code ≡ other
  one_code code other x y =
      let same = answers judged slot e.stamp.session (Move (asked e.done)) before (reply.Refused x.given)
      (reply.Refused y.given) before before
      x.step y.step (told x.given x.ample) (told y.given y.ample) in
      x.numbered ∙ ap code_of (same_refusal x.given y.given same.0) ∙ sym y.numbered

  -- and adds one entry
  one_added : (x y : SlotEntry) → Adds judged slot before e x → Adds judged slot before e y → x ≡ y
  one_added x y a b =
      let same = answers judged slot e.stamp.session (Move (asked e.done)) before a.reply b.reply (before ++ x ∷ [])
      (before ++ y ∷ [])
      a.step b.step (ample a.reply a.accepted) (ample b.reply b.accepted) in
      same_last before x y same.1

-- ---- one slot

module _ (answers : OneSlotAnswer) (entries : List Entry) (slot : ℕ) where
  -- what is found of an entry that isn't legal
  abbrev Found : Type 1
  Found = (before : List SlotEntry) → SlotEntry → Type 0

  abbrev Refutes : Found → Type 0
  Refutes Finds = (before : List SlotEntry) (e : SlotEntry) → Finds before e → IsLegalEntry entries slot before e → ⊥

  abbrev WithCode : (code : ℕ) → Found
  WithCode code = AtItsVersion entries (λ judged before e. IsRefusedWith judged slot before e code)

  abbrev Otherwise : Found
  Otherwise = AtItsVersion entries (λ judged before e. ReactsOtherwise judged slot before e)

  version_refutes : Refutes (FindsVersion entries)
  version_refutes before e found legal = found legal.version

  code_refutes : (code : ℕ) → Refutes (WithCode code)
  code_refutes code before e found legal = refused_or_added answers
      (take e.stamp.version entries) slot before e code e found.1 legal.added

  reaction_refutes : Refutes Otherwise
  reaction_refutes before e found legal =
      found.1.other
      (one_added answers (take e.stamp.version entries) slot before e found.1.added e found.1.adds legal.added)

  module _ (journal : List SlotEntry) where
    -- the entry at this place, if there is one, is legal
    abbrev LegalAt : ℕ → Type 0
    LegalAt at = (e : SlotEntry) → slice_get journal at ≡ Some e → IsLegalEntry entries slot (take at journal) e

    not_there : (place : ℕ) (Finds : Found) → Refutes Finds → (x : IsFirstAt entries slot journal place Finds)
        → LegalAt x.at → ⊥
    not_there place Finds refutes x legal = refutes (take x.at journal) x.entry x.finds (legal x.entry x.there)

    -- two first findings are of one place, and of one entry
    record AreTogether (place other : ℕ) (Finds Also : Found) : Type 0 where
      places : place ≡ other
      before : List SlotEntry
      entry : SlotEntry
      one : Finds before entry
      two : Also before entry

    together : (place other : ℕ) (Finds Also : Found) → Refutes Finds → Refutes Also
        → IsFirstAt entries slot journal place Finds
        → IsFirstAt entries slot journal other Also → AreTogether place other Finds Also
    together place other Finds Also refutes rebuts x y =
        let at : x.at ≡ y.at =
        first_place LegalAt x.at y.at (λ k low e there. x.before k e low there) (not_there place Finds refutes x)
        (λ k low e there. y.before k e low there) (not_there other Also rebuts y) in
        let entry : y.entry ≡ x.entry = same_Some y.entry x.entry
        (sym y.there ∙ ap (slice_get journal) (sym at) ∙ x.there) in
        record {
          places = x.counted ∙ ap (λ k. k + 1) at ∙ sym y.counted;
          before = take x.at journal;
          entry = x.entry;
          one = x.finds;
          two = subst (λ (e : SlotEntry). Also (take x.at journal) e) entry
              (subst (λ k. Also (take k journal) y.entry) (sym at) y.finds);
        }

    -- the first finding of a journal is one
    one_of_slot : (f g : Finding) → IsFirstOfSlot entries slot journal f → IsFirstOfSlot entries slot journal g
        → (f ≡ Memory → ⊥) → (g ≡ Memory → ⊥) → f ≡ g
    one_of_slot (Version n p) (Version m q) x y enough too =
        let t = together p q _ _ version_refutes version_refutes x.1 y.1 in
        ap (λ k. Version k p) (x.0 ∙ sym y.0) ∙ ap (Version m) t.places
    one_of_slot (Version n p) (Refused m q c) x y enough too =
        let t = together p q _ _ version_refutes (code_refutes c) x.1 y.1 in
        absurd (t.one t.two.0)
    one_of_slot (Version n p) (Reaction m q) x y enough too =
        let t = together p q _ _ version_refutes reaction_refutes x.1 y.1 in
        absurd (t.one t.two.0)
    one_of_slot (Refused n p c) (Version m q) x y enough too =
        let t = together p q _ _ (code_refutes c) version_refutes x.1 y.1 in
        absurd (t.two t.one.0)
    one_of_slot (Refused n p c) (Refused m q d) x y enough too =
        let t = together p q _ _ (code_refutes c) (code_refutes d) x.1 y.1 in
        let codes : c ≡ d = one_code answers (take t.entry.stamp.version entries) slot t.before t.entry c d t.one.1
        t.two.1 in
        ap (λ k. Refused k p c) (x.0 ∙ sym y.0) ∙ ap (λ k. Refused m k c) t.places ∙ ap (Refused m q) codes
    one_of_slot (Refused n p c) (Reaction m q) x y enough too =
        let t = together p q _ _ (code_refutes c) reaction_refutes x.1 y.1 in
        absurd (refused_or_added answers (take t.entry.stamp.version entries) slot t.before t.entry c t.two.1.added
        t.one.1 t.two.1.adds)
    one_of_slot (Reaction n p) (Version m q) x y enough too =
        let t = together p q _ _ reaction_refutes version_refutes x.1 y.1 in
        absurd (t.two t.one.0)
    one_of_slot (Reaction n p) (Refused m q c) x y enough too =
        let t = together p q _ _ reaction_refutes (code_refutes c) x.1 y.1 in
        absurd (refused_or_added answers (take t.entry.stamp.version entries) slot t.before t.entry c t.one.1.added
        t.two.1 t.one.1.adds)
    one_of_slot (Reaction n p) (Reaction m q) x y enough too =
        let t = together p q _ _ reaction_refutes reaction_refutes x.1 y.1 in
        ap (λ k. Reaction k p) (x.0 ∙ sym y.0) ∙ ap (Reaction m) t.places
    one_of_slot (Policy p) g x y enough too = absurd x
    one_of_slot Memory g x y enough too = absurd (enough refl)
    one_of_slot (Version n p) (Policy q) x y enough too = absurd y
    one_of_slot (Refused n p c) (Policy q) x y enough too = absurd y
    one_of_slot (Reaction n p) (Policy q) x y enough too = absurd y
    one_of_slot (Version n p) Memory x y enough too = absurd (too refl)
    one_of_slot (Refused n p c) Memory x y enough too = absurd (too refl)
    one_of_slot (Reaction n p) Memory x y enough too = absurd (too refl)

    found_in : (place : ℕ) (Finds : Found) → Refutes Finds → IsFirstAt entries slot journal place Finds
        → IsLegal entries slot journal → ⊥
    found_in place Finds refutes x legal =
        not_there place Finds refutes x (λ e there. legal x.at e (slice_get_within journal x.at e there) there)

    -- a journal of which something is found isn't legal
    not_legal : (f : Finding) → IsFirstOfSlot entries slot journal f → (f ≡ Memory → ⊥) → IsLegal entries slot journal
        → ⊥
    not_legal (Policy p) x enough legal = x
    not_legal (Version n p) x enough legal = found_in p _ version_refutes x.1 legal
    not_legal (Refused n p c) x enough legal = found_in p _ (code_refutes c) x.1 legal
    not_legal (Reaction n p) x enough legal = found_in p _ reaction_refutes x.1 legal
    not_legal Memory x enough legal = enough refl

-- ---- all journals

module _ (answers : OneSlotAnswer) (entries : List Entry) (slots : List (List SlotEntry)) where
  -- a finding is one of the policy list, or one of a slot
  record InSlot (f : Finding) : Type 0 where
    slot : ℕ
    finds : IsFirstInSlots entries slots slot f

  where_found : (f : Finding) → IsFirst entries slots f → (f ≡ Memory → ⊥)
      → ((place : ℕ) × (f ≡ Policy place) × IsFirstWrong entries place) ⊎ InSlot f
  where_found (Policy p) x enough = inl (p, refl, x)
  where_found (Version n p) x enough = inr (record { slot = n; finds = x })
  where_found (Refused n p c) x enough = inr (record { slot = n; finds = x })
  where_found (Reaction n p) x enough = inr (record { slot = n; finds = x })
  where_found Memory x enough = absurd (enough refl)

  module _ (f g : Finding) (enough : f ≡ Memory → ⊥) (too : g ≡ Memory → ⊥) where
    in_slots : InSlot f → InSlot g → f ≡ g
    in_slots x y = elim (cases_order x.slot y.slot) [
      | inl same ↦
          let here : slice_get slots x.slot ≡ Some y.finds.journal = ap (slice_get slots) same ∙ y.finds.there in
          let journal : y.finds.journal ≡ x.finds.journal =
          same_Some y.finds.journal x.finds.journal (sym here ∙ x.finds.there) in
          let other : IsFirstOfSlot entries x.slot x.finds.journal g =
          subst (λ (j : List SlotEntry). IsFirstOfSlot entries x.slot j g) journal
          (subst (λ k. IsFirstOfSlot entries k y.finds.journal g) (sym same) y.finds.finds) in
          one_of_slot answers entries x.slot x.finds.journal f g x.finds.finds other enough too
      | inr apart ↦ elim apart [
        | inl low ↦
            absurd (not_legal answers entries x.slot x.finds.journal f x.finds.finds enough
            (y.finds.earlier x.slot x.finds.journal low x.finds.there))
        | inr high ↦
            absurd (not_legal answers entries y.slot y.finds.journal g y.finds.finds too
            (x.finds.earlier y.slot y.finds.journal high y.finds.there))
      ]
    ]

    -- journals have one finding at most
    pub one_finding : IsFirst entries slots f → IsFirst entries slots g → f ≡ g
    one_finding x y = elim (where_found f x enough) [
      | inl p ↦ elim (where_found g y too) [
        | inl q ↦ p.1 ∙ ap Policy (same_wrong entries p.0 q.0 p.2 q.2) ∙ sym q.1
        | inr s ↦ absurd (p.2.wrong (right_everywhere entries s.finds.policy p.2.at))
      ]
      | inr r ↦ elim (where_found g y too) [
        | inl q ↦ absurd (q.2.wrong (right_everywhere entries r.finds.policy q.2.at))
        | inr s ↦ in_slots r s
      ]
    ]

  -- where there is nothing to find, there is no finding
  nothing_found : (f : Finding) → (f ≡ Memory → ⊥) → HaveNoFinding entries slots → IsFirst entries slots f → ⊥
  nothing_found f enough none x = elim (where_found f x enough) [
    | inl p ↦ p.2.wrong (right_everywhere entries none.policy p.2.at)
    | inr s ↦
        not_legal answers entries s.slot s.finds.journal f s.finds.finds enough
        (none.journals s.slot s.finds.journal s.finds.there)
  ]

  pub only_memory : (f : Finding) → HaveNoFinding entries slots → IsFirst entries slots f → f ≡ Memory
  only_memory (Policy p) none x = absurd (nothing_found (Policy p) (λ same. absurd cc) none x)
  only_memory (Version n p) none x = absurd (nothing_found (Version n p) (λ same. absurd cc) none x)
  only_memory (Refused n p c) none x = absurd (nothing_found (Refused n p c) (λ same. absurd cc) none x)
  only_memory (Reaction n p) none x = absurd (nothing_found (Reaction n p) (λ same. absurd cc) none x)
  only_memory Memory none x = refl
