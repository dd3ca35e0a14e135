-- Whether a module runs in a slot is one fact of its journal, and so is what is shown of an instant.
use Rattle.std.proofs.Common.{◌≡◌, ℕ, ◌-◌, Bool, true, false, ◌&&◌, ◌||◌, List, [], ◌∷◌, length, map, filter, refl, ap}
use Rattle.std.proofs.Common.{◌∙◌, subst, inl, inr, arith, bit_and, bit_or}
use Rattle.std.proofs.lemmas.Option.{slice_get_within}
use Rattle.est_kernel.specs.Bits.{bits}
use Rattle.est_kernel.proofs.Masks.{bits_or, bits_and}
use Rattle.est_kernel.specs.declared.interface.Declaration.{Declaration}
use Rattle.rbac_policy.specs.declared.commands.Entry.{Entry}
use Rattle.reactor_core.specs.declared.entry.PastInstant.{PastInstant}
use Rattle.reactor_core.specs.declared.entry.SlotEntry.{SlotEntry}
use Rattle.reactor_core.specs.declared.reactor.Shown.{Shown}
use Rattle.reactor_core.specs.Meaning.{is_loaded, instants_of, Running, RunsAfter}
use Rattle.reactor_core.specs.Answers.{IsInstant, HasNoInstant, within_mask as masked}
use Rattle.access_core.specs.declared.reply.Reply.TheVariants.{Look}
use Rattle.access_core.specs.declared.reply.ShownSignal.{ShownSignal}
use Rattle.access_core.specs.Shown.{Observes, places_of, present_at, name_at, shown_of}
use Rattle.access_core.specs.SlotStep.{no_instant, Looks}

pub instant_within : (journal : List SlotEntry) (n : ℕ) (i : PastInstant) → IsInstant journal n i
    → HasNoInstant journal n
    → ⊥
instant_within journal n i there (inl zero) = let some = there.counted in omega arith
instant_within journal n i there (inr past) =
    let within = slice_get_within (instants_of journal) (n - 1) i there.there in
    let some = there.counted in omega arith

-- where there is an instant of this number, it is not refused
pub not_no_instant : (journal : List SlotEntry) (n : ℕ) (i : PastInstant) → IsInstant journal n i
    → (no_instant journal n).passes
not_no_instant journal n i there = instant_within journal n i there

-- what two functions make of the places that a test keeps is the same, where they agree on those
same_kept : {X : Type 0} (f g : ℕ → X) (p : ℕ → Bool) → ((place : ℕ) → p place ≡ true → f place ≡ g place)
    → (places : List ℕ) → map f (filter p places) ≡ map g (filter p places)
same_kept f g p agree [] = refl
same_kept f g p agree (place ∷ places) = go (same_kept f g p agree places) (p place) refl where
  go : map f (filter p places) ≡ map g (filter p places) → (b : Bool) → p place ≡ b
      → map f (filter p (place ∷ places)) ≡ map g (filter p (place ∷ places))
  go rest true on = rw on (ap (λ x. x ∷ map f (filter p places)) (agree place on) ∙ ap (λ xs. g place ∷ xs) rest)
  go rest false off = rw off rest

-- what is present within the mask is, where the mask sees, what stands in the inputs or the outputs
present_is : (i : PastInstant) (seen place : ℕ) → bits seen place ≡ true
    → bits (bit_and (bit_or i.inputs i.outputs) seen) place ≡ (bits i.inputs place || bits i.outputs place)
present_is i seen place on =
    bits_and (bit_or i.inputs i.outputs) seen place ∙ ap (λ b. bits (bit_or i.inputs i.outputs) place && b) on
    ∙ and_true (bits (bit_or i.inputs i.outputs) place) ∙ bits_or i.inputs i.outputs place where
      and_true : (b : Bool) → (b && true) ≡ b
      and_true true = refl
      and_true false = refl

-- what is shown within the mask of what is seen is what is shown of the instant
shown_is : (interface : List Declaration) (i : PastInstant) (seen : ℕ)
    → map (present_at interface (masked i seen).present) (filter (bits seen) (places_of interface))
    ≡ shown_of interface (bits seen) i
shown_is interface i seen = same_kept _ _ (bits seen)
    (λ place on. ap (λ b. let s : ShownSignal = record { name = name_at interface place; present = b } in s)
    (present_is i seen place on)) (places_of interface)

-- a look, from what the reactor shows within the mask of what is seen
pub looks_from : (entries : List Entry) (slot session n : ℕ) (journal : List SlotEntry) (r : Running)
    (interface : List Declaration) (i : PastInstant)
    (seen : ℕ) (shown : Shown) (signals : List ShownSignal) (version : ℕ)
    → RunsAfter journal r → interface ≡ r.interface → IsInstant journal n i → shown ≡ masked i seen
    → Observes entries session slot interface (bits seen)
    → signals ≡ map (present_at interface shown.present) (filter (bits shown.mask) (places_of interface))
    → version ≡ length entries
    → Looks entries slot session n journal (Look n signals version) journal
looks_from entries slot session n journal r interface i seen shown signals version runs same there masks observes shows
    judged = record {
      running = r;
      runs = runs;
      instant = i;
      there = there;
      sees = bits seen;
      observes = subst (λ ds. Observes entries session slot ds (bits seen)) same observes;
      replied = ap (λ xs. Look n xs version) (all ∙ ap (λ ds. shown_of ds (bits seen) i) same)
          ∙ ap (λ v. Look n (shown_of r.interface (bits seen) i) v) judged;
      stays = refl;
    } where
      all : signals ≡ shown_of interface (bits seen) i
      all = shows
          ∙ ap (λ (w : Shown). map (present_at interface w.present) (filter (bits w.mask) (places_of interface)))
          masks ∙ shown_is interface i seen
