-- What is pending is what was offered and not taken away since.
use Rattle.std.proofs.Common.{◌≡◌, ◌⊎◌, ◌↔◌, ◌∙◌, ℕ, ◌^◌, Bool, true, false, List, [], ◌∷◌, ◌++◌, Option, Some, None}
use Rattle.std.proofs.Common.{refl, ap, sym, subst, inl, inr, ◌||◌}
use Rattle.std.specs.List.{AllByRecursion}
use Rattle.std.proofs.lemmas.Bool.{eq-eqb, or_right}
use Rattle.est_kernel.specs.Bits.{bits}
use Rattle.est_kernel.specs.declared.interface.Declaration.{Declaration}
use Rattle.est_kernel.proofs.Masks.{bits_or, bits_pow}
use Rattle.est_kernel.specs.Term.{Term}
use Rattle.est_relations.specs.Offers.{place_of}
use Rattle.reactor_core.specs.declared.entry.Stamp.{Stamp}
use Rattle.reactor_core.specs.Meaning.{PastMove}
use Rattle.reactor_core.specs.declared.entry.Move.TheVariants.{Load, Offer, Discard, Step, Unload}
use Rattle.reactor_core.specs.declared.entry.SlotEntry.{SlotEntry}
use Rattle.reactor_core.specs.Meaning.{entry, after_all, offers_after, offers_of, with_signal, mask_of, Running}
use Rattle.reactor_core.specs.Meaning.{RunsAfter}
use Rattle.reactor_core.specs.Instants.{AddsInstant}
use Rattle.reactor_core.specs.Offers.{KeepsOffers, IsOffered, IsOfferedAt, TakesOffers}
use Rattle.reactor_core.proofs.Steps.{no_bits, with_bits}

-- the name is one of these
abbrev Among : List ℕ → List (List ℕ) → Type 0
Among name [] = ⊥
Among name (n ∷ names) = (n ≡ name) ⊎ Among name names

-- all these entries are offers
abbrev AreOffers : List SlotEntry → Type 0
AreOffers entries = AllByRecursion (λ e. KeepsOffers e.done) entries

-- ---- the names

-- what was offered in the later entries was offered in all of them
one_earlier : (e : SlotEntry) (later : List SlotEntry) (name : List ℕ) → IsOffered later name
    → IsOffered (e ∷ later) name
one_earlier e later name o = record {
  before = e ∷ o.before;
  stamp = o.stamp;
  later = o.later;
  there = ap (λ (entries : List SlotEntry). e ∷ entries) o.there;
  since = o.since;
}

-- where a name stands after these entries, it stood before them and they are all offers, or they offer it
abbrev Came : List (List ℕ) → List SlotEntry → List ℕ → Type 0
Came names entries name = (Among name names × AreOffers entries) ⊎ IsOffered entries name

-- the same after an entry that takes all offers away
came_anew : (e : SlotEntry) (names : List (List ℕ)) (later : List SlotEntry) (name : List ℕ) → Came [] later name
    → Came names (e ∷ later) name
came_anew e names later name (inl kept) = absurd kept.0
came_anew e names later name (inr o) = inr (one_earlier e later name o)

-- the same after an offer
came_offered : (e : SlotEntry) (m : List ℕ) (names : List (List ℕ)) (later : List SlotEntry) (name : List ℕ)
    → e.done ≡ Offer m
    → Came (m ∷ names) later name → Came names (e ∷ later) name
came_offered e m names later name is (inr o) = inr (one_earlier e later name o)
came_offered e m names later name is (inl kept) = elim kept.0 [
  | inl same ↦ inr (record {
    before = [];
    stamp = e.stamp;
    later = later;
    there = ap (λ (a : PastMove). entry e.stamp a ∷ later) (is ∙ ap Offer same);
    since = kept.1;
  })
  | inr among ↦ inl (among, (subst KeepsOffers (sym is) tt, kept.1))
]

came_after : (e : SlotEntry) (move : PastMove) (names : List (List ℕ)) (later : List SlotEntry) (name : List ℕ)
    → e.done ≡ move
    → Came (offers_after names move) later name → Came names (e ∷ later) name
came_after e (Load l) names later name is h = came_anew e names later name h
came_after e (Offer m) names later name is h = came_offered e m names later name is h
came_after e Discard names later name is h = came_anew e names later name h
came_after e (Step i) names later name is h = came_anew e names later name h
came_after e Unload names later name is h = came_anew e names later name h

came : (names : List (List ℕ)) (entries : List SlotEntry) (name : List ℕ)
    → Among name (after_all offers_after names entries) → Came names entries name
came names [] name h = inl (h, tt)
came names (e ∷ later) name h = came_after e e.done names later name refl
    (came (offers_after names e.done) later name h)

-- what is offered was offered
was_offered : (journal : List SlotEntry) (name : List ℕ) → Among name (offers_of journal) → IsOffered journal name
was_offered journal name h = elim (came [] journal name h) [
  | inl kept ↦ absurd kept.0
  | inr o ↦ o
]

kept_by : (move : PastMove) (names : List (List ℕ)) (name : List ℕ) → KeepsOffers move → Among name names
    → Among name (offers_after names move)
kept_by (Load l) names name keeps h = absurd keeps
kept_by (Offer m) names name keeps h = inr h
kept_by Discard names name keeps h = absurd keeps
kept_by (Step i) names name keeps h = absurd keeps
kept_by Unload names name keeps h = absurd keeps

-- offers keep what was offered before
kept : (names : List (List ℕ)) (entries : List SlotEntry) (name : List ℕ) → AreOffers entries → Among name names
    → Among name (after_all offers_after names entries)
kept names [] name all h = h
kept names (e ∷ later) name all h = kept (offers_after names e.done) later name all.1
    (kept_by e.done names name all.0 h)

after_append : (names : List (List ℕ)) (first later : List SlotEntry)
    → after_all offers_after names (first ++ later) ≡ after_all offers_after (after_all offers_after names first) later
after_append names [] later = refl
after_append names (e ∷ first) later = after_append (offers_after names e.done) first later

-- what was offered is offered
is_offered : (journal : List SlotEntry) (name : List ℕ) → IsOffered journal name → Among name (offers_of journal)
is_offered journal name o =
    let e : SlotEntry = entry o.stamp (Offer name) in
    let whole : offers_of journal ≡ after_all offers_after (name ∷ offers_of o.before) o.later =
    ap offers_of o.there ∙ after_append [] o.before (e ∷ o.later) in
    subst (Among name) (sym whole) (kept (name ∷ offers_of o.before) o.later name o.since (inl refl))

-- ---- the mask

-- a signal that is in the mask of the names
record IsNamed (interface : List Declaration) (names : List (List ℕ)) (place : ℕ) : Type 0 where
  name : List ℕ
  signal : place_of interface name ≡ Some place
  among : Among name names

one_more : (interface : List Declaration) (n : List ℕ) (names : List (List ℕ)) (place : ℕ)
    → IsNamed interface names place → IsNamed interface (n ∷ names) place
one_more interface n names place h = record { name = h.name; signal = h.signal; among = inr h.among }

named_by : (interface : List Declaration) (n : List ℕ) (names : List (List ℕ)) (place : ℕ) (at : Option ℕ)
    → place_of interface n ≡ at
    → (bits (mask_of interface names) place ≡ true → IsNamed interface names place)
    → bits (with_signal (mask_of interface names) at) place ≡ true → IsNamed interface (n ∷ names) place
named_by interface n names place None is later h = one_more interface n names place (later h)
named_by interface n names place (Some k) is later h = elim (with_bits (mask_of interface names) k place h) [
  | inl before ↦ one_more interface n names place (later before)
  | inr same ↦ record { name = n; signal = is ∙ ap Some same; among = inl refl }
]

named : (interface : List Declaration) (names : List (List ℕ)) (place : ℕ) → bits (mask_of interface names) place ≡ true
    → IsNamed interface names place
named interface [] place h = no_bits place h
named interface (n ∷ names) place h = named_by interface n names place (place_of interface n) refl
    (named interface names place) h

still_there : (mask place : ℕ) (at : Option ℕ) → bits mask place ≡ true → bits (with_signal mask at) place ≡ true
still_there mask place None h = h
still_there mask place (Some k) h = bits_or mask (2 ^ k) place ∙ rw h refl

now_there : (mask place : ℕ) → bits (with_signal mask (Some place)) place ≡ true
now_there mask place = bits_or mask (2 ^ place) place ∙ or_right (bits mask place) _
    (bits_pow place place ∙ eq-eqb place place refl)

in_mask : (interface : List Declaration) (names : List (List ℕ)) (place : ℕ) (name : List ℕ)
    → place_of interface name ≡ Some place
    → Among name names → bits (mask_of interface names) place ≡ true
in_mask interface [] place name signal h = absurd h
in_mask interface (n ∷ names) place name signal (inl same) =
    let at : place_of interface n ≡ Some place = ap (place_of interface) same ∙ signal in
    rw at (now_there (mask_of interface names) place)
in_mask interface (n ∷ names) place name signal (inr among) =
    still_there (mask_of interface names) place (place_of interface n) (in_mask interface names place name signal among)

-- ---- the law

pub pending_is_offered : (journal : List SlotEntry) (r : Running) (place : ℕ) → RunsAfter journal r
    → (bits r.pending place ≡ true) ↔ IsOfferedAt journal r.interface place
pending_is_offered journal r place runs = (
  λ on.
      let h = named r.interface (offers_of journal) place (subst (λ mask. bits mask place ≡ true) runs.offered on) in
      record { name = h.name; signal = h.signal; offered = was_offered journal h.name h.among },
  λ (o : IsOfferedAt journal r.interface place). subst (λ mask. bits mask place ≡ true) (sym runs.offered)
      (in_mask r.interface (offers_of journal) place o.name o.signal (is_offered journal o.name o.offered)),
)

pub takes_offers : (before : List SlotEntry) (outputs : ℕ) (next : Term) (stamp : Stamp) (after : List SlotEntry)
    → AddsInstant before outputs next stamp after → TakesOffers before stamp outputs after
takes_offers before outputs next stamp after h = record {
  running = h.outcome.running;
  runs = h.outcome.runs;
  inputs = h.outcome.running.pending;
  added = h.appended;
  exactly = λ place. pending_is_offered before h.outcome.running place h.outcome.runs;
}
