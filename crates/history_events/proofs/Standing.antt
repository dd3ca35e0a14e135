-- Which names stand in a set of signals.
use Rattle.std.proofs.Common.{◌≡◌, ◌⊎◌, ◌↔◌, ℕ, Bool, true, false, ◌||◌, List, refl, sym, ◌∙◌, ap, inl, inr, get_or}
use Rattle.std.specs.Prelude.{Some, nat_eq, bit_or, ◌^◌}
use Rattle.std.proofs.lemmas.Bool.{false≢true, or_right as second}
use Rattle.std.proofs.lemmas.Bool.Decides.{Decides-eqb}
use Rattle.std.proofs.lemmas.Slice.Eq.{bytes_eq-Decides}
use Rattle.std.proofs.lemmas.List.Quantifiers.{position-Some}
use Rattle.est_kernel.specs.Bits.{bits}
use Rattle.est_kernel.specs.Interfaces.{is_named}
use Rattle.est_kernel.specs.declared.interface.Declaration.{Declaration}
use Rattle.est_kernel.specs.declared.interface.Kind.TheVariants.{Input}
use Rattle.est_kernel.proofs.Masks.{bits_or, bits_pow, bits_zero}
use Rattle.est_relations.specs.Offers.{place_of}
use Rattle.est_relations.proofs.Members.{or_true}
use Rattle.reactor_core.specs.Meaning.{with_signal}
use Rattle.history_events.specs.Entering.{StandsIn}

-- two signals at one place have one name
pub one_name : (ds : List Declaration) (a b : List ℕ) (place : ℕ) → place_of ds a ≡ Some place
    → place_of ds b ≡ Some place → a ≡ b
one_name ds a b place one other =
    let d : Declaration = record { name = a; kind = Input } in
    let first = position-Some (is_named a) ds place d one in
    let second = position-Some (is_named b) ds place d other in
    sym ((bytes_eq-Decides (get_or ds place d).name a).0 first.1)
    ∙ (bytes_eq-Decides (get_or ds place d).name b).0 second.1

-- what stands after an offer: what stood before, and what was offered
pub offered_stands : (ds : List Declaration) (pending : ℕ) (signal name : List ℕ) (place : ℕ)
    → place_of ds signal ≡ Some place
    → (StandsIn ds (with_signal pending (place_of ds signal)) name ↔ ((signal ≡ name) ⊎ StandsIn ds pending name))
offered_stands ds pending signal name place there =
    let mask : with_signal pending (place_of ds signal) ≡ bit_or pending (2 ^ place) = ap (with_signal pending) there in
    let has : (q : ℕ) → bits (with_signal pending (place_of ds signal)) q ≡ (bits pending q || nat_eq place q) =
    λ q. ap (λ m. bits m q) mask
    ∙ (bits_or pending (2 ^ place) q ∙ ap (λ b. bits pending q || b) (bits_pow place q)) in (
      λ h. elim (or_true (bits pending h.place) (nat_eq place h.place) (sym (has h.place) ∙ h.set)) [
        | inl old ↦ inr (record { place = h.place; there = h.there; set = old })
        | inr new ↦
            inl (one_name ds signal name place there (h.there ∙ ap Some (sym ((Decides-eqb place h.place).0 new))))
      ],
      λ h. elim h [
        | inl same ↦ record {
          place = place;
          there = ap (place_of ds) (sym same) ∙ there;
          set = has place ∙ second (bits pending place) (nat_eq place place) ((Decides-eqb place place).1 refl);
        }
        | inr old ↦
            record {
              place = old.place;
              there = old.there;
              set = has old.place
                  ∙ ap (λ b. b || nat_eq place old.place) old.set;
            }
      ],
    )

-- nothing stands in the empty set
pub none_stands : (ds : List Declaration) (pending : ℕ) (name : List ℕ) → pending ≡ 0 → StandsIn ds pending name → ⊥
none_stands ds pending name none h =
    false≢true (sym (bits_zero h.place) ∙ (ap (λ m. bits m h.place) (sym none) ∙ h.set))
