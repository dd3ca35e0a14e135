-- Walking the declarations of an interface in order.
use Rattle.std.proofs.Common.{◌≡◌, ℕ, ◌+◌, ◌<◌, ◌≤◌, true, false, List, [], ◌∷◌, ◌++◌, length, get_or, drop, map}
use Rattle.std.proofs.Common.{refl, sym, ◌∙◌, append_assoc, append-nil}
use Rattle.std.proofs.lemmas.List.{map-append, drop_all, drop_more}
use Rattle.serde_json.specs.Data.{Data, string}
use Rattle.serde_json.specs.View.{view}
use Rattle.serde_json.specs.declared.value.Value.{Value}
use Rattle.est_kernel.specs.Bits.{bits}
use Rattle.est_kernel.specs.declared.interface.Declaration.{Declaration}
use Rattle.lab_lines.specs.FoundJson.{names_from}

-- a signal that is in the set is named, and then the later ones
pub names_there : (ds : List Declaration) (place : ℕ) (d : Declaration) (signals : ℕ) → place < length ds
    → bits signals place ≡ true
    → names_from place (drop place ds) signals
    ≡ string (get_or ds place d).name ∷ names_from (place + 1) (drop (place + 1) ds) signals
names_there ds place d signals within on =
    rw (drop_more ds place d within) (rw on refl)

-- one that is not is passed over
pub names_later : (ds : List Declaration) (place : ℕ) (d : Declaration) (signals : ℕ) → place < length ds
    → bits signals place ≡ false
    → names_from place (drop place ds) signals ≡ names_from (place + 1) (drop (place + 1) ds) signals
names_later ds place d signals within off =
    rw (drop_more ds place d within) (rw off refl)

-- one name more, before those that are left
pub one_more : (vs ws : List Value) (v : Value) (name : List ℕ) (left later : List Data) → ws ≡ vs ++ v ∷ []
    → view v ≡ string name → left ≡ string name ∷ later → map view ws ++ later ≡ map view vs ++ left
one_more vs ws v name left later grown is more =
    rw (grown, map-append view vs (v ∷ []), more, is) (append_assoc (map view vs) (string name ∷ []) later)

-- no name is left after the last declaration
pub none_left : (ds : List Declaration) (place : ℕ) (vs : List Value) (signals : ℕ) (all : List Data)
    → length ds ≤ place → map view vs ++ names_from place (drop place ds) signals ≡ all → map view vs ≡ all
none_left ds place vs signals all past e = sym (append-nil (map view vs)) ∙ (rw (drop_all place ds past) at e)
