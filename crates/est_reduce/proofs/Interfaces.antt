-- Interfaces, copied a declaration at a time.
use Rattle.std.proofs.Common.{◌≡◌, ◌<◌, ℕ, zero, suc, Bool, true, false, ◌||◌, List, [], ◌∷◌, length, take, get_or}
use Rattle.std.proofs.Common.{refl, sym, ◌∙◌, ◌≤◌, arith}
use Rattle.std.proofs.lemmas.Bool.{false≢true, or_from}
use Rattle.std.specs.Str.{bytes_eq}
use Rattle.std.specs.List.{IsDistinct, AllByRecursion, list_any}
use Rattle.est_kernel.specs.Interfaces.{is_named, HasDistinctNames}
use Rattle.est_kernel.specs.declared.interface.Declaration.{Declaration}

apart_at : (d : Declaration) (ds : List Declaration) (n : ℕ) (e : Declaration)
    → AllByRecursion (λ z. bytes_eq d.name z.name ≡ false) ds
    → n < length ds → bytes_eq d.name (get_or ds n e).name ≡ false
apart_at d [] n e a h = absurd (omega arith)
apart_at d (z ∷ zs) zero e a h = a.0
apart_at d (z ∷ zs) (suc n) e a h = apart_at d zs n e a.1 (omega arith)

-- none of those before a declaration has its name
pub new_before : (ds : List Declaration) (n : ℕ) (e : Declaration) → HasDistinctNames ds → n < length ds
    → list_any (is_named (get_or ds n e).name) (take n ds) ≡ false
unfolding IsDistinct
new_before [] n e h k = absurd (omega arith)
new_before (d ∷ ds) zero e h k = refl
new_before (d ∷ ds) (suc n) e h k = or_from _ _ (apart_at d ds n e h.0 (omega arith))
    (new_before ds n e h.1 (omega arith))
