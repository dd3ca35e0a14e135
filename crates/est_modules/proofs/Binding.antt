-- Names that acts bind.
use Rattle.std.proofs.Common.{◌≡◌, ℕ, List, [], ◌∷◌, ◌++◌, true, ◌∙◌}
use Rattle.std.proofs.lemmas.List.Folds.{list_any-append}
use Rattle.std.specs.List.{fold}
use Rattle.std.specs.Str.{bytes_eq}
use Rattle.std.proofs.lemmas.Bool.{or_left}
use Rattle.est_modules.specs.Inner.BoundNames.{bound_by}
use Rattle.est_modules.specs.Occurrences.{Occurrence}
use Rattle.est_modules.specs.Visible.{stands_in}

-- a name that stands in a list stands there when those of acts have been added
pub still_bound : (os : List Occurrence) (names : List (List ℕ)) (s : List ℕ) → stands_in names s ≡ true
    → stands_in (fold (λ (ns : List (List ℕ)) (o : Occurrence). ns ++ bound_by o.act) names os) s ≡ true
still_bound [] names s h = h
still_bound (o ∷ os) names s h =
    still_bound os (names ++ bound_by o.act) s
    (list_any-append (λ m. bytes_eq m s) names (bound_by o.act)
    ∙ or_left (stands_in names s) (stands_in (bound_by o.act) s) h)
