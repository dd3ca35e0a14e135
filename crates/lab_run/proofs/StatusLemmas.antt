-- Lists of verdicts, as values and as what they stand for.
use Rattle.std.proofs.Common.{◌≡◌, ◌||◌, ◌&&◌, List, [], ◌∷◌, Bool, refl, ap}
use Rattle.std.specs.List.{list_all, list_any}
use Rattle.serde_json.specs.Data.{Data}
use Rattle.serde_json.specs.View.{items_view, view}
use Rattle.serde_json.specs.declared.value.Value.{Value}
use Rattle.lab_run.specs.Statuses.{all_items, any_item}

-- a test of what values stand for, and of their items
pub any_of_views : (p : Data → Bool) (vs : List Value) → list_any (λ v. p (view v)) vs ≡ any_item p (items_view vs)
any_of_views p [] = refl
any_of_views p (v ∷ vs) = ap (λ x. p (view v) || x) (any_of_views p vs)

pub all_of_views : (p : Data → Bool) (vs : List Value) → list_all (λ v. p (view v)) vs ≡ all_items p (items_view vs)
all_of_views p [] = refl
all_of_views p (v ∷ vs) = ap (λ x. p (view v) && x) (all_of_views p vs)
