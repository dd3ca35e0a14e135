-- Modules of one name each.
use Rattle.std.proofs.Common.{◌≡◌, ℕ, zero, suc, List, [], ◌∷◌, ◌++◌, Bool, true, false, cond, if◌then◌else◌, Option}
use Rattle.std.proofs.Common.{Some, None, refl, ap, sym, ◌∙◌}
use Rattle.std.proofs.lemmas.Option.{none-some}
use Rattle.std.proofs.lemmas.List.Folds.{list_any-append}
use Rattle.std.specs.List.{slice_get}
use Rattle.std.specs.Str.{bytes_eq}
use Rattle.std.proofs.lemmas.Bool.{or_parts}
use Rattle.est_modules.specs.Visible.{stands_in}
use Rattle.est_checks.specs.Duplicates.{duplicate_of, duplicate_after, redeclared_in}
use Rattle.est_modules.specs.Modules.{Program, program_named}
use Rattle.est_modules.proofs.Testing.{or_none_parts, some_same, equal_bytes}

unseen : (b : Bool) (n : List ℕ) (o : Option (List ℕ)) → (if b then Some n else o) ≡ None → b ≡ false
unseen true n o h = absurd (none-some n (sym h))
unseen false n o h = refl

pub not_seen : (seen : List (List ℕ)) (ps : List Program) → duplicate_after seen ps ≡ None → (i : ℕ) (p : Program)
    → slice_get ps i ≡ Some p → stands_in seen p.name ≡ false
not_seen seen [] h i p at = absurd (none-some p at)
not_seen seen (q ∷ qs) h zero p at =
    ap (λ (r : Program). stands_in seen r.name) (sym (some_same q p at))
    ∙ unseen (stands_in seen q.name) q.name (redeclared_in q)
    (or_none_parts (duplicate_of seen q) (duplicate_after (seen ++ q.name ∷ []) qs) h).0
not_seen seen (q ∷ qs) h (suc i) p at =
    let later =
    not_seen (seen ++ q.name ∷ []) qs
    (or_none_parts (duplicate_of seen q) (duplicate_after (seen ++ q.name ∷ []) qs) h).1 i p at in
    (or_parts (stands_in seen p.name) _ (sym (list_any-append (λ n. bytes_eq n p.name) seen (q.name ∷ [])) ∙ later)).0

named_here : (b : Bool) (q : Program) (o : Option Program) → b ≡ true → cond b (Some q) o ≡ Some q
named_here b q o h = ap (λ b. cond b (Some q) o) h

-- each module is the first of its name
pub first_of_name : (seen : List (List ℕ)) (ps : List Program) → duplicate_after seen ps ≡ None → (i : ℕ) (p : Program)
    → slice_get ps i ≡ Some p → program_named ps p.name ≡ Some p
first_of_name seen [] h i p at = absurd (none-some p at)
first_of_name seen (q ∷ qs) h zero p at =
    let same = some_same q p at in
    ap (λ (r : Program). program_named (q ∷ qs) r.name) (sym same)
    ∙ named_here (bytes_eq q.name q.name) q (program_named qs q.name) (equal_bytes q.name) ∙ ap Some same
first_of_name seen (q ∷ qs) h (suc i) p at =
    let rest = (or_none_parts (duplicate_of seen q) (duplicate_after (seen ++ q.name ∷ []) qs) h).1 in
    let later = not_seen (seen ++ q.name ∷ []) qs rest i p at in
    let other =
    (or_parts (bytes_eq q.name p.name) false
    ((or_parts (stands_in seen p.name) _
    (sym (list_any-append (λ n. bytes_eq n p.name) seen (q.name ∷ [])) ∙ later)).1)).0 in
    ap (λ b. cond b (Some q) (program_named qs p.name)) other ∙ first_of_name (seen ++ q.name ∷ []) qs rest i p at
