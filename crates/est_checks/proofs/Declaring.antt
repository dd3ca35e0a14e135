-- Names that are declared a second time, along lists of the code.
use Rattle.std.proofs.Common.{◌≡◌, ℕ, suc, ◌<◌, List, Option, Some, None, refl, ap, sym, ◌∙◌, map}
use Rattle.std.proofs.Common.{length, get_or, take, drop, ◌||◌, ◌+◌}
use Rattle.std.proofs.Math.Seq.{drop-cons}
use Rattle.std.proofs.lemmas.List.Folds.{list_any_more}
use Rattle.std.specs.Str.{bytes_eq}
use Rattle.est_modules.specs.Visible.{stands_in}
use Rattle.std.specs.Option.{option_or}
use Rattle.est_modules.specs.Modules.{program_of}
use Rattle.est_modules.proofs.Lists.{any_map, more}
use Rattle.est_checks.specs.Duplicates.{duplicate_of, duplicate_after}
use Rattle.est_modules.specs.declared.library_modules.LibraryModule.{LibraryModule}

-- ---- modules of a library

abbrev pub module_name : LibraryModule → List ℕ
module_name h = h.name

abbrev pub modules_left : List LibraryModule → ℕ → Option (List ℕ)
modules_left hs i = duplicate_after (map module_name (take i hs)) (map program_of (drop i hs))

next_module : (hs : List LibraryModule) (i j : ℕ) (d : LibraryModule) → i < length hs → j ≡ suc i
    → modules_left hs i ≡ option_or (duplicate_of (map module_name (take i hs)) (program_of (get_or hs i d)))
    (modules_left hs j)
next_module hs i j d lt next =
    let h = get_or hs i d in
    let seen = map module_name (take i hs) in
    ap (λ ys. duplicate_after seen (map program_of ys)) (drop-cons hs i d lt)
    ∙ ap (λ k. option_or (duplicate_of seen (program_of h)) (duplicate_after k (map program_of (drop (suc i) hs))))
    (more module_name hs i j d lt next)
    ∙ ap (λ k. option_or (duplicate_of seen (program_of h))
    (duplicate_after (map module_name (take j hs)) (map program_of (drop k hs)))) (sym next)

pub module_found : (hs : List LibraryModule) (i : ℕ) (d : LibraryModule) {n : List ℕ} → i < length hs
    → Some n ≡ duplicate_of (map module_name (take i hs)) (program_of (get_or hs i d)) → Some n ≡ modules_left hs i
module_found hs i d lt e =
    sym (next_module hs i (suc i) d lt refl ∙ ap (λ o. option_or o (modules_left hs (suc i))) (sym e))

pub module_passed : (hs : List LibraryModule) (i j : ℕ) (d : LibraryModule) → i < length hs → j ≡ suc i
    → None ≡ duplicate_of (map module_name (take i hs)) (program_of (get_or hs i d))
    → modules_left hs i ≡ modules_left hs j
module_passed hs i j d lt next e = next_module hs i j d lt next ∙ ap (λ o. option_or o (modules_left hs j)) (sym e)

-- the names of the first modules, and that of one more
pub names_next : (hs : List LibraryModule) (k : ℕ) (d : LibraryModule) (s : List ℕ) → d ≡ get_or hs k d → k < length hs
    → (stands_in (map module_name (take k hs)) s || bytes_eq d.name s)
    ≡ stands_in (map module_name (take (k + 1) hs)) s
names_next hs k d s at lt =
    ap (λ (h : LibraryModule). stands_in (map module_name (take k hs)) s || bytes_eq h.name s) at
    ∙ ap (λ b. b || bytes_eq (get_or hs k d).name s) (any_map (λ (m : List ℕ). bytes_eq m s) module_name (take k hs))
    ∙ sym (any_map (λ (m : List ℕ). bytes_eq m s) module_name (take (k + 1) hs)
    ∙ list_any_more (λ (h : LibraryModule). bytes_eq (module_name h) s) hs k d lt)
