-- Emissions by runs.
use Rattle.std.proofs.Common.{◌≡◌, inl, inr, ◌&&◌, ℕ, List, [], Bool, true, false, cond, map, filter, Option, Some}
use Rattle.std.proofs.Common.{None, option_map, refl, ap, sym, ◌∙◌}
use Rattle.std.proofs.lemmas.Bool.{cases_Bool}
use Rattle.std.specs.List.{find, slice_get}
use Rattle.std.specs.Str.{bytes_eq}
use Rattle.est_syntax.specs.Tree.{RenamingTree}
use Rattle.est_modules.specs.Occurrences.{Binder}
use Rattle.est_modules.specs.Modules.{Program, program_named, is_declared}
use Rattle.est_modules.specs.NamedNumbers.{Tells}
use Rattle.est_modules.specs.NumberSets.{numbers_of}
use Rattle.est_modules.specs.Visible.{stands_in}
use Rattle.est_modules.specs.declared.names.table.NameTable.{NameTable}
use Rattle.est_modules.specs.declared.names.set.NumberSet.{NumberSet}
use Rattle.est_modules.specs.Renamings.{renamed}
use Rattle.est_modules.specs.NameSets.{has}
use Rattle.est_modules.specs.declared.names.set.NameSet.{NameSet}
use Rattle.est_modules.specs.declared.interface.Declared.{Declared}
use Rattle.est_modules.proofs.Lists.{any_map}
use Rattle.est_modules.proofs.TellingNumbers.{passes_none, passes_same}
use Rattle.est_modules.proofs.Testing.{same_bytes, some_same}
use Rattle.est_checks.specs.Duplicates.{first_duplicate}
use Rattle.est_checks.specs.Emissions.{emitted_in, is_refused_in_run, refused_in_run}
use Rattle.est_checks.specs.Inner.EmittedNumbers.{has_number, emits_number, AreEmittedNumbers}
use Rattle.est_checks.specs.declared.emitted_numbers.EmittedNumbers.{EmittedNumbers}
use Rattle.est_checks.proofs.Leaving.{stands_left}
use Rattle.est_checks.proofs.OneName.{first_of_name}

pub signal_found : (emitted : List ℕ → List ℕ → Bool) (p : Program) (bs : List Binder) (rs : List RenamingTree)
    (m : List ℕ) (q : Program) (d : Declared) {n : List ℕ}
    → Some d ≡ find (λ (d : Declared). is_refused_in_run emitted p bs rs m d.name) q.interface → n ≡ renamed rs d.name
    → Some n ≡ refused_in_run emitted p bs rs m (Some q)
signal_found emitted p bs rs m q d e h = ap Some h ∙ ap (option_map (λ (d : Declared). renamed rs d.name)) e

-- what a table says of a module to which signals were given, or of another
pub said_by : (b : Bool) (new : NameSet) (old : Option NameSet) (s : List ℕ)
    → emitted_in (cond b (Some new) old) s ≡ cond b (has new s) (emitted_in old s)
said_by true new old s = refl
said_by false new old s = refl

-- the same of numbers
pub numbers_by : (b : Bool) (new : NumberSet) (old : Option NumberSet) (i : ℕ)
    → has_number (cond b (Some new) old) i ≡ cond b (numbers_of new i) (has_number old i)
numbers_by true new old i = refl
numbers_by false new old i = refl

-- the numbers of one more module
pub emitted_more : (t : NameTable) (ps : List Program) (p : Program) (place : ℕ) (f g : List ℕ → List ℕ → Bool)
    (old new : EmittedNumbers) (signals : NameSet) (numbers : NumberSet) → first_duplicate ps ≡ None
    → slice_get ps place ≡ Some p
    → Tells t (stands_in (filter (has signals) (map (λ (d : Declared). d.name) p.interface))) numbers
    → ((m s : List ℕ) → g m s ≡ cond (bytes_eq p.name m) (has signals s) (f m s))
    → ((m : List ℕ) (i : ℕ) → emits_number new m i
    ≡ cond (bytes_eq p.name m) (numbers_of numbers i) (emits_number old m i))
    → AreEmittedNumbers t ps f old → AreEmittedNumbers t ps g new
emitted_more t ps p place f g old new signals numbers distinct at tells emitted put are m q found i =
    let name = slice_get t.names.items i in
    let own = λ (s : List ℕ). g m s && is_declared q.interface s in
    elim (cases_Bool (bytes_eq p.name m)) [
      | inl same ↦
          let is_q : p ≡ q = some_same p q
          (sym (first_of_name [] ps distinct place p at) ∙ ap (program_named ps) (same_bytes p.name m same) ∙ found) in
          let names = map (λ (d : Declared). d.name) p.interface in
          put m i ∙ ap (λ b. cond b (numbers_of numbers i) (emits_number old m i)) same ∙ tells i
          ∙ passes_same (stands_in (filter (has signals) names)) own name (λ s.
          stands_left (has signals) names s
          ∙ ap (λ b. has signals s && b) (any_map (λ n. bytes_eq n s) (λ (d : Declared). d.name) p.interface)
          ∙ ap (λ b. b && is_declared p.interface s)
          (sym (emitted m s ∙ ap (λ b. cond b (has signals s) (f m s)) same))
          ∙ ap (λ (r : Program). g m s && is_declared r.interface s) is_q)
      | inr other ↦
          put m i ∙ ap (λ b. cond b (numbers_of numbers i) (emits_number old m i)) other ∙ are m q found i
          ∙ passes_same (λ s. f m s && is_declared q.interface s) own name (λ s.
          ap (λ b. b && is_declared q.interface s)
          (sym (emitted m s ∙ ap (λ b. cond b (has signals s) (f m s)) other)))
    ]

-- before the first module nothing is emitted
pub none_emitted : (t : NameTable) (ps : List Program) (f : List ℕ → List ℕ → Bool) (n : EmittedNumbers)
    → ((m s : List ℕ) → f m s ≡ false) → ((m : List ℕ) (i : ℕ) → emits_number n m i ≡ false)
    → AreEmittedNumbers t ps f n
none_emitted t ps f n none no_number m q found i =
    let name = slice_get t.names.items i in
    no_number m i ∙ passes_none name
    ∙ passes_same (λ s. false) (λ s. f m s && is_declared q.interface s) name
    (λ s. sym (ap (λ b. b && is_declared q.interface s) (none m s)))
