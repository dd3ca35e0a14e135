-- One more verdict at the end of those that are told.
use Rattle.std.proofs.Common.{◌≡◌, ℕ, ◌+◌, ◌<◌, List, [], ◌∷◌, ◌++◌, length, get_or, map, take}
use Rattle.std.proofs.lemmas.List.{map-append, take_more}
use Rattle.serde_json.specs.Data.{Data}
use Rattle.serde_json.specs.View.{view}
use Rattle.serde_json.specs.declared.value.Value.{Value}
use Rattle.est_kernel.specs.declared.statement.Test.{Test}
use Rattle.est_explore.specs.Runs.{Module}
use Rattle.lab_lines.specs.Exploring.{IsTestTold, AreTold}
use Rattle.lab_lines.specs.Tests.{test_of}
use Rattle.lab_lines.specs.declared.asked_test.AskedTest.{AskedTest}

-- the tests so far are told, and so is one more
pub told_more : (m : Module) (states steps : ℕ) (ts : List Test) (ds : List Data) (t : Test) (d : Data)
    → AreTold m states steps ts ds → IsTestTold m states steps t d
    → AreTold m states steps (ts ++ t ∷ []) (ds ++ d ∷ [])
told_more m states steps [] [] t d are is = (is, tt)
told_more m states steps [] (y ∷ ds) t d are is = absurd are
told_more m states steps (x ∷ ts) [] t d are is = absurd are
told_more m states steps (x ∷ ts) (y ∷ ds) t d are is = (are.0, told_more m states steps ts ds t d are.1 is)

-- the same where a loop takes the next test
pub told_next : (m : Module) (states steps : ℕ) (xs : List AskedTest) (i : ℕ) (x : AskedTest) (vs ws : List Value)
    (v : Value) → i < length xs → x ≡ get_or xs i x → ws ≡ vs ++ v ∷ []
    → AreTold m states steps (map test_of (take i xs)) (map view vs) → IsTestTold m states steps (test_of x) (view v)
    → AreTold m states steps (map test_of (take (i + 1) xs)) (map view ws)
told_next m states steps xs i x vs ws v within at grown are is =
    rw (take_more xs i x within, ← at, grown, map-append test_of (take i xs) (x ∷ []), map-append view vs (v ∷ []))
    (told_more m states steps (map test_of (take i xs)) (map view vs) (test_of x) (view v) are is)
