-- The signals that tell tests, a test at a time.
use Rattle.std.proofs.Common.{◌≡◌, ◌∙◌, ℕ, ◌<◌, ◌+◌, Bool, true, false, ◌||◌, List, length, get_or, take, refl, subst}
use Rattle.std.specs.List.{All}
use Rattle.std.proofs.lemmas.Bool.{false≢true, or_right, or_left}
use Rattle.std.proofs.lemmas.List.Elements.{All-more, All-weaker}
use Rattle.est_kernel.specs.Bits.{bits}
use Rattle.est_kernel.specs.declared.statement.Test.{Test}
use Rattle.est_explore.specs.Claims.{IsToldBy}
use Rattle.lab_lines.specs.Tests.{test_of}
use Rattle.lab_lines.specs.declared.asked_test.AskedTest.{AskedTest}

-- more signals tell the test too
told_by_more : (t : Test) (s r : ℕ → Bool) → ((n : ℕ) → s n ≡ true → r n ≡ true) → IsToldBy t s → IsToldBy t r
told_by_more t s r more h p q alike = h p q (λ n x. alike n (more n x))

-- one more test
pub watched_next : (xs : List AskedTest) (i : ℕ) (x : AskedTest) (old one new : ℕ) → i < length xs → x ≡ get_or xs i x
    → ((n : ℕ) → bits new n ≡ (bits old n || bits one n))
    → All (λ t. IsToldBy (test_of t) (bits old)) (take i xs) → IsToldBy (test_of x) (bits one)
    → All (λ t. IsToldBy (test_of t) (bits new)) (take (i + 1) xs)
watched_next xs i x old one new within at h are is =
    All-more (λ t. IsToldBy (test_of t) (bits new)) xs i x within
    (All-weaker (λ t. IsToldBy (test_of t) (bits old)) (λ t. IsToldBy (test_of t) (bits new))
    (λ t. told_by_more (test_of t) (bits old) (bits new) (λ n y. h n ∙ or_left (bits old n) (bits one n) y))
    (take i xs) are)
    (subst (λ (y : AskedTest). IsToldBy (test_of y) (bits new)) at
    (told_by_more (test_of x) (bits one) (bits new) (λ n y. h n ∙ or_right (bits old n) (bits one n) y) is))
