-- Completion codes and sets of them, as tests of numbers: 0 ends, 1 pauses, k + 2 exits the trap that lies k traps
-- further out. (Berry, The Constructive Semantics of Pure Esterel, the behaviour rules)
use Rattle.std.specs.Prelude.{ℕ, zero, suc, Bool, false, ◌&&◌, ◌||◌, nat_eq}

-- a code as it is seen outside a trap: the trap's own exit ends it, the exit of an outer trap is one trap nearer
abbrev pub code_out_of_trap : ℕ → ℕ
code_out_of_trap zero = 0
code_out_of_trap (suc zero) = 1
code_out_of_trap (suc (suc zero)) = 0
code_out_of_trap (suc (suc (suc k))) = suc (suc k)

-- a set of completion codes
abbrev pub Codes : Type 0
Codes = ℕ → Bool

-- no code
unfoldable pub no_codes : Codes
no_codes k = false

-- this code alone
unfoldable pub code : ℕ → Codes
code n k = nat_eq n k

-- the codes of both sets
unfoldable pub either_code : Codes → Codes → Codes
either_code a b k = a k || b k

-- the codes without 0
unfoldable pub but_zero : Codes → Codes
but_zero a zero = false
but_zero a (suc k) = a (suc k)

-- whether a code up to k is there
abbrev pub some_up_to : Codes → ℕ → Bool
some_up_to a zero = a zero
some_up_to a (suc k) = some_up_to a k || a (suc k)

-- the greater codes of all pairs
unfoldable pub max_codes : Codes → Codes → Codes
max_codes a b k = (a k && some_up_to b k) || (b k && some_up_to a k)

-- the codes as they are seen outside a trap: 0 and 2 become 0, 1 stays, larger ones fall by 1
unfoldable pub codes_out_of_trap : Codes → Codes
codes_out_of_trap a zero = a 0 || a 2
codes_out_of_trap a (suc zero) = a 1
codes_out_of_trap a (suc (suc k)) = a (suc (suc (suc k)))
