-- The numbers of a statement's pauses (this project's own form).
use Rattle.std.specs.Prelude.{◌≡◌, ℕ, Bool, true, false, ◌||◌, nat_eq, ◌+◌, ◌≤◌, ◌<◌}
use Rattle.est_kernel.specs.declared.statement.Statement.{Statement}
use Rattle.est_kernel.specs.declared.statement.Statement.TheVariants.{Nothing, Pause, Emit, Present', Suspend', Seq'}
use Rattle.est_kernel.specs.declared.statement.Statement.TheVariants.{Loop', Par', Trap', Exit, Local' as Binder'}

-- whether the statement has this pause
abbrev pub has_pause : Statement → ℕ → Bool
has_pause Nothing i = false
has_pause (Pause n) i = nat_eq n.index i
has_pause (Emit s) i = false
has_pause (Present' t a p b q) i = has_pause p i || has_pause q i
has_pause (Suspend' t a p) i = has_pause p i
has_pause (Seq' a p b q) i = has_pause p i || has_pause q i
has_pause (Loop' a p) i = has_pause p i
has_pause (Par' a p b q) i = has_pause p i || has_pause q i
has_pause (Trap' a p) i = has_pause p i
has_pause (Exit k) i = false
has_pause (Binder' s a p) i = has_pause p i

-- the two have no pause in common
abbrev pub AreApart : Statement → Statement → Type 0
AreApart p q = (i : ℕ) → has_pause p i ≡ true → has_pause q i ≡ false

-- no two pauses have one number
abbrev pub HasDistinctPauses : Statement → Type 0
HasDistinctPauses Nothing = Unit {0}
HasDistinctPauses (Pause n) = Unit {0}
HasDistinctPauses (Emit s) = Unit {0}
HasDistinctPauses (Present' t a p b q) = HasDistinctPauses p × HasDistinctPauses q × AreApart p q
HasDistinctPauses (Suspend' t a p) = HasDistinctPauses p
HasDistinctPauses (Seq' a p b q) = HasDistinctPauses p × HasDistinctPauses q × AreApart p q
HasDistinctPauses (Loop' a p) = HasDistinctPauses p
HasDistinctPauses (Par' a p b q) = HasDistinctPauses p × HasDistinctPauses q × AreApart p q
HasDistinctPauses (Trap' a p) = HasDistinctPauses p
HasDistinctPauses (Exit k) = Unit {0}
HasDistinctPauses (Binder' s a p) = HasDistinctPauses p

-- how many pauses the statement has
abbrev pub pause_count : Statement → ℕ
pause_count Nothing = 0
pause_count (Pause n) = 1
pause_count (Emit s) = 0
pause_count (Present' t a p b q) = pause_count p + pause_count q
pause_count (Suspend' t a p) = pause_count p
pause_count (Seq' a p b q) = pause_count p + pause_count q
pause_count (Loop' a p) = pause_count p
pause_count (Par' a p b q) = pause_count p + pause_count q
pause_count (Trap' a p) = pause_count p
pause_count (Exit k) = 0
pause_count (Binder' s a p) = pause_count p

-- each pause's number is in this range
abbrev pub AreBetween : Statement → ℕ → ℕ → Type 0
AreBetween s lo hi = (i : ℕ) → has_pause s i ≡ true → (lo ≤ i) × (i < hi)
