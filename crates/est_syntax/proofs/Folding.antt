-- The tree that each unit is.
use Rattle.std.proofs.Common.{◌≡◌, ℕ, List, Bool, rules}
use Rattle.est_syntax.specs.Tree.{pause, present, suspend, abort, weak_abort}
use Rattle.est_syntax.specs.Tree.{repeat, repeat_each, every, trap, signal, group}
use Rattle.est_syntax.specs.Views.{test_view, delay_view, names_view, weak_end_view, unit_view, branches_view}
use Rattle.est_syntax.specs.Views.{statement_view}
use Rattle.est_syntax.specs.declared.tree.Test.{Test}
use Rattle.est_syntax.specs.declared.tree.Delay.{Delay}
use Rattle.est_syntax.specs.declared.tree.Names.{Names}
use Rattle.est_syntax.specs.declared.tree.WeakEnd.{WeakEnd}
use Rattle.est_syntax.specs.declared.tree.Unit.TheVariants as unit
use Rattle.est_syntax.specs.declared.tree.Branches.{Branches}
use Rattle.est_syntax.specs.declared.tree.Statement.{Statement}
use Rattle.est_syntax.specs.declared.tree.Branches.TheFolds.{the_lemmas}

pub pause_is : unit_view unit.Pause ≡ pause
pause_is = search (rules, the_lemmas)

pub present_is : (n : Test) (b : Branches) → unit_view (unit.Present n b) ≡ present (test_view n) (branches_view b)
present_is n b = search (rules, the_lemmas)

pub suspend_is : (t : Statement) (d : Delay) (c : Bool)
    → unit_view (unit.Suspend t d c) ≡ suspend (statement_view t) (delay_view d) c
suspend_is t d c = search (rules, the_lemmas)

pub abort_is : (t : Statement) (d : Delay) (c : Bool) → unit_view (unit.Abort t d c)
    ≡ abort (statement_view t) (delay_view d) c
abort_is t d c = search (rules, the_lemmas)

pub weak_abort_is : (t : Statement) (d : Delay) (w : WeakEnd)
    → unit_view (unit.WeakAbort t d w) ≡ weak_abort (statement_view t) (delay_view d) (weak_end_view w)
weak_abort_is t d w = search (rules, the_lemmas)

pub repeat_is : (t : Statement) (c : Bool) → unit_view (unit.Loop t c) ≡ repeat (statement_view t) c
repeat_is t c = search (rules, the_lemmas)

pub repeat_each_is : (t : Statement) (n : Test)
    → unit_view (unit.LoopEach t n) ≡ repeat_each (statement_view t) (test_view n)
repeat_each_is t n = search (rules, the_lemmas)

pub every_is : (d : Delay) (t : Statement) (c : Bool) → unit_view (unit.Every d t c)
    ≡ every (delay_view d) (statement_view t) c
every_is d t c = search (rules, the_lemmas)

pub trap_is : (n : List ℕ) (t : Statement) (c : Bool) → unit_view (unit.Trap n t c) ≡ trap n (statement_view t) c
trap_is n t c = search (rules, the_lemmas)

pub signal_is : (ns : Names) (t : Statement) (c : Bool)
    → unit_view (unit.Signal ns t c) ≡ signal (names_view ns) (statement_view t) c
signal_is ns t c = search (rules, the_lemmas)

pub group_is : (t : Statement) → unit_view (unit.Group t) ≡ group (statement_view t)
group_is t = search (rules, the_lemmas)
