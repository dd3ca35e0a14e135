use Rattle.std.proofs.Common.{◌≡◌, ◌<◌, ◌+◌, ◌||◌, ◌&&◌, ℕ, Bool, List, nat_eq, length, take, get_or, sym, ◌∙◌, ap}
use Rattle.std.proofs.Common.{arith}
use Rattle.std.specs.List.{list_any}
use Rattle.std.proofs.lemmas.List.{take_all}
use Rattle.std.proofs.lemmas.List.Folds.{list_any_more}
use Rattle.est_kernel.proofs.Masks.{bits_zero}
use Rattle.est_kernel.specs.Bits.{bits}
use Rattle.est_meaning.specs.declared.status.Status.{Status}
use Rattle.est_cells.specs.Tables.{is_possible, is_sure}
use Rattle.est_net.specs.Cells.{cell_at}
use Rattle.est_net.specs.Emissions.{is_of}
use Rattle.est_net.specs.declared.emissions.Emission.{Emission}
use Rattle.est_net.proofs.net.Net.emitted.Goals as goal

-- one emission more
more : (pick : Status → Bool) (cells : ℕ → Status) (xs : List Emission) (at n new old : ℕ) (e : Emission) (go : Status)
    → at < length xs → e ≡ get_or xs at e → go ≡ cells e.go
    → bits old n ≡ list_any (is_of pick cells n) (take at xs)
    → bits new n ≡ (bits old n || (nat_eq e.signal.index n && pick go))
    → bits new n ≡ list_any (is_of pick cells n) (take (at + 1) xs)
more pick cells xs at n new old e go within read known was now =
    now
    ∙ (ap (λ (b : Bool). b || (nat_eq e.signal.index n && pick go)) was
    ∙ (ap (λ (v : Status). list_any (is_of pick cells n) (take at xs) || (nat_eq e.signal.index n && pick v)) known
    ∙ (ap (λ (z : Emission). list_any (is_of pick cells n) (take at xs) || is_of pick cells n z) read
    ∙ sym (list_any_more (is_of pick cells n) xs at e within))))

pub loop-emission-init : goal.loop-emission-init
loop-emission-init c = record {
  sure = λ n. ap (λ (k : ℕ). bits k n) c.nothing-said.ensures.sure ∙ bits_zero n;
  possible = λ n. ap (λ (k : ℕ). bits k n) c.nothing-said.ensures.possible ∙ bits_zero n;
}

pub loop-emission-preserved : goal.loop-emission-preserved
loop-emission-preserved c =
    let items = c.deref-emission-items.result.now in
    let at = c.loop-emission.emission-index in
    let e = c.emission-item.result in
    let within : at < length items = omega (arith, c.loop-emission-test.true) in
    let is = c.emission-item.is in
    let read : e ≡ get_or items at e = cc in
    let cells = cell_at c.args.self.now.cells.items in
    record {
      sure = λ n. more is_sure cells items at n _ _ e _ within read c.status_or_absent.ensures
          (c.loop-emission.invariant.sure n) (c.beside-said.ensures.sure n);
      possible = λ n. more is_possible cells items at n _ _ e _ within read c.status_or_absent.ensures
          (c.loop-emission.invariant.possible n) (c.beside-said.ensures.possible n);
    }

pub returns-clause-sure : goal.returns-clause-sure
returns-clause-sure c = λ n.
    c.loop-emission.invariant.sure n
    ∙ ap (λ (xs : List Emission). list_any (is_of is_sure (cell_at c.args.self.now.cells.items) n) xs)
    (take_all c.loop-emission.emission-index c.deref-emission-items.result.now c.loop-emission-test.false
    ∙ c.deref-emission-items.ensures.value)

pub returns-clause-possible : goal.returns-clause-possible
returns-clause-possible c = λ n.
    c.loop-emission.invariant.possible n
    ∙ ap (λ (xs : List Emission). list_any (is_of is_possible (cell_at c.args.self.now.cells.items) n) xs)
    (take_all c.loop-emission.emission-index c.deref-emission-items.result.now c.loop-emission-test.false
    ∙ c.deref-emission-items.ensures.value)
