-- The parts of a statement's sheet: those of its parts are parts of it.
use Rattle.std.specs.Prelude.{◌≡◌, ◌≤◌, ◌+◌, ℕ, Bool, true, false, cond, List}
use Rattle.std.proofs.Common.{refl, sym, arith, subst}
use Rattle.std.proofs.lemmas.Bool.{or_left, or_right}
use Rattle.est_kernel.specs.View.{query_of, term_of}
use Rattle.est_kernel.specs.declared.statement.LocalSignal.{LocalSignal}
use Rattle.est_kernel.specs.declared.statement.Statement.{Statement}
use Rattle.est_kernel.specs.declared.statement.Statement.TheVariants.{Present', Seq', Suspend'}
use Rattle.est_kernel.specs.declared.statement.Statement.TheVariants.{Local' as Binder', Loop', Par', Trap'}
use Rattle.est_meaning.specs.Environments.{Env, and_status, opposite, status_of, with_local}
use Rattle.est_meaning.specs.Knowledge.{IsBelow, IsIn}
use Rattle.est_meaning.specs.Signals.{union}
use Rattle.est_meaning.specs.States.{is_live, term_at}
use Rattle.est_meaning.specs.declared.status.Status.{Status}
use Rattle.est_meaning.specs.declared.status.Status.TheVariants.{Absent}
use Rattle.est_cells.specs.Gates.{ends}
use Rattle.est_cells.specs.Meaning.{begun, cells_at, resumed, status_at}
use Rattle.est_cells.specs.Tables.{Below, PartsBelow, Sheet, emits, is_sure, sheet_size}
use Rattle.est_net.specs.Cells.{cell_at}
use Rattle.est_net.specs.Layout.{node_in, parts_in, sheet_in}
use Rattle.est_micro.specs.Inner.Sides.{IsPart, IsWithin}
use Rattle.est_micro.specs.Inner.Views.{Changes}
use Rattle.est_micro.proofs.BegunNodes.{widen}
use Rattle.est_micro.proofs.Frames.{node_same}
use Rattle.est_micro.proofs.Passing.{after_it, before_it}
use Rattle.est_micro.proofs.PassingOn.{chosen, left_over}

-- it lies in itself, and what lies in what lies in it does
pub within_itself : (main : Bool) (s : Statement) (c t : ℕ) (M : Sheet main s) → IsWithin main s c t M main s c t M
within_itself main s c t M = record {
  from = omega arith;
  within = omega arith;
  part = λ f b. b;
  whole = λ old new h b k. k;
}

pub within_then : (main : Bool) (s : Statement) (c t : ℕ) (M : Sheet main s) (own : Bool) (p : Statement) (d u : ℕ)
    (N : Sheet own p) (low : Bool) (q : Statement) (e v : ℕ) (O : Sheet low q) → IsWithin main s c t M own p d u N
    → IsWithin own p d u N low q e v O → IsWithin main s c t M low q e v O
within_then main s c t M own p d u N low q e v O h k =
    let a = h.from in
    let b = k.from in
    let i = h.within in
    let j = k.within in
    record {
      from = omega arith;
      within = omega arith;
      part = λ f m. k.part f (h.part f m);
      whole = λ old new g m o.
          h.whole old new (widen e d _ _ old new (omega arith) (omega arith) g) m
          (k.whole old new g (h.part (cell_at old) m) o);
    }

-- a part of a part is one
pub part_then : (main : Bool) (s : Statement) (c t : ℕ) (M : Sheet main s) (own : Bool) (p : Statement) (d u : ℕ)
    (N : Sheet own p) (low : Bool) (q : Statement) (e v : ℕ) (O : Sheet low q) → IsPart main s c t M own p d u N
    → IsPart own p d u N low q e v O → IsPart main s c t M low q e v O
part_then main s c t M own p d u N low q e v O h k = record {
  lies = within_then main s c t M own p d u N low q e v O h.lies k.lies;
  emits = λ n m. h.emits n (k.emits n m);
}

-- where only parts change, what is decided of the node stays
with_parts : (main : Bool) (s : Statement) (c t lo hi : ℕ) (old new : List Status) (N : Sheet main s)
    → c + t + 3 ≤ lo → Changes lo hi old new → Below main s (sheet_in (cell_at old) main s c t) N
    → PartsBelow main s (parts_in (cell_at new) main s c t) N.parts
    → Below main s (sheet_in (cell_at new) main s c t) N
with_parts main s c t lo hi old new N x h o k =
    let P = parts_in (cell_at new) main s c t in
    let same : sheet_in (cell_at new) main s c t ≡ node_in (cell_at old) c t P
    = node_same (cell_at new) (cell_at old) c t P P (λ i k u. h.before i (omega arith)) refl in
    subst (λ (z : Sheet main s). Below main s z N) (sym same) (record { cells = o.cells; parts = k })

-- a choice by whether a part is live
choose : (b : Bool) (p : Statement) (S X Y : Sheet true p) → b ≡ true → Below true p S X → Below true p S (cond b X Y)
choose true p S X Y z c = c
choose false p S X Y z c = let x : false ≡ true = z in cc

chosen_in : (b : Bool) (p : Statement) (X Y : Sheet true p) → b ≡ true
    → IsIn (emits is_sure true p X) (emits is_sure true p (cond b X Y))
chosen_in true p X Y z n i = i
chosen_in false p X Y z n i = let x : false ≡ true = z in cc

leave : (b : Bool) (p : Statement) (S X Y : Sheet true p) → b ≡ false → Below true p S Y → Below true p S (cond b X Y)
leave false p S X Y z c = c
leave true p S X Y z c = let x : true ≡ false = z in cc

left_in : (b : Bool) (p : Statement) (X Y : Sheet true p) → b ≡ false
    → IsIn (emits is_sure true p Y) (emits is_sure true p (cond b X Y))
left_in false p X Y z n i = i
left_in true p X Y z n i = let x : true ≡ false = z in cc

-- of a statement that is begun
pub par_first_part : (main : Bool) (a : _) (p : Statement) (b : _) (q : Statement) (c t : ℕ) (r : Status) (e : Env)
    → IsPart main (Par' a p b q) c t (begun main (Par' a p b q) r e) main p (c + t + 3) t
    (begun main p r e)
unfolding union
par_first_part main a p b q c t r e = record {
  lies = record {
    from = omega arith;
    within = omega arith;
    part = λ f k. k.parts.first;
    whole = λ old new g k m.
        with_parts main (Par' a p b q) c t _ _ old new (begun main (Par' a p b q) r e) (omega arith) g k (record {
          first = m;
          second = after_it main q (c + t + 3 + sheet_size main p t) t _ _ old new _ g (omega arith) k.parts.second;
        });
  };
  emits = λ n i. or_left _ _ i;
}

pub par_second_part : (main : Bool) (a : _) (p : Statement) (b : _) (q : Statement) (c t : ℕ) (r : Status) (e : Env)
    → IsPart main (Par' a p b q) c t (begun main (Par' a p b q) r e) main q (c + t + 3 + sheet_size main p t) t
    (begun main q r e)
unfolding union
par_second_part main a p b q c t r e = record {
  lies = record {
    from = omega arith;
    within = omega arith;
    part = λ f k. k.parts.second;
    whole = λ old new g k m.
        with_parts main (Par' a p b q) c t _ _ old new (begun main (Par' a p b q) r e) (omega arith) g k (record {
          first = before_it main p (c + t + 3) t _ _ old new _ g (omega arith) k.parts.first;
          second = m;
        });
  };
  emits = λ n i. or_right _ _ i;
}

pub seq_first_part : (main : Bool) (a : _) (p : Statement) (b : _) (q : Statement) (c t : ℕ) (r : Status) (e : Env)
    → IsPart main (Seq' a p b q) c t (begun main (Seq' a p b q) r e) main p (c + t + 3) t
    (begun main p r e)
unfolding union
seq_first_part main a p b q c t r e = record {
  lies = record {
    from = omega arith;
    within = omega arith;
    part = λ f k. k.parts.first;
    whole = λ old new g k m.
        with_parts main (Seq' a p b q) c t _ _ old new (begun main (Seq' a p b q) r e) (omega arith) g k (record {
          first = m;
          second = after_it main q (c + t + 3 + sheet_size main p t) t _ _ old new _ g (omega arith) k.parts.second;
        });
  };
  emits = λ n i. or_left _ _ i;
}

pub seq_second_part : (main : Bool) (a : _) (p : Statement) (b : _) (q : Statement) (c t : ℕ) (r : Status) (e : Env)
    → IsPart main (Seq' a p b q) c t (begun main (Seq' a p b q) r e) main q (c + t + 3 + sheet_size main p t) t
    (begun main q (ends (cells_at r r (term_of p) e)) e)
unfolding union
seq_second_part main a p b q c t r e = record {
  lies = record {
    from = omega arith;
    within = omega arith;
    part = λ f k. k.parts.second;
    whole = λ old new g k m.
        with_parts main (Seq' a p b q) c t _ _ old new (begun main (Seq' a p b q) r e) (omega arith) g k (record {
          first = before_it main p (c + t + 3) t _ _ old new _ g (omega arith) k.parts.first;
          second = m;
        });
  };
  emits = λ n i. or_right _ _ i;
}

pub present_first_part : (main : Bool) (y a : _) (p : Statement) (b : _) (q : Statement) (c t : ℕ) (r : Status)
    (e : Env)
    → IsPart main (Present' y a p b q) c t (begun main (Present' y a p b q) r e) main p (c + t + 3) t
    (begun main p (and_status r (status_of e (query_of y))) e)
unfolding union
present_first_part main y a p b q c t r e = record {
  lies = record {
    from = omega arith;
    within = omega arith;
    part = λ f k. k.parts.first;
    whole = λ old new g k m.
        with_parts main (Present' y a p b q) c t _ _ old new (begun main (Present' y a p b q) r e) (omega arith) g k
        (record {
          first = m;
          second = after_it main q (c + t + 3 + sheet_size main p t) t _ _ old new _ g (omega arith) k.parts.second;
        });
  };
  emits = λ n i. or_left _ _ i;
}

pub present_second_part : (main : Bool) (y a : _) (p : Statement) (b : _) (q : Statement) (c t : ℕ) (r : Status)
    (e : Env)
    → IsPart main (Present' y a p b q) c t (begun main (Present' y a p b q) r e) main q
    (c + t + 3 + sheet_size main p t) t (begun main q (and_status r (opposite (status_of e (query_of y)))) e)
unfolding union
present_second_part main y a p b q c t r e = record {
  lies = record {
    from = omega arith;
    within = omega arith;
    part = λ f k. k.parts.second;
    whole = λ old new g k m.
        with_parts main (Present' y a p b q) c t _ _ old new (begun main (Present' y a p b q) r e) (omega arith) g k
        (record {
          first = before_it main p (c + t + 3) t _ _ old new _ g (omega arith) k.parts.first;
          second = m;
        });
  };
  emits = λ n i. or_right _ _ i;
}

-- the body of a binder: what it emits of its signal, the binder hides
pub local_within : (main : Bool) (s : LocalSignal) (a : _) (p : Statement) (c t : ℕ) (r : Status) (e : Env)
    → IsWithin main (Binder' s a p) c t (begun main (Binder' s a p) r e) main p (c + t + 4) t
    (begun main p r (with_local e s.index (status_at r s.index (term_of p) e)))
local_within main s a p c t r e = record {
  from = omega arith;
  within = omega arith;
  part = λ f k. k.parts.body;
  whole = λ old new g k m.
      with_parts main (Binder' s a p) c t _ _ old new (begun main (Binder' s a p) r e) (omega arith) g k (record {
        status = subst (λ (x : Status). IsBelow x (status_at r s.index (term_of p) e))
            (sym (g.before (c + t + 3) (omega arith))) k.parts.status;
        body = m;
      });
}

pub suspend_part : (main : Bool) (y a : _) (p : Statement) (c t : ℕ) (r : Status) (e : Env)
    → IsPart main (Suspend' y a p) c t (begun main (Suspend' y a p) r e) main p (c + t + 3) t (begun main p r e)
suspend_part main y a p c t r e = record {
  lies = record {
    from = omega arith;
    within = omega arith;
    part = λ f k. k.parts;
    whole = λ old new g k m.
        with_parts main (Suspend' y a p) c t _ _ old new (begun main (Suspend' y a p) r e) (omega arith) g k m;
  };
  emits = λ n i. i;
}

pub trap_part : (main : Bool) (a : _) (p : Statement) (c t : ℕ) (r : Status) (e : Env)
    → IsPart main (Trap' a p) c t (begun main (Trap' a p) r e) main p (c + t + 3) (t + 1) (begun main p r e)
trap_part main a p c t r e = record {
  lies = record {
    from = omega arith;
    within = omega arith;
    part = λ f k. k.parts;
    whole = λ old new g k m.
        with_parts main (Trap' a p) c t _ _ old new (begun main (Trap' a p) r e) (omega arith) g k m;
  };
  emits = λ n i. i;
}

pub loop_part : (main : Bool) (a : _) (p : Statement) (c t : ℕ) (r : Status) (e : Env)
    → IsPart main (Loop' a p) c t (begun main (Loop' a p) r e) main p (c + t + 3) t (begun main p r e)
unfolding union
loop_part true a p c t r e = record {
  lies = record {
    from = omega arith;
    within = omega arith;
    part = λ f k. k.parts.first;
    whole = λ old new g k m.
        with_parts true (Loop' a p) c t _ _ old new (begun true (Loop' a p) r e) (omega arith) g k (record {
          first = m;
          second = after_it false p (c + t + 3 + sheet_size true p t) t _ _ old new _ g (omega arith) k.parts.second;
        });
  };
  emits = λ n i. or_left _ _ i;
}
loop_part false a p c t r e = record {
  lies = record {
    from = omega arith;
    within = omega arith;
    part = λ f k. k.parts.first;
    whole = λ old new g k m.
        with_parts false (Loop' a p) c t _ _ old new (begun false (Loop' a p) r e) (omega arith) g k (record {
          first = m;
          second = tt;
        });
  };
  emits = λ n i. or_left _ _ i;
}

-- of one that goes on
pub par_first_on : (bits : ℕ → Bool) (a : _) (p : Statement) (b : _) (q : Statement) (c t : ℕ) (r : Status) (e : Env)
    → is_live p bits ≡ true
    → IsPart true (Par' a p b q) c t (resumed (Par' a p b q) bits r e) true p (c + t + 3) t
    (resumed p bits r e)
unfolding union
par_first_on bits a p b q c t r e z = record {
  lies = record {
    from = omega arith;
    within = omega arith;
    part = λ f k. chosen (is_live p bits) p _ (resumed p bits r e) (begun true p Absent e) z
        k.parts.first;
    whole = λ old new g k m.
        with_parts true (Par' a p b q) c t _ _ old new (resumed (Par' a p b q) bits r e) (omega arith) g k (record {
          first = choose (is_live p bits) p _ (resumed p bits r e) (begun true p Absent e) z m;
          second = after_it true q (c + t + 3 + sheet_size true p t) t _ _ old new _ g (omega arith) k.parts.second;
        });
  };
  emits = λ n i. or_left _ _ (chosen_in (is_live p bits) p (resumed p bits r e) (begun true p Absent e) z n i);
}

pub par_second_on : (bits : ℕ → Bool) (a : _) (p : Statement) (b : _) (q : Statement) (c t : ℕ) (r : Status) (e : Env)
    → is_live q bits ≡ true
    → IsPart true (Par' a p b q) c t (resumed (Par' a p b q) bits r e) true q (c + t + 3 + sheet_size true p t) t
    (resumed q bits r e)
unfolding union
par_second_on bits a p b q c t r e z = record {
  lies = record {
    from = omega arith;
    within = omega arith;
    part = λ f k. chosen (is_live q bits) q _ (resumed q bits r e) (begun true q Absent e) z
        k.parts.second;
    whole = λ old new g k m.
        with_parts true (Par' a p b q) c t _ _ old new (resumed (Par' a p b q) bits r e) (omega arith) g k (record {
          first = before_it true p (c + t + 3) t _ _ old new _ g (omega arith) k.parts.first;
          second = choose (is_live q bits) q _ (resumed q bits r e) (begun true q Absent e) z m;
        });
  };
  emits = λ n i. or_right _ _ (chosen_in (is_live q bits) q (resumed q bits r e) (begun true q Absent e) z n i);
}

pub seq_first_on : (bits : ℕ → Bool) (a : _) (p : Statement) (b : _) (q : Statement) (c t : ℕ) (r : Status) (e : Env)
    → is_live p bits ≡ true
    → IsPart true (Seq' a p b q) c t (resumed (Seq' a p b q) bits r e) true p (c + t + 3) t
    (resumed p bits r e)
unfolding union
seq_first_on bits a p b q c t r e z = record {
  lies = record {
    from = omega arith;
    within = omega arith;
    part = λ f k. chosen (is_live p bits) p _ (resumed p bits r e) (begun true p Absent e) z
        k.parts.first;
    whole = λ old new g k m.
        with_parts true (Seq' a p b q) c t _ _ old new (resumed (Seq' a p b q) bits r e) (omega arith) g k (record {
          first = choose (is_live p bits) p _ (resumed p bits r e) (begun true p Absent e) z m;
          second = after_it true q (c + t + 3 + sheet_size true p t) t _ _ old new _ g (omega arith) k.parts.second;
        });
  };
  emits = λ n i. or_left _ _ (chosen_in (is_live p bits) p (resumed p bits r e) (begun true p Absent e) z n i);
}

pub par_first_over : (bits : ℕ → Bool) (a : _) (p : Statement) (b : _) (q : Statement) (c t : ℕ) (r : Status) (e : Env)
    → is_live p bits ≡ false
    → IsPart true (Par' a p b q) c t (resumed (Par' a p b q) bits r e) true p (c + t + 3) t
    (begun true p Absent e)
unfolding union
par_first_over bits a p b q c t r e z = record {
  lies = record {
    from = omega arith;
    within = omega arith;
    part = λ f k. left_over (is_live p bits) p _ (resumed p bits r e) (begun true p Absent e) z
        k.parts.first;
    whole = λ old new g k m.
        with_parts true (Par' a p b q) c t _ _ old new (resumed (Par' a p b q) bits r e) (omega arith) g k (record {
          first = leave (is_live p bits) p _ (resumed p bits r e) (begun true p Absent e) z m;
          second = after_it true q (c + t + 3 + sheet_size true p t) t _ _ old new _ g (omega arith) k.parts.second;
        });
  };
  emits = λ n i. or_left _ _ (left_in (is_live p bits) p (resumed p bits r e) (begun true p Absent e) z n i);
}

pub par_second_over : (bits : ℕ → Bool) (a : _) (p : Statement) (b : _) (q : Statement) (c t : ℕ) (r : Status) (e : Env)
    → is_live q bits ≡ false
    → IsPart true (Par' a p b q) c t (resumed (Par' a p b q) bits r e) true q (c + t + 3 + sheet_size true p t) t
    (begun true q Absent e)
unfolding union
par_second_over bits a p b q c t r e z = record {
  lies = record {
    from = omega arith;
    within = omega arith;
    part = λ f k. left_over (is_live q bits) q _ (resumed q bits r e) (begun true q Absent e) z
        k.parts.second;
    whole = λ old new g k m.
        with_parts true (Par' a p b q) c t _ _ old new (resumed (Par' a p b q) bits r e) (omega arith) g k (record {
          first = before_it true p (c + t + 3) t _ _ old new _ g (omega arith) k.parts.first;
          second = leave (is_live q bits) q _ (resumed q bits r e) (begun true q Absent e) z m;
        });
  };
  emits = λ n i. or_right _ _ (left_in (is_live q bits) q (resumed q bits r e) (begun true q Absent e) z n i);
}

pub seq_first_over : (bits : ℕ → Bool) (a : _) (p : Statement) (b : _) (q : Statement) (c t : ℕ) (r : Status) (e : Env)
    → is_live p bits ≡ false
    → IsPart true (Seq' a p b q) c t (resumed (Seq' a p b q) bits r e) true p (c + t + 3) t
    (begun true p Absent e)
unfolding union
seq_first_over bits a p b q c t r e z = record {
  lies = record {
    from = omega arith;
    within = omega arith;
    part = λ f k. left_over (is_live p bits) p _ (resumed p bits r e) (begun true p Absent e) z
        k.parts.first;
    whole = λ old new g k m.
        with_parts true (Seq' a p b q) c t _ _ old new (resumed (Seq' a p b q) bits r e) (omega arith) g k (record {
          first = leave (is_live p bits) p _ (resumed p bits r e) (begun true p Absent e) z m;
          second = after_it true q (c + t + 3 + sheet_size true p t) t _ _ old new _ g (omega arith) k.parts.second;
        });
  };
  emits = λ n i. or_left _ _ (left_in (is_live p bits) p (resumed p bits r e) (begun true p Absent e) z n i);
}

pub seq_next_on : (bits : ℕ → Bool) (a : _) (p : Statement) (b : _) (q : Statement) (c t : ℕ) (r : Status) (e : Env)
    → is_live p bits ≡ true
    → IsPart true (Seq' a p b q) c t (resumed (Seq' a p b q) bits r e) true q (c + t + 3 + sheet_size true p t) t
    (begun true q (ends (cells_at Absent r (term_at p bits) e)) e)
unfolding union
seq_next_on bits a p b q c t r e z = record {
  lies = record {
    from = omega arith;
    within = omega arith;
    part = λ f k. chosen (is_live p bits) q _ (begun true q (ends (cells_at Absent r (term_at p bits) e)) e)
        (resumed q bits r e) z
        k.parts.second;
    whole = λ old new g k m.
        with_parts true (Seq' a p b q) c t _ _ old new (resumed (Seq' a p b q) bits r e) (omega arith) g k (record {
          first = before_it true p (c + t + 3) t _ _ old new _ g (omega arith) k.parts.first;
          second = choose (is_live p bits) q _ (begun true q (ends (cells_at Absent r (term_at p bits) e)) e)
              (resumed q bits r e) z m;
        });
  };
  emits = λ n i. or_right _ _
      (chosen_in (is_live p bits) q (begun true q (ends (cells_at Absent r (term_at p bits) e)) e)
      (resumed q bits r e) z n i);
}

pub seq_second_on : (bits : ℕ → Bool) (a : _) (p : Statement) (b : _) (q : Statement) (c t : ℕ) (r : Status) (e : Env)
    → is_live p bits ≡ false
    → IsPart true (Seq' a p b q) c t (resumed (Seq' a p b q) bits r e) true q (c + t + 3 + sheet_size true p t) t
    (resumed q bits r e)
unfolding union
seq_second_on bits a p b q c t r e z = record {
  lies = record {
    from = omega arith;
    within = omega arith;
    part = λ f k. left_over (is_live p bits) q _ (begun true q (ends (cells_at Absent r (term_at p bits) e)) e)
        (resumed q bits r e) z
        k.parts.second;
    whole = λ old new g k m.
        with_parts true (Seq' a p b q) c t _ _ old new (resumed (Seq' a p b q) bits r e) (omega arith) g k (record {
          first = before_it true p (c + t + 3) t _ _ old new _ g (omega arith) k.parts.first;
          second = leave (is_live p bits) q _ (begun true q (ends (cells_at Absent r (term_at p bits) e)) e)
              (resumed q bits r e) z m;
        });
  };
  emits = λ n i. or_right _ _
      (left_in (is_live p bits) q (begun true q (ends (cells_at Absent r (term_at p bits) e)) e)
      (resumed q bits r e) z n i);
}

pub loop_first_on : (bits : ℕ → Bool) (a : _) (p : Statement) (c t : ℕ) (r : Status) (e : Env)
    → IsPart true (Loop' a p) c t (resumed (Loop' a p) bits r e) true p (c + t + 3) t (resumed p bits r e)
unfolding union
loop_first_on bits a p c t r e = record {
  lies = record {
    from = omega arith;
    within = omega arith;
    part = λ f k. k.parts.first;
    whole = λ old new g k m.
        with_parts true (Loop' a p) c t _ _ old new (resumed (Loop' a p) bits r e) (omega arith) g k (record {
          first = m;
          second = after_it false p (c + t + 3 + sheet_size true p t) t _ _ old new _ g (omega arith) k.parts.second;
        });
  };
  emits = λ n i. or_left _ _ i;
}

pub loop_again_on : (bits : ℕ → Bool) (a : _) (p : Statement) (c t : ℕ) (r : Status) (e : Env)
    → IsPart true (Loop' a p) c t (resumed (Loop' a p) bits r e) false p (c + t + 3 + sheet_size true p t) t
    (begun false p (ends (cells_at Absent r (term_at p bits) e)) e)
unfolding union
loop_again_on bits a p c t r e = record {
  lies = record {
    from = omega arith;
    within = omega arith;
    part = λ f k. k.parts.second;
    whole = λ old new g k m.
        with_parts true (Loop' a p) c t _ _ old new (resumed (Loop' a p) bits r e) (omega arith) g k (record {
          first = before_it true p (c + t + 3) t _ _ old new _ g (omega arith) k.parts.first;
          second = m;
        });
  };
  emits = λ n i. or_right _ _ i;
}

pub present_first_on : (bits : ℕ → Bool) (y a : _) (p : Statement) (b : _) (q : Statement) (c t : ℕ) (r : Status)
    (e : Env)
    → is_live p bits ≡ true
    → IsPart true (Present' y a p b q) c t (resumed (Present' y a p b q) bits r e) true p (c + t + 3) t
    (resumed p bits r e)
unfolding union
present_first_on bits y a p b q c t r e z = record {
  lies = record {
    from = omega arith;
    within = omega arith;
    part = λ f k. chosen (is_live p bits) p _ (resumed p bits r e) (begun true p Absent e) z
        k.parts.first;
    whole = λ old new g k m.
        with_parts true (Present' y a p b q) c t _ _ old new (resumed (Present' y a p b q) bits r e) (omega arith) g k
        (record {
          first = choose (is_live p bits) p _ (resumed p bits r e) (begun true p Absent e) z m;
          second = after_it true q (c + t + 3 + sheet_size true p t) t _ _ old new _ g (omega arith) k.parts.second;
        });
  };
  emits = λ n i. or_left _ _ (chosen_in (is_live p bits) p (resumed p bits r e) (begun true p Absent e) z n i);
}

pub present_second_on : (bits : ℕ → Bool) (y a : _) (p : Statement) (b : _) (q : Statement) (c t : ℕ) (r : Status)
    (e : Env)
    → is_live p bits ≡ false
    → IsPart true (Present' y a p b q) c t (resumed (Present' y a p b q) bits r e) true q
    (c + t + 3 + sheet_size true p t) t (resumed q bits r e)
unfolding union
present_second_on bits y a p b q c t r e z = record {
  lies = record {
    from = omega arith;
    within = omega arith;
    part = λ f k. left_over (is_live p bits) q _ (begun true q Absent e)
        (resumed q bits r e) z
        k.parts.second;
    whole = λ old new g k m.
        with_parts true (Present' y a p b q) c t _ _ old new (resumed (Present' y a p b q) bits r e) (omega arith) g k
        (record {
          first = before_it true p (c + t + 3) t _ _ old new _ g (omega arith) k.parts.first;
          second = leave (is_live p bits) q _ (begun true q Absent e)
              (resumed q bits r e) z m;
        });
  };
  emits = λ n i. or_right _ _
      (left_in (is_live p bits) q (begun true q Absent e)
      (resumed q bits r e) z n i);
}

pub local_within_on : (bits : ℕ → Bool) (s : LocalSignal) (a : _) (p : Statement) (c t : ℕ) (r : Status) (e : Env)
    → IsWithin true (Binder' s a p) c t (resumed (Binder' s a p) bits r e) true p (c + t + 4) t
    (resumed p bits r (with_local e s.index (status_at r s.index (term_at p bits) e)))
local_within_on bits s a p c t r e = record {
  from = omega arith;
  within = omega arith;
  part = λ f k. k.parts.body;
  whole = λ old new g k m.
      with_parts true (Binder' s a p) c t _ _ old new (resumed (Binder' s a p) bits r e) (omega arith) g k (record {
        status = subst (λ (x : Status). IsBelow x (status_at r s.index (term_at p bits) e))
            (sym (g.before (c + t + 3) (omega arith))) k.parts.status;
        body = m;
      });
}

pub trap_on : (bits : ℕ → Bool) (a : _) (p : Statement) (c t : ℕ) (r : Status) (e : Env)
    → IsPart true (Trap' a p) c t (resumed (Trap' a p) bits r e) true p (c + t + 3) (t + 1) (resumed p bits r e)
trap_on bits a p c t r e = record {
  lies = record {
    from = omega arith;
    within = omega arith;
    part = λ f k. k.parts;
    whole = λ old new g k m.
        with_parts true (Trap' a p) c t _ _ old new (resumed (Trap' a p) bits r e) (omega arith) g k m;
  };
  emits = λ n i. i;
}

pub suspend_on : (bits : ℕ → Bool) (y a : _) (p : Statement) (c t : ℕ) (r : Status) (e : Env)
    → let inside = and_status r (opposite (status_of e (query_of y))) in
    IsPart true (Suspend' y a p) c t (resumed (Suspend' y a p) bits r e) true p (c + t + 3) t (resumed p bits inside e)
suspend_on bits y a p c t r e = record {
  lies = record {
    from = omega arith;
    within = omega arith;
    part = λ f k. k.parts;
    whole = λ old new g k m.
        with_parts true (Suspend' y a p) c t _ _ old new (resumed (Suspend' y a p) bits r e) (omega arith) g k m;
  };
  emits = λ n i. i;
}
