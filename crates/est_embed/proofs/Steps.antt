pub use Rattle.std.proofs.Common.{◌≡◌, ℕ, ◌≤◌, ◌<◌, ◌^◌, List, [], ◌∷◌, ◌++◌, refl, sym, ap, ◌∙◌, w64, w32, MutBor}
pub use Rattle.std.proofs.Common.{arith}
pub use Rattle.std.proofs.raw_atomic.Walks.{proved}
pub use base.Fraction.{full_share}
pub use base.Logic.{SProp, id⊢, ex, ex_i, sep, emp}
pub use base.Fml.{ftrue, fat, flft, fres, flent, GName}
pub use mir.Syntax.{ty_int, named}
use mir.Syntax.{Body as Code, seq, skip}
pub use mir.Val.{Val, vunit, vint, vptr}
pub use contract.Monad.{fact, fact_i}
pub use contract.Running.{tables}
pub use types.Logic.{sem}
pub use types.SemTy.{Body}
pub use types.Kit.{‵, raw, ◌⊛◌, some, later, prop, at_ret, Sq, ◌$◌, ◌∵◌, !, qed, done, move, keep, drop, use0, use1}
pub use types.Kit.{use2, use3, split, join, fsplit, fsplit3, fjoin, feq_i, feq_l, pick, await, rewrite, regoal}
pub use types.Kit.{suffices, frame, group}
pub use types.Tokens.{lft_new, lft_end}
pub use types.Run.{enter, of_opd, lit, unit_lit, bin, addr, load, look, store, stop, fld, hop, no_more, and_then}
pub use types.Run.{assigns, assigns_last, first, blocks, branches, skips, exec, returns, returns_within, well_typed}
pub use types.ByLocal.{alloc_all, pass_all, free_all, look_at, get, through, sets, sets_last, lands_as, env}
pub use denote.Builtin.{u64, bool, unit}
pub use denote.Exit.{yes}
pub use denote.Laws.{Is, shows}
pub use denote.Memory.{part_at, mem}
pub use denote.Lend.{lends_ref, ref_back}
pub use denote.Plain.{uint_in, uint_out, uint_Makes, uint_vals, uint_Tells, uint_Lawful}
pub use denote.RawPtr.{Ptr, RawPtr, block_ptr, lies_at, in_a_block, rawptr_vals, rawptr_Tells, rawptr_Lawful}
pub use denote.Ref.{MutRef, mut_vals, mut_Tells}
pub use denote.Signature.{plain}
pub use denote.Steps.{nothing, owned, heard, peeks, only}
pub use denote.Triple.Call.{calls_at}
pub use denote.Triple.Clauses.{lasts}
pub use denote.Triple.Entry.{on_entry}
pub use denote.Triple.Spec.{triple_of}
pub use denote.Triple.Walked.{Stays, walk_of, says, stay_dropped, Goes-dropped, stay_ref, Goes-ref, ends_at}
pub use denote.Triple.Table.{framed}

-- the code after a first statement
abbrev pub tail : Code → Code
tail (seq a b) = b
tail other = skip
