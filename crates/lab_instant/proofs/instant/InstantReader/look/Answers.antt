use Rattle.std.proofs.Common.{◌≡◌, ◌+◌, ◌∙◌, refl, ap, arith, length, sym, true}
use Rattle.est_cells.specs.Tables.{sheet_size}
use Rattle.est_net.specs.Layout.{cell_count, output_count}
use Rattle.est_net.specs.declared.net.Net.{Net}
use Rattle.est_net.proofs.OwnerLists.{owners_length}
use Rattle.lab_instant.specs.OwnCells.{signal_places}
use Rattle.lab_instant.proofs.instant.InstantReader.look.Goals as goal

pub seen_in-requires : goal.seen_in-requires
seen_in-requires c =
    let k = c.args.kernel.now in
    let after = c.run-reaction.ensures.net in
    let outputs : c.net-net.result.now.output_count ≡ output_count k.interface
    = ap (λ (z : Net). z.output_count) c.net-net.ensures ∙ after.outputs in
    let cells : length c.net-net.result.now.cells.items ≡ cell_count k
    = ap (λ (z : Net). length z.cells.items) c.net-net.ensures ∙ after.size in
    let owners : length c.as_slice.result.now ≡ sheet_size true k.root 0
    = ap length (c.as_slice.ensures.value ∙ c.requires.is_for.cells) ∙ owners_length true k.root 0 0 0 in
    let count : cell_count k ≡ output_count k.interface + sheet_size true k.root 0 = refl in
    record {
      table = omega (arith, outputs, cells, owners, count);
      signals = c.as_slice-2.ensures.value ∙ (c.requires.is_for.signals
          ∙ ap signal_places (sym c.as_slice.ensures.value));
    }
