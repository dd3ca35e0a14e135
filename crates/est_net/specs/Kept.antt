-- What a write leaves of a table (this project's own form).
use Rattle.std.specs.Prelude.{ℕ, ◌+◌, ◌%◌, ◌^◌, List}
use Rattle.est_net.specs.Cells.{decided}
use Rattle.est_net.specs.declared.emissions.Emission.{Emission}
use Rattle.est_net.specs.declared.extents.Extent.{Extent}
use Rattle.est_net.specs.declared.net.Net.{Net}
use Rattle.est_net.specs.declared.reach.Reach.{Reach}

-- how many cells were decided before the cells were last opened, and what never changes
pub record Kept : Type 0 where
  pub earlier : ℕ
  pub emittable : ℕ
  pub output_count : ℕ
  pub reach : Reach
  pub extents : List Extent
  pub emissions : List Emission

abbrev pub kept : Net → Kept
kept net = record {
  earlier = net.earlier;
  emittable = net.emittable;
  output_count = net.output_count;
  reach = net.reach;
  extents = net.extents.items;
  emissions = net.emissions.items;
}

-- what is left of it once its cells are opened: those that were decided count among the earlier ones
abbrev pub reopened : Net → Kept
reopened net = record {
  earlier = (net.earlier + decided net.cells.items) % 2 ^ 64;
  emittable = net.emittable;
  output_count = net.output_count;
  reach = net.reach;
  extents = net.extents.items;
  emissions = net.emissions.items;
}
