-- What the parts of a group are about, as contracts see it
use Rattle.svr_token.specs.Names.{names_of}
use Rattle.svr_cover_checked.specs.declared.parts.About.{About}
use Rattle.svr_cover_checked.specs.Refusals as spec
use Rattle.svr_cover_checked.specs.Tables.{found_in}

abbrev pub seen : About → spec.Group
seen x = record {
  text = names_of x.names;
  find = found_in x.table.now.entries;
  formal = x.formal;
  props = x.props.now;
  counts = x.counts.now;
}
