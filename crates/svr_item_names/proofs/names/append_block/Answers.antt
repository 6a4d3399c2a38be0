use Rattle.svr_item_names.proofs.names.append_block.Goals as goal

pub returns : goal.returns
returns c = rw (c.as_bytes.ensures, c.as_slice.ensures) at c.append_names.ensures
