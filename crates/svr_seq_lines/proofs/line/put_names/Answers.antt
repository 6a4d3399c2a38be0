use Rattle.std.proofs.Common.{refl, arith}
use Rattle.std.specs.List.{flat_map}
use Rattle.svr_token.specs.Names.{names_of}
use Rattle.svr_stream.proofs.Rows.{left_all, row_copy, row_none}
use Rattle.svr_seq_lines.specs.Lines.{spaced}
use Rattle.svr_seq_lines.proofs.line.put_names.Goals as goal

pub loop-token-init : goal.loop-token-init
loop-token-init g c = left_all

pub loop-token-preserved : goal.loop-token-preserved
loop-token-preserved g c =
    row_copy (flat_map (spaced (names_of c.args.names))) c.args.printed.now c.loop-token.token-index _ c.loop-token.invariant c.put_name.ensures (omega arith) refl

pub returns : goal.returns
returns g c = row_none (flat_map (spaced (names_of c.args.names))) c.args.printed.now c.loop-token.token-index c.loop-token.invariant (omega arith) refl
