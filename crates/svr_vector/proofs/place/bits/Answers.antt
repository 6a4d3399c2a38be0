use Rattle.svr_eval.proofs.Bits.{word_is}
use Rattle.svr_vector.proofs.place.bits.Goals as goal

pub returns : goal.returns
returns c = word_is c.wrap.result c.args.number c.args.width c.requires.fits (rw c.from.ensures at c.wrap.ensures)
