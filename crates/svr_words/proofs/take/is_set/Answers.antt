use Rattle.clap.specs.Matches.{found_of}
use Rattle.svr_words.proofs.Taking.{flag_read}
use Rattle.svr_words.proofs.take.is_set.Goals as goal

pub returns : goal.returns
returns c = flag_read (found_of c.args.matches.now) c.args.name.now c.get_flag.result c.get_flag.ensures.none c.get_flag.ensures.value c.get_flag.ensures.other c.requires
