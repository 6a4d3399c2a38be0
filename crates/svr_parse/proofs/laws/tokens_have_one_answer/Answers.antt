use Rattle.svr_tree.specs.Reading.{IsReading}
use Rattle.svr_reader.proofs.Fronts.{one_answer}
use Rattle.svr_parse.proofs.laws.tokens_have_one_answer.Goals as goal

pub returns : goal.returns
returns c limit tokens = one_answer IsReading limit tokens
