use Rattle.model.proofs.Clause.{clause, parsing}
use Rattle.exp_golomb.proofs.ExpGolomb.new.Goals as goal

pub returns : goal.returns
returns g c = record { clause = clause; agrees = parsing g.N.Partial.PartialWord.width }
