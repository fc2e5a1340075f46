use Rattle.model.proofs.Clause.{clause, parsing}
use Rattle.model.proofs.golomb.golomb_is_clause_9_1.Goals as goal

pub returns-clause-clause : goal.returns-clause-clause
returns-clause-clause c = clause

pub returns-clause-agree : goal.returns-clause-agree
returns-clause-agree c = parsing
