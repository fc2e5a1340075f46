use Rattle.model.proofs.OneAnswer.{calls_are_settled}
use Rattle.model.proofs.settled.calls_are_settled.Goals as goal

pub returns-clause-settled : goal.returns-clause-settled
returns-clause-settled g c = calls_are_settled _
