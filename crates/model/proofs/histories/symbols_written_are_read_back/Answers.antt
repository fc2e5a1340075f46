use Rattle.model.specs.Histories.{State}
use Rattle.model.proofs.Queues.{any_queue}
use Rattle.model.proofs.Stacks.{any_stack}
use Rattle.model.proofs.histories.symbols_written_are_read_back.Goals as goal

pub returns-clause-stack : goal.returns-clause-stack
returns-clause-stack c = λ w start. any_stack w (λ (s : State). s) start

pub returns-clause-queue : goal.returns-clause-queue
returns-clause-queue c = λ w start. any_queue w (λ (s : State). s) start
