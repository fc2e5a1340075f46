-- The answers of calls that read several bits.
use Rattle.std.specs.Prelude.{Ok, Err, Result}
use Rattle.model.specs.Refusals.{Answer}
use Rattle.backends.specs.declared.fault.ReadFault.{ReadFault}
use Rattle.backends.specs.Answers.{read_refusal}
use Rattle.codebooks.specs.declared.streams.BitsRead.{BitsRead}
use Rattle.codebooks.specs.Streams.{Number}

abbrev pub told_bits : Result BitsRead ReadFault → Answer Number
told_bits (Ok b) = Ok (record { number = b.number; count = b.count })
told_bits (Err f) = Err (read_refusal f)
