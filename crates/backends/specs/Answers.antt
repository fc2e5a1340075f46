-- The refusals behind the faults of stores, and the answers of their calls.
use Rattle.std.specs.Prelude.{Ok, Err, Result}
use Rattle.model.specs.declared.refusal.Refusal.{Refusal}
use Rattle.model.specs.declared.refusal.Refusal.TheVariants.{BadRecord, Misplaced}
use Rattle.model.specs.Refusals.{Answer}
use Rattle.words.specs.declared.fault.BoundedWriteError.{BoundedWriteError}
use Rattle.words.specs.Answers.{write_refusal}
use Rattle.backends.specs.declared.fault.ReadFault.{ReadFault}
use Rattle.backends.specs.declared.fault.SeekError.{SeekError}
use Rattle.backends.specs.declared.fault.SeekError.TheVariants.{PastEnd}

-- a fault place is read: the refusal carries its number
abbrev pub read_refusal : ReadFault → Refusal
read_refusal f = BadRecord f.place

abbrev pub seek_refusal : SeekError → Refusal
seek_refusal PastEnd = Misplaced

-- the answer of a read
abbrev pub told_read : {A : Type 0} → Result A ReadFault → Answer A
told_read (Ok x) = Ok x
told_read (Err f) = Err (read_refusal f)

-- the answer of a write
abbrev pub told_write : Result (Unit {0}) BoundedWriteError → Answer (Unit {0})
told_write (Ok _) = Ok tt
told_write (Err e) = Err (write_refusal e)
