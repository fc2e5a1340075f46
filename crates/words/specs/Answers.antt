-- The refusal behind the fault of a bounded write.
use Rattle.std.specs.Prelude.{ℕ, List, codes}
use Rattle.model.specs.declared.refusal.Refusal.{Refusal}
use Rattle.model.specs.declared.refusal.Refusal.TheVariants.{Full}
use Rattle.words.specs.declared.fault.BoundedWriteError.{BoundedWriteError}
use Rattle.words.specs.declared.fault.BoundedWriteError.TheVariants.{OutOfSpace}

abbrev pub write_refusal : BoundedWriteError → Refusal
write_refusal OutOfSpace = Full

-- what it is shown as
abbrev pub write_text : BoundedWriteError → List ℕ
write_text OutOfSpace = codes "Out of space"
