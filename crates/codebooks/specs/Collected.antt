-- A codeword that is collected in a scratch, and what is handed on from there.
use Rattle.std.specs.Prelude.{◌≡◌, Bool, List, Result, Option}
use Rattle.std.specs.Borrow.{Bor, MutBor}
use Rattle.model.specs.Refusals.{Answer}
use Rattle.model.specs.Sinks.{Encoded, Sink}
use Rattle.words.specs.declared.fault.BoundedWriteError.{BoundedWriteError}
use Rattle.codebooks.specs.declared.fault.CoderError.{CoderError}
use Rattle.codebooks.specs.declared.fault.DefaultEncoderFrontendError.{DefaultEncoderFrontendError}
use Rattle.codebooks.specs.declared.scratch.Scratch.{Scratch}
use Rattle.codebooks.specs.Answers.{told_encode}
use Rattle.codebooks.specs.Chains.{HandedOver}
use Rattle.codebooks.specs.Scratches.{scratch_sink}

-- What a call of a codebook hands to a scratch is a codeword, or none.
abbrev pub Fills : {B X : Type 0} → (Bor B → X → MutBor Scratch → Result (Unit {0}) (CoderError DefaultEncoderFrontendError BoundedWriteError) → MutBor Scratch → Type 0) → B → X → Option (List Bool) → Type 0
Fills {B} {X} calls book symbol code =
    (b : Bor B) (s : MutBor Scratch) (r : Result (Unit {0}) (CoderError DefaultEncoderFrontendError BoundedWriteError)) (t : MutBor Scratch) → b.now ≡ book → calls b symbol s r t → Encoded code (scratch_sink s.now) (told_encode r) (scratch_sink t.now)

-- A codeword handed to a sink: by what it holds, and by its own calls.
pub record Coded {S : Type 0} (held : S → Sink) (emits : S → Bool → Answer (Unit {0}) → S → Type 0) (code : Option (List Bool)) (s : S) (r : Answer (Unit {0})) (t : S) : Type 0 where
  pub means : Encoded code (held s) r (held t)
  pub does : HandedOver emits code s r t
