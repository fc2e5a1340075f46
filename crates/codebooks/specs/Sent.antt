-- Bits handed to a sink one by one, up to the first that is refused: by what it holds, and by its own calls.
use Rattle.std.specs.Prelude.{Bool, List}
use Rattle.model.specs.Refusals.{Answer}
use Rattle.model.specs.Sinks.{Emitted, Sink}
use Rattle.backends.specs.Chains.{WroteAll}

pub record Sent {S : Type 0} (held : S → Sink) (emits : S → Bool → Answer (Unit {0}) → S → Type 0) (v : List Bool) (s : S) (r : Answer (Unit {0})) (t : S) : Type 0 where
  pub means : Emitted v (held s) r (held t)
  pub does : WroteAll emits s v r t
