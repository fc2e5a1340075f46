-- What a scratch of bits holds, and what a bit makes of it.
use Rattle.std.specs.Prelude.{◌≡◌, Bool, List, [], ◌∷◌, ◌++◌, Ok, Err}
use Rattle.model.specs.Cells.{bits}
use Rattle.model.specs.Refusals.{Answer}
use Rattle.model.specs.Sinks.{Sink}
use Rattle.codebooks.specs.declared.scratch.Scratch.{Scratch}

-- the bits taken, oldest first
abbrev pub scratch_bits : Scratch → List Bool
scratch_bits s = s.bits.items

abbrev pub scratch_sink : Scratch → Sink
scratch_sink s = record { taken = bits (scratch_bits s); limit = 256 }

-- A bit goes behind those that are taken; a refused one changes nothing.
abbrev pub ScratchTook : Scratch → Bool → Answer (Unit {0}) → Scratch → Type 0
ScratchTook s b (Ok _) t = scratch_bits t ≡ scratch_bits s ++ (b ∷ [])
ScratchTook s b (Err e) t = t ≡ s
