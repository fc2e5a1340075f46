-- The answer of a call that reads several symbols.
use Rattle.std.specs.Prelude.{◌≡◌, ℕ, Ok, Err, Result}
use Rattle.model.specs.Refusals.{Answer}
use Rattle.codebooks.specs.Answers.{decode_refusal}
use Rattle.bit_streams.specs.declared.decode.SymbolsError.{SymbolsError}

abbrev pub told_symbols : Result (Unit {0}) SymbolsError → Answer (Unit {0})
told_symbols (Ok _) = Ok tt
told_symbols (Err e) = Err (decode_refusal e.error)

-- so many were read before the refusal
abbrev pub ReadBefore : Result (Unit {0}) SymbolsError → ℕ → Type 0
ReadBefore (Ok _) n = Unit {0}
ReadBefore (Err e) n = e.read ≡ n
