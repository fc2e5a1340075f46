-- What the errors of codebooks are shown as.
use Rattle.std.specs.Prelude.{ℕ, List, Some, codes, Option}
use Rattle.std.specs.Fmt.{option_append}
use Rattle.codebooks.specs.declared.fault.CoderError.{CoderError}
use Rattle.codebooks.specs.declared.fault.CoderError.TheVariants.{Frontend, Backend}
use Rattle.codebooks.specs.declared.fault.DefaultEncoderFrontendError.{DefaultEncoderFrontendError}
use Rattle.codebooks.specs.declared.fault.DefaultEncoderFrontendError.TheVariants.{ImpossibleSymbol}
use Rattle.codebooks.specs.declared.fault.SymbolCodeError.{SymbolCodeError}
use Rattle.codebooks.specs.declared.fault.SymbolCodeError.TheVariants.{OutOfCompressedData, InvalidCodeword}

abbrev pub encoder_text : DefaultEncoderFrontendError → List ℕ
encoder_text ImpossibleSymbol = codes "Tried to encode a symbol that has no codeword."

abbrev pub symbol_text : SymbolCodeError → List ℕ
symbol_text OutOfCompressedData = codes "The compressed data ended before the current codeword was complete."
symbol_text InvalidCodeword = codes "Invalid codeword for this codebook."

-- where the error came from, and then what it is shown as itself
abbrev pub coder_text : {F B : Type 0} → (F → Option (List ℕ)) → (B → Option (List ℕ)) → CoderError F B → Option (List ℕ)
coder_text frontend backend (Frontend e) = option_append (Some (codes "Invalid symbol or compressed data: ")) (frontend e)
coder_text frontend backend (Backend e) = option_append (Some (codes "Error of the store: ")) (backend e)
