-- The refusals behind the faults of codebooks.
use Rattle.std.specs.Prelude.{Ok, Err, Result}
use Rattle.model.specs.declared.refusal.Refusal.{Refusal}
use Rattle.model.specs.declared.refusal.Refusal.TheVariants.{Unlisted}
use Rattle.model.specs.Codebooks.{Unread, dry, garbled, refusal_for}
use Rattle.model.specs.Refusals.{Answer}
use Rattle.words.specs.declared.fault.BoundedWriteError.{BoundedWriteError}
use Rattle.words.specs.Answers.{write_refusal}
use Rattle.backends.specs.declared.fault.ReadFault.{ReadFault}
use Rattle.backends.specs.Answers.{read_refusal}
use Rattle.codebooks.specs.declared.fault.CoderError.{CoderError}
use Rattle.codebooks.specs.declared.fault.CoderError.TheVariants.{Frontend, Backend}
use Rattle.codebooks.specs.declared.fault.DefaultEncoderFrontendError.{DefaultEncoderFrontendError}
use Rattle.codebooks.specs.declared.fault.DefaultEncoderFrontendError.TheVariants.{ImpossibleSymbol}
use Rattle.codebooks.specs.declared.fault.SymbolCodeError.{SymbolCodeError}
use Rattle.codebooks.specs.declared.fault.SymbolCodeError.TheVariants.{OutOfCompressedData, InvalidCodeword}

abbrev pub encoder_refusal : DefaultEncoderFrontendError → Refusal
encoder_refusal ImpossibleSymbol = Unlisted

-- why a codebook reads no symbol
abbrev pub unread_of : SymbolCodeError → Unread
unread_of OutOfCompressedData = dry
unread_of InvalidCodeword = garbled

abbrev pub symbol_refusal : SymbolCodeError → Refusal
symbol_refusal e = refusal_for (unread_of e)

-- a symbol is not written: it has no codeword, or the sink takes no more
abbrev pub encode_refusal : CoderError DefaultEncoderFrontendError BoundedWriteError → Refusal
encode_refusal (Frontend e) = encoder_refusal e
encode_refusal (Backend e) = write_refusal e

-- a symbol is not read: no codeword comes, or a fault does
abbrev pub decode_refusal : CoderError SymbolCodeError ReadFault → Refusal
decode_refusal (Frontend e) = symbol_refusal e
decode_refusal (Backend e) = read_refusal e

abbrev pub told_encode : {A : Type 0} → Result A (CoderError DefaultEncoderFrontendError BoundedWriteError) → Answer A
told_encode (Ok x) = Ok x
told_encode (Err e) = Err (encode_refusal e)

abbrev pub told_decode : {A : Type 0} → Result A (CoderError SymbolCodeError ReadFault) → Answer A
told_decode (Ok x) = Ok x
told_decode (Err e) = Err (decode_refusal e)
