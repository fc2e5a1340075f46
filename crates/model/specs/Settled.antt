-- What a coder holds before a call, and the call, settle its answer and what it holds afterwards.
use Rattle.std.specs.Prelude.{◌≡◌, ℕ, ◌<◌, Bool, List, Option}
use Rattle.model.specs.Cells.{Cell}
use Rattle.model.specs.Codebooks.{Outcome}
use Rattle.model.specs.Coders.{BitWritten, PrefixWritten, SealWritten, FlushWritten, BitRead, SymbolRead, SealTaken}
use Rattle.model.specs.Refusals.{Answer}

-- at most one answer, with one content after it
abbrev pub Settles : {A : Type 0} → (Answer A → List Cell → Type 0) → Type 0
Settles {A} P = (r r' : Answer A) (h h' : List Cell) → P r h → P r' h' → (r ≡ r') × (h ≡ h')

-- S is the type of the symbols.
pub record CallsAreSettled (S : Type 0) : Type 0 where
  pub write_bit : (w C : ℕ) (h : List Cell) (b : Bool) → Settles (BitWritten w C h b)
  pub encode_symbol : (w C : ℕ) (h : List Cell) (codeword : Option (List Bool)) → Settles (PrefixWritten w C h codeword)
  pub seal : (w C : ℕ) (h : List Cell) → Settles (SealWritten w C h)
  pub flush : (w C : ℕ) (h : List Cell) → Settles (FlushWritten w C h)
  pub read_bit : (h : List Cell) → Settles (BitRead h)
  pub decode_symbol : (h : List Cell) (outcome : List Bool → Outcome S) → Settles (SymbolRead h outcome)
  pub unseal : (w : ℕ) (h : List Cell) → 0 < w → Settles (SealTaken w h)
