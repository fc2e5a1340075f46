-- Histories: lists of calls on a coder, each with its answer, refused calls included.
-- A codebook is a value b of a type B, and its symbols are of the type Symbol b: so they may differ from codebook to codebook. `code` are
-- the codewords, `outcome` what decoding comes to.
use Rattle.std.specs.Prelude.{◌≡◌, ℕ, Bool, List, [], ◌∷◌, Ok, Option}
use Rattle.model.specs.Cells.{Place, Cell, ahead}
use Rattle.model.specs.Codebooks.{Outcome, Decoded}
use Rattle.model.specs.Coders.{BitWritten, BitRead, SuffixWritten, PrefixWritten, SymbolRead, SealWritten, SealTaken, FlushWritten, AllStored}
use Rattle.model.specs.Refusals.{Answer}
use Rattle.model.specs.Sinks.{Read}

-- What a coder that can write is to its callers: the cells held, oldest first; the capacity of its store; and the places that stand in it.
pub record State : Type 0 where
  pub cells : List Cell
  pub capacity : ℕ
  pub stored : List Place

-- a call of a stack coder, with its answer
pub data StackCall {B : Type 0} (Symbol : B → Type 0) : Type 0 where
  write_bit : Bool → Answer (Unit {0}) → StackCall Symbol
  read_bit : Answer (Option Bool) → StackCall Symbol
  encode_symbol : (b : B) → Symbol b → Answer (Unit {0}) → StackCall Symbol
  decode_symbol : (b : B) → Answer (Symbol b) → StackCall Symbol
  seal : Answer (Unit {0}) → StackCall Symbol
  unseal : Answer (Unit {0}) → StackCall Symbol

-- after an accepted seal or flush all cells stand in the store
abbrev pub StoredIf : ℕ → Answer (Unit {0}) → State → Type 0
StoredIf w r s = r ≡ Ok tt → AllStored w s.cells s.stored

-- What a call of a stack coder does, refused or not. No call changes the capacity.
module _ {B : Type 0} {Symbol : B → Type 0} (code : (b : B) → Symbol b → Option (List Bool)) (outcome : (b : B) → List Bool → Outcome (Symbol b)) (w : ℕ) where
  abbrev pub StackMoved : State → StackCall Symbol → State → Type 0
  StackMoved s (write_bit x r) s' = BitWritten w s.capacity s.cells x r s'.cells
  StackMoved s (read_bit r) s' = BitRead s.cells r s'.cells
  StackMoved s (encode_symbol b x r) s' = SuffixWritten w s.capacity s.cells (code b x) r s'.cells
  StackMoved s (decode_symbol b r) s' = SymbolRead s.cells (outcome b) r s'.cells
  StackMoved s (seal r) s' = SealWritten w s.capacity s.cells r s'.cells × StoredIf w r s'
  StackMoved s (unseal r) s' = SealTaken w s.cells r s'.cells

  abbrev pub StackStep : State → StackCall Symbol → State → Type 0
  StackStep s call s' = (s'.capacity ≡ s.capacity) × StackMoved s call s'

-- a history: calls of a stack coder, one after the other, from a coder to a coder
pub data StackChain {B C : Type 0} {Symbol : B → Type 0} (code : (b : B) → Symbol b → Option (List Bool)) (outcome : (b : B) → List Bool → Outcome (Symbol b)) (w : ℕ) (state : C → State) : C → List (StackCall Symbol) → C → Type 0 where
  no_call : {c : C} → StackChain code outcome w state c [] c
  call_then : {c d e : C} {call : StackCall Symbol} {calls : List (StackCall Symbol)} → StackStep code outcome w (state c) call (state d) → StackChain code outcome w state d calls e → StackChain code outcome w state c (call ∷ calls) e

-- a call of a queue encoder, with its answer
pub data EncoderCall {B : Type 0} (Symbol : B → Type 0) : Type 0 where
  write_bit : Bool → Answer (Unit {0}) → EncoderCall Symbol
  encode_symbol : (b : B) → Symbol b → Answer (Unit {0}) → EncoderCall Symbol
  flush : Answer (Unit {0}) → EncoderCall Symbol

module _ {B : Type 0} {Symbol : B → Type 0} (code : (b : B) → Symbol b → Option (List Bool)) (w : ℕ) where
  abbrev pub EncoderMoved : State → EncoderCall Symbol → State → Type 0
  EncoderMoved s (write_bit x r) s' = BitWritten w s.capacity s.cells x r s'.cells
  EncoderMoved s (encode_symbol b x r) s' = PrefixWritten w s.capacity s.cells (code b x) r s'.cells
  EncoderMoved s (flush r) s' = FlushWritten w s.capacity s.cells r s'.cells × StoredIf w r s'

  abbrev pub EncoderStep : State → EncoderCall Symbol → State → Type 0
  EncoderStep s call s' = (s'.capacity ≡ s.capacity) × EncoderMoved s call s'

pub data EncoderChain {B C : Type 0} {Symbol : B → Type 0} (code : (b : B) → Symbol b → Option (List Bool)) (w : ℕ) (state : C → State) : C → List (EncoderCall Symbol) → C → Type 0 where
  no_write : {c : C} → EncoderChain code w state c [] c
  write_then : {c d e : C} {call : EncoderCall Symbol} {calls : List (EncoderCall Symbol)} → EncoderStep code w (state c) call (state d) → EncoderChain code w state d calls e → EncoderChain code w state c (call ∷ calls) e

-- a call of a queue decoder, with its answer
pub data DecoderCall {B : Type 0} (Symbol : B → Type 0) : Type 0 where
  read_bit : Answer (Option Bool) → DecoderCall Symbol
  decode_symbol : (b : B) → Answer (Symbol b) → DecoderCall Symbol

-- A decoder is, to its callers, the cells to come, next first.
abbrev pub DecoderStep : {B : Type 0} {Symbol : B → Type 0} (outcome : (b : B) → List Bool → Outcome (Symbol b)) → List Cell → DecoderCall Symbol → List Cell → Type 0
DecoderStep outcome cs (read_bit r) cs' = Read cs r cs'
DecoderStep outcome cs (decode_symbol b r) cs' = Decoded (outcome b (ahead cs)) cs r cs'

pub data DecoderChain {B D : Type 0} {Symbol : B → Type 0} (outcome : (b : B) → List Bool → Outcome (Symbol b)) (coming : D → List Cell) : D → List (DecoderCall Symbol) → D → Type 0 where
  no_read : {c : D} → DecoderChain outcome coming c [] c
  read_then : {c d e : D} {call : DecoderCall Symbol} {calls : List (DecoderCall Symbol)} → DecoderStep outcome (coming c) call (coming d) → DecoderChain outcome coming d calls e → DecoderChain outcome coming c (call ∷ calls) e
