-- Symbols written are read back: after any history, over any store, each symbol with any codebook of its own.
use Rattle.std.specs.Prelude.{◌≡◌, ℕ, ◌+◌, ◌-◌, Bool, true, cond, List, [], ◌∷◌, ◌++◌, reverse, length, take, Some, None, Ok, Option}
use Rattle.model.specs.Bits.{zeros}
use Rattle.model.specs.Cells.{Cell, bits, cells_of}
use Rattle.model.specs.Codebooks.{Outcome, symbol}
use Rattle.model.specs.Histories.{State, StackCall, StackChain, EncoderCall, EncoderChain, EncoderStep, DecoderCall, DecoderChain, encode_symbol, decode_symbol, flush}
use Rattle.model.specs.Refusals.{Answer}

-- a symbol, with the codebook that it is written and read with
pub record Sign {B : Type 0} (Symbol : B → Type 0) : Type 0 where
  pub book : B
  pub sign : Symbol book

-- an answer for each sign, of the type that reading with its codebook has
abbrev pub Answers : {B : Type 0} (Symbol : B → Type 0) → List (Sign Symbol) → Type 0
Answers Symbol [] = Unit {0}
Answers Symbol (x ∷ xs) = Answer (Symbol x.book) × Answers Symbol xs

-- the answers that give the symbols back
abbrev pub same : {B : Type 0} (Symbol : B → Type 0) (xs : List (Sign Symbol)) → Answers Symbol xs
same Symbol [] = tt
same Symbol (x ∷ xs) = (Ok x.sign, same Symbol xs)

-- each symbol written to a stack, and accepted
abbrev pub stack_writes : {B : Type 0} (Symbol : B → Type 0) → List (Sign Symbol) → List (StackCall Symbol)
stack_writes Symbol [] = []
stack_writes Symbol (x ∷ xs) = encode_symbol x.book x.sign (Ok tt) ∷ stack_writes Symbol xs

-- a symbol read from a stack with the codebook of each, with these answers
abbrev pub stack_reads : {B : Type 0} (Symbol : B → Type 0) (xs : List (Sign Symbol)) → Answers Symbol xs → List (StackCall Symbol)
stack_reads Symbol [] answers = []
stack_reads Symbol (x ∷ xs) answers = decode_symbol x.book answers.0 ∷ stack_reads Symbol xs answers.1

-- each symbol written to a queue, and accepted
abbrev pub queue_writes : {B : Type 0} (Symbol : B → Type 0) → List (Sign Symbol) → List (EncoderCall Symbol)
queue_writes Symbol [] = []
queue_writes Symbol (x ∷ xs) = encode_symbol x.book x.sign (Ok tt) ∷ queue_writes Symbol xs

-- a symbol read from a queue with the codebook of each, with these answers
abbrev pub queue_reads : {B : Type 0} (Symbol : B → Type 0) (xs : List (Sign Symbol)) → Answers Symbol xs → List (DecoderCall Symbol)
queue_reads Symbol [] answers = []
queue_reads Symbol (x ∷ xs) answers = decode_symbol x.book answers.0 ∷ queue_reads Symbol xs answers.1

module _ {B C D : Type 0} (Symbol : B → Type 0) (code : (b : B) → Symbol b → Option (List Bool)) (outcome : (b : B) → List Bool → Outcome (Symbol b)) (w : ℕ) (state : C → State) (coming : D → List Cell) where
  -- Whatever calls bring the stack coder `start` to c: if any symbols are then written, each with any codebook, and all are accepted, then
  -- reading with the same codebooks, from the last to the first, gives the same symbols; and the coder then holds just the cells that c
  -- held, fault places included, over the same capacity.
  abbrev pub StackSymbolsAreReadBack : C → Type 0
  StackSymbolsAreReadBack start =
      (calls : List (StackCall Symbol)) (c d e : C) (xs : List (Sign Symbol)) (answers : Answers Symbol (reverse xs))
      → StackChain code outcome w state start calls c
      → StackChain code outcome w state c (stack_writes Symbol xs) d
      → StackChain code outcome w state d (stack_reads Symbol (reverse xs) answers) e
      → (answers ≡ same Symbol (reverse xs)) × ((state e).cells ≡ (state c).cells) × ((state e).capacity ≡ (state c).capacity)

  -- Whatever calls bring the queue encoder `start` to c: if any symbols are then written, each with any codebook, all accepted, and then an
  -- accepted flush brings it to f, then the places of f begin with the cells that c held; and a decoder at these places that has taken just
  -- so many cells, by any reads, reads the same symbols in order with the same codebooks, after which only the flush's zeros are left.
  abbrev pub QueueSymbolsAreReadBack : C → Type 0
  QueueSymbolsAreReadBack start =
      (calls : List (EncoderCall Symbol)) (c d f : C) (xs : List (Sign Symbol))
      → EncoderChain code w state start calls c
      → EncoderChain code w state c (queue_writes Symbol xs) d
      → EncoderStep code w (state d) (flush (Ok tt)) (state f)
      → (take (length (state c).cells) (cells_of w (state f).stored) ≡ (state c).cells)
      × ((first later last : D) (earlier : List (DecoderCall Symbol)) (answers : Answers Symbol xs)
      → coming first ≡ cells_of w (state f).stored
      → DecoderChain outcome coming first earlier later
      → length (coming first) ≡ length (state c).cells + length (coming later)
      → DecoderChain outcome coming later (queue_reads Symbol xs answers) last
      → (answers ≡ same Symbol xs) × (coming last ≡ bits (zeros (length (state f).cells - length (state d).cells))))

-- A codebook each of whose symbols goes by its own codeword. Every codebook is one of these but for the names of its symbols, so a fact about
-- these is about all codebooks, whatever the types of their symbols.
pub record WordBook : Type 0 where
  -- whether it is a codeword
  pub is_word : List Bool → Bool
  -- what decoding comes to
  pub outcome : List Bool → Outcome (List Bool)
  -- bits that begin with a codeword give it
  pub finds : (v rest : List Bool) → is_word v ≡ true → outcome (v ++ rest) ≡ symbol v (length v)

abbrev pub BookWord : WordBook → Type 0
BookWord _ = List Bool

abbrev pub book_code : (b : WordBook) → BookWord b → Option (List Bool)
book_code b v = cond (b.is_word v) (Some v) None

abbrev pub book_outcome : (b : WordBook) → List Bool → Outcome (BookWord b)
book_outcome b = b.outcome

-- The two statements over every codebook, of one coder whose calls are still to come.
abbrev pub AnyStackSymbolsAreReadBack : {C : Type 0} → ℕ → (C → State) → C → Type 0
AnyStackSymbolsAreReadBack w state start = StackSymbolsAreReadBack {D = List Cell} BookWord book_code book_outcome w state (λ cs. cs) start

abbrev pub AnyQueueSymbolsAreReadBack : {C : Type 0} → ℕ → (C → State) → C → Type 0
AnyQueueSymbolsAreReadBack w state start = QueueSymbolsAreReadBack {D = List Cell} BookWord book_code book_outcome w state (λ cs. cs) start
