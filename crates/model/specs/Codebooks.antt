-- A codebook: a codeword or none for each symbol, and what decoding comes to.
use Rattle.std.specs.Prelude.{◌≡◌, ℕ, ◌≤◌, Bool, List, [], ◌∷◌, ◌++◌, length, take, drop, Some, Ok, Err, Option}
use Rattle.model.specs.declared.refusal.Refusal.{Refusal}
use Rattle.model.specs.declared.refusal.Refusal.TheVariants.{Dry, Garbled, BadRecord}
use Rattle.model.specs.Cells.{Cell, bit, bad, beyond, bits}
use Rattle.model.specs.Refusals.{Answer}

-- Why a codebook reads no symbol: the bits end before a codeword is whole, or they begin with none.
pub data Unread : Type 0 where
  dry : Unread
  garbled : Unread

abbrev pub refusal_for : Unread → Refusal
refusal_for dry = Dry
refusal_for garbled = Garbled

-- What decoding comes to, by the bits before the end or the first fault.
pub data Outcome (S : Type 0) : Type 0 where
  -- the symbol, and how many bits its codeword has
  symbol : S → ℕ → Outcome S
  -- no codeword: the refusal, and how many bits are taken
  refused : Unread → ℕ → Outcome S
  -- the bits run out before a codeword is whole: the refusal, if what follows them is the end
  short : Unread → Outcome S

-- the same outcome, with symbols that stand for others
abbrev pub on_symbol : {S T : Type 0} → (S → T) → Outcome S → Outcome T
on_symbol f (symbol s n) = symbol (f s) n
on_symbol f (refused why n) = refused why n
on_symbol f (short why) = short why

-- The answer where the bits run out: the codebook's refusal at the end, and a fault's number at a fault.
abbrev pub ran_out : {S : Type 0} → Unread → List Cell → Answer S
ran_out why [] = Err (refusal_for why)
ran_out why (bit b ∷ cs) = Err (refusal_for why)
ran_out why (bad k ∷ cs) = Err (BadRecord k)

-- A call of `decode` at a bit source, from the cells to come, by its answer, to those after it.
abbrev pub Decoded : {S : Type 0} → Outcome S → List Cell → Answer S → List Cell → Type 0
Decoded (symbol s n) cs answer cs' = (answer ≡ Ok s) × (cs' ≡ drop n cs)
Decoded (refused why n) cs answer cs' = (answer ≡ Err (refusal_for why)) × (cs' ≡ drop n cs)
Decoded (short why) cs answer cs' = (answer ≡ ran_out why (beyond cs)) × (cs' ≡ beyond cs)

-- The same by codewords: a symbol is answered exactly where the cells to come begin with its codeword, and just these are taken.
pub record Exactly {S : Type 0} (code : S → Option (List Bool)) (cs : List Cell) (answer : Answer S) (cs' : List Cell) : Type 0 where
  pub only : (s : S) → answer ≡ Ok s → (v : List Bool) × (code s ≡ Some v) × (cs ≡ bits v ++ cs')
  pub whenever : (s : S) (v : List Bool) (rest : List Cell) → code s ≡ Some v → cs ≡ bits v ++ rest → (answer ≡ Ok s) × (cs' ≡ rest)

-- The laws of a codebook, or of a family of codebooks b : B whose symbols are of the type Symbol b. They leave free only an unknown
-- codebook's choice, on refusal, of `dry` or `garbled` and of the part taken.
module _ {B : Type 0} (Symbol : B → Type 0) (code : (b : B) → Symbol b → Option (List Bool)) where
  -- a codeword has 1 to 256 bits
  abbrev pub Lengths : Type 0
  Lengths = (b : B) (s : Symbol b) (v : List Bool) → code b s ≡ Some v → (1 ≤ length v) × (length v ≤ 256)

  -- no codeword begins another symbol's, equal codewords included
  abbrev pub PrefixFree : Type 0
  PrefixFree = (b : B) (s t : Symbol b) (v w rest : List Bool) → code b s ≡ Some v → code b t ≡ Some w → w ≡ v ++ rest → s ≡ t

  module _ (outcome : (b : B) → List Bool → Outcome (Symbol b)) where
    -- bits that begin with a symbol's codeword give that symbol
    abbrev pub Finds : Type 0
    Finds = (b : B) (s : Symbol b) (v rest : List Bool) → code b s ≡ Some v → outcome b (v ++ rest) ≡ symbol s (length v)

    -- and no other bits do
    abbrev pub Found : Type 0
    Found = (b : B) (s : Symbol b) (n : ℕ) (coming : List Bool) → outcome b coming ≡ symbol s n → (code b s ≡ Some (take n coming)) × (n ≤ length coming)

    -- a refusal takes a leading part
    abbrev pub Part : Type 0
    Part = (b : B) (why : Unread) (n : ℕ) (coming : List Bool) → outcome b coming ≡ refused why n → n ≤ length coming
