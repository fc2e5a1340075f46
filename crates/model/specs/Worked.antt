-- The worked examples of docs/, as facts of the definitions.
use Rattle.std.specs.Prelude.{◌≡◌, ℕ, ◌<◌, Bool, true, false, List, [], ◌∷◌, ◌++◌, length, Some, Ok, Err}
use Rattle.model.specs.declared.link.Link.{Link}
use Rattle.model.specs.declared.refusal.Refusal.TheVariants.{Full}
use Rattle.model.specs.Bits.{zeros}
use Rattle.model.specs.Cells.{Cell, bit, bits, cells_of, word_places}
use Rattle.model.specs.Coders.{BitWritten, SealWritten, SealTaken}
use Rattle.model.specs.Golomb.{code_at}
use Rattle.model.specs.Refusals.{Answer}
use Rattle.model.specs.Runs.{symbols, run_of}

-- The call is answered so and leaves this, and nothing else.
pub record Gives (P : Answer (Unit {0}) → List Cell → Type 0) (r : Answer (Unit {0})) (h : List Cell) : Type 0 where
  pub does : P r h
  pub only : (q : Answer (Unit {0})) (k : List Cell) → P q k → (q ≡ r) × (k ≡ h)

abbrev pub one_zero_one : List Cell
one_zero_one = bits (true ∷ false ∷ true ∷ [])

abbrev pub eight_ones : List Cell
eight_ones = bits (true ∷ true ∷ true ∷ true ∷ true ∷ true ∷ true ∷ true ∷ [])

-- the cells of words of 8 bits
abbrev pub bytes : List ℕ → List Cell
bytes ws = cells_of 8 (word_places ws)

-- the links 0-1, 0-3 and 2-3
abbrev pub three_links : List Link
three_links = record { low = 0; high = 1 } ∷ record { low = 0; high = 3 } ∷ record { low = 2; high = 3 } ∷ []

pub record WorkedExamples : Type 0 where
  -- Exp-Golomb codewords at 8 bits
  pub code_of_0 : code_at 8 0 ≡ Some (true ∷ [])
  pub code_of_7 : code_at 8 7 ≡ Some (false ∷ false ∷ false ∷ true ∷ false ∷ false ∷ false ∷ [])
  pub code_of_255 : code_at 8 255 ≡ Some (zeros 8 ++ (true ∷ zeros 8))
  -- words of 8 bits: 1, 0, 1 seal to 0x0D, which unseals to 1, 0, 1; eight ones seal to 0xFF, 0x01
  pub three_bits_seal : Gives (SealWritten 8 1 one_zero_one) (Ok tt) (bytes (0x0D ∷ []))
  pub three_bits_unseal : Gives (SealTaken 8 (bytes (0x0D ∷ []))) (Ok tt) one_zero_one
  pub eight_ones_seal : Gives (SealWritten 8 2 eight_ones) (Ok tt) (bytes (0xFF ∷ 0x01 ∷ []))
  -- words of 8 bits and a store of one: sixteen bits are taken and the seventeenth refused; a seal takes 7 bits and refuses 8
  pub up_to_sixteen : (h : List Cell) (b : Bool) → length h < 16 → Gives (BitWritten 8 1 h b) (Ok tt) (h ++ (bit b ∷ []))
  pub no_seventeenth : (h : List Cell) (b : Bool) → length h ≡ 16 → Gives (BitWritten 8 1 h b) (Err Full) h
  pub seven_seal : (h : List Cell) → length h ≡ 7 → Gives (SealWritten 8 1 h) (Ok tt) (h ++ (bit true ∷ []))
  pub eight_do_not : (h : List Cell) → length h ≡ 8 → Gives (SealWritten 8 1 h) (Err Full) h
  -- the links 0-1, 0-3, 2-3, and no links
  pub three_links_symbols : symbols three_links ≡ 0 ∷ 0 ∷ 0 ∷ 1 ∷ 2 ∷ 0 ∷ []
  pub three_links_run : run_of 32 three_links ≡ 0x000007A7 ∷ []
  pub no_links_run : run_of 32 [] ≡ 0x00000001 ∷ []
