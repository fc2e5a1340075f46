-- What parsing a number from a source comes to, step by step: by the cells to come, and by the source's own calls.
use Rattle.std.specs.Prelude.{◌≡◌, ℕ, ◌+◌, ◌-◌, ◌^◌, ◌<◌, ◌≤◌, Bool, true, List, [], ◌∷◌, ◌++◌, Some, None, Ok, Err, Option}
use Rattle.model.specs.declared.refusal.Refusal.TheVariants.{Garbled}
use Rattle.model.specs.Bits.{zeros}
use Rattle.model.specs.Cells.{Cell, ahead, bits}
use Rattle.model.specs.Codebooks.{Decoded}
use Rattle.model.specs.Golomb.{parse}
use Rattle.model.specs.Refusals.{Answer}
use Rattle.codebooks.specs.Chains.{Reached}
use Rattle.codebooks.specs.Streams.{Number}

-- A number of B bits, or a refusal, is what parsing the cells cs comes to; cs' are left.
abbrev pub ParsedAs : ℕ → List Cell → Answer ℕ → List Cell → Type 0
ParsedAs B cs a cs' = Decoded (parse B (ahead cs)) cs a cs'

pub record Parsed {S : Type 0} (coming : S → List Cell) (reads : S → Answer (Option Bool) → S → Type 0) (B : ℕ) (s : S) (a : Answer ℕ) (t : S) : Type 0 where
  pub means : ParsedAs B (coming s) a (coming t)
  pub does : Reached reads s t

-- z zero bits and a one bit came before ds.
abbrev pub ZerosThenOne : ℕ → List Cell → List Cell → Type 0
ZerosThenOne z cs ds = cs ≡ bits (zeros z) ++ (bits (true ∷ []) ++ ds)

-- What is settled once zero bits and the first one bit are read: too many zeros refuse, and so does the end; a fault is passed on.
abbrev pub FirstOne : List Cell → Answer (Option ℕ) → List Cell → Type 0
FirstOne cs (Ok (Some z)) ds = ((B : ℕ) → B ≤ 64 → B < z → ParsedAs B cs (Err Garbled) ds) × (z ≤ 64 → ZerosThenOne z cs ds)
FirstOne cs (Ok None) ds = (B : ℕ) → ParsedAs B cs (Err Garbled) ds
FirstOne cs (Err e) ds = (B : ℕ) → ParsedAs B cs (Err e) ds

-- What is settled once the bits after the one bit are read: fewer than there were zeros refuse, and so does a number past those of B bits.
abbrev pub MoreBits : ℕ → List Cell → Answer Number → List Cell → Type 0
MoreBits z ds (Ok n) ds' =
    (B : ℕ) (cs : List Cell) → ZerosThenOne z cs ds → z ≤ B
    → (n.count < z → ParsedAs B cs (Err Garbled) ds')
    × (z ≤ n.count → 2 ^ B ≤ (2 ^ z - 1) + n.number → ParsedAs B cs (Err Garbled) ds')
    × ((k : ℕ) → z ≤ n.count → k ≡ (2 ^ z - 1) + n.number → k < 2 ^ B → ParsedAs B cs (Ok k) ds')
MoreBits z ds (Err e) ds' = (B : ℕ) (cs : List Cell) → ZerosThenOne z cs ds → z ≤ B → ParsedAs B cs (Err e) ds'

-- so many bits give a number below this
abbrev pub Short : ℕ → Answer Number → Type 0
Short z (Ok n) = z ≤ n.count → n.number < 2 ^ z
Short z (Err e) = Unit {0}

-- The number after z zeros, a one bit and bits of value v, if it has at most B bits.
abbrev pub NumberOf : ℕ → ℕ → ℕ → Option ℕ → Type 0
NumberOf B z v (Some n) = (n ≡ (2 ^ z - 1) + v) × (n < 2 ^ B)
NumberOf B z v None = 2 ^ B ≤ (2 ^ z - 1) + v
