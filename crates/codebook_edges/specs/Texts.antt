-- Bits written as text: '0' and '1'. Any other byte stands for a fault, of that number.
use Rattle.std.specs.Prelude.{◌≡◌, ℕ, ◌+◌, Bool, true, false, cond, List, ◌∷◌, map, length, take, Some, None, Ok, Err, Option, ◌==◌, slice_set}
use Rattle.model.specs.Cells.{Cell, bit, bad}
use Rattle.model.specs.declared.refusal.Refusal.TheVariants.{BadRecord}
use Rattle.model.specs.Refusals.{Answer}
use Rattle.model.specs.Sinks.{Sink}
use Rattle.codebook_edges.specs.declared.written.WrittenText.{WrittenText}

abbrev pub cell_of : ℕ → Cell
cell_of c = cond (c == 48) (bit false) (cond (c == 49) (bit true) (bad c))

abbrev pub digit_of : Bool → ℕ
digit_of true = 49
digit_of false = 48

-- What a byte is read as, and the cell that it is.
abbrev pub ByteRead : ℕ → Answer Bool → Type 0
ByteRead c (Ok b) = (c ≡ digit_of b) × (cell_of c ≡ bit b)
ByteRead c (Err e) = (e ≡ BadRecord c) × (cell_of c ≡ bad c)

-- A read takes the bit that it answers from the text; at the end and at a fault nothing changes.
abbrev pub TextRead : List ℕ → Answer (Option Bool) → List ℕ → Type 0
TextRead text (Ok (Some b)) text' = text ≡ digit_of b ∷ text'
TextRead text (Ok None) text' = text' ≡ text
TextRead text (Err e) text' = text' ≡ text

-- the text so far, and how long it can grow
abbrev pub text_sink : WrittenText → Sink
text_sink s = record { taken = map cell_of (take s.len s.text.now); limit = length s.text.now }

-- A bit is written behind the text so far; a refused one changes nothing.
abbrev pub TextPut : WrittenText → Bool → Answer (Unit {0}) → WrittenText → Type 0
TextPut s b (Ok _) t = (t.text.now ≡ slice_set s.text.now s.len (digit_of b)) × (t.len ≡ s.len + 1)
TextPut s b (Err e) t = (t.text.now ≡ s.text.now) × (t.len ≡ s.len)
