-- The run of a link set: its symbols, and the sealed words that hold them.
use Rattle.std.specs.Prelude.{◌≡◌, ℕ, zero, suc, ◌+◌, ◌-◌, ◌/◌, ◌%◌, ◌<◌, ◌≤◌, Bool, true, cond, List, [], ◌∷◌, ◌++◌, reverse, length, take, drop, Ok, Err, Result, ◌==◌}
use Rattle.model.specs.declared.link.Link.{Link}
use Rattle.model.specs.declared.refusal.Refusal.{Refusal}
use Rattle.model.specs.declared.refusal.Refusal.TheVariants.{Full, Misplaced}
use Rattle.model.specs.Bits.{low_value, zeros}
use Rattle.model.specs.Cells.{Place, word_places}
use Rattle.model.specs.Coders.{room}
use Rattle.model.specs.Golomb.{codewords}

-- ---- the symbols of links

-- The two symbols of a link after the one before it: d is how far its low end is above the low end before; e, less one, how far its high end
-- is above the high end before where the low ends are the same, else above its own low end.
pub record Step : Type 0 where
  pub d : ℕ
  pub e : ℕ

-- what stands before the first link
abbrev pub start : Link
start = record { low = 0; high = 0 }

unfoldable pub step_to : Link → Link → Step
step_to before x = let d = x.low - before.low in
    record { d = d; e = cond (d == 0) ((x.high - before.high) - 1) ((x.high - x.low) - 1) }

-- the steps of links, each after the one before it
abbrev pub steps_from : Link → List Link → List Step
steps_from before [] = []
steps_from before (x ∷ xs) = step_to before x ∷ steps_from x xs

-- the link that a step leads to
unfoldable pub link_at : Link → Step → Link
link_at before s = let low = before.low + s.d in
    record { low = low; high = cond (s.d == 0) (before.high + s.e + 1) (low + s.e + 1) }

abbrev pub links_from : Link → List Step → List Link
links_from before [] = []
links_from before (s ∷ ss) = link_at before s ∷ links_from (link_at before s) ss

abbrev pub symbols_of : List Step → List ℕ
symbols_of [] = []
symbols_of (s ∷ ss) = s.d ∷ s.e ∷ symbols_of ss

-- the symbols of a link set, by its ascending list
abbrev pub symbols : List Link → List ℕ
symbols xs = symbols_of (steps_from start xs)

-- ---- the words of a run

-- what a stack holds, oldest first, of links after the link `before`: the bits that a reader meets first were put down last
abbrev pub held_after : Link → List Link → List Bool
held_after before xs = reverse (codewords (symbols_of (steps_from before xs)))

-- a one bit, then zeros to the edge of the word
unfoldable pub sealed : ℕ → List Bool → List Bool
sealed w bs = bs ++ (true ∷ zeros ((w - 1) - length bs % w))

-- the first n words of w bits, each with its lowest bit first
abbrev pub first_words : ℕ → ℕ → List Bool → List ℕ
first_words w zero bs = []
first_words w (suc n) bs = low_value (take w bs) ∷ first_words w n (drop w bs)

-- the words of bits that end at a word's edge
unfoldable pub words_of : ℕ → List Bool → List ℕ
words_of w bs = first_words w (length bs / w) bs

-- the words that a seal leaves
unfoldable pub sealed_words : ℕ → List Bool → List ℕ
sealed_words w bs = words_of w (sealed w bs)

-- The run of a link set, of any size, at the word width w.
abbrev pub run_of : ℕ → List Link → List ℕ
run_of w xs = sealed_words w (held_after start xs)

-- ---- run writing

-- What a run fault carries: the index of a link, ascending from 0 (0 at opening and at the seal), and the refusal behind it.
pub record RunStop : Type 0 where
  pub index : ℕ
  pub why : Refusal

-- how many bits are held once the links from an index on are put down, from the last to the first
abbrev pub bits_down_to : List Link → ℕ → ℕ
bits_down_to xs i = length (codewords (symbols_of (drop i (steps_from start xs))))

-- The link whose symbol finds no room: the last one down to which the bits do not fit; or, where all fit, the seal finds none.
pub record NoRoomAt (w C : ℕ) (xs : List Link) (i : ℕ) : Type 0 where
  pub above : (j : ℕ) → i < j → bits_down_to xs j ≤ room w C
  pub here : (room w C < bits_down_to xs i → ⊥) → i ≡ 0

-- What run writing does with the links xs of a table, at a store of capacity C with the places ps: refused where it has places, and nothing
-- changes; refused where the run has more than C words, and the run's first C words are left; else it leaves the run.
abbrev pub RunWritten : ℕ → ℕ → List Place → List Link → Result (Unit {0}) RunStop → List Place → Type 0
RunWritten w C ps xs (Ok _) ps' = (ps ≡ []) × (length (run_of w xs) ≤ C) × (ps' ≡ word_places (run_of w xs))
RunWritten w C [] xs (Err f) ps' = (f.why ≡ Full) × (C < length (run_of w xs)) × NoRoomAt w C xs f.index × (ps' ≡ word_places (take C (run_of w xs)))
RunWritten w C (p ∷ ps) xs (Err f) ps' = (f ≡ record { index = 0; why = Misplaced }) × (ps' ≡ p ∷ ps)
