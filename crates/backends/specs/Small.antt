-- The small store: a list of at most eight words.
use Rattle.std.specs.Prelude.{◌≡◌, ℕ, ◌%◌, ◌^◌, List, [], ◌∷◌, ◌++◌, map, Some, None, Ok, Err, Option}
use Rattle.model.specs.Cells.{Place, word}
use Rattle.model.specs.Refusals.{Answer}
use Rattle.backends.specs.declared.small.SmallStore.{SmallStore}

-- what a word stands for
abbrev pub long_word : ℕ → Place
long_word x = word (x % 2 ^ 64)

-- the words held, oldest first
abbrev pub small_places : SmallStore → List Place
small_places s = map long_word s.words.items

abbrev pub small_room : SmallStore → ℕ
small_room s = 8

-- The whole of a small store: these words, oldest first.
abbrev pub SmallHolds : SmallStore → List ℕ → Type 0
SmallHolds t words = t.words.items ≡ words

-- A write puts the word behind those held; a refused one changes nothing.
abbrev pub SmallWrote : SmallStore → ℕ → Answer (Unit {0}) → SmallStore → Type 0
SmallWrote s x (Ok _) t = SmallHolds t (s.words.items ++ (x ∷ []))
SmallWrote s x (Err e) t = t ≡ s

-- A read takes the newest word, and leaves the others; none changes nothing.
abbrev pub SmallPopped : SmallStore → Answer (Option ℕ) → SmallStore → Type 0
SmallPopped s (Ok (Some x)) t = SmallHolds s (t.words.items ++ (x ∷ []))
SmallPopped s (Ok None) t = t ≡ s
SmallPopped s (Err e) t = t ≡ s
