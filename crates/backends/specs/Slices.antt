-- A slice and a position as a store.
use Rattle.std.specs.Prelude.{ℕ, ◌^◌, ◌≤◌, min, List, map, length, take, drop}
use Rattle.model.specs.Cells.{Place, word}

-- As many elements of a slice as can be places. (Every opening sees to it that these are all.)
abbrev pub spread : {A : Type 0} → List A → ℕ
spread xs = min (2 ^ 56) (length xs)

-- how many elements stand before the position
abbrev pub before : {A : Type 0} → List A → ℕ → ℕ
before xs pos = min pos (spread xs)

-- the places before the position, and those from it on, where `place` tells what an element stands for
abbrev pub front : {A : Type 0} → (A → Place) → List A → ℕ → List Place
front place xs pos = map place (take (before xs pos) xs)

abbrev pub rest : {A : Type 0} → (A → Place) → List A → ℕ → List Place
rest place xs pos = map place (drop (before xs pos) (take (spread xs) xs))

-- the place of a word
abbrev pub word_at : {W : Type 0} → (W → ℕ) → W → Place
word_at value x = word (value x)

-- a position in a slice of so many elements is one of a store
abbrev pub Placed : ℕ → ℕ → Type 0
Placed size pos = (pos ≤ size) × (size ≤ 2 ^ 56)
