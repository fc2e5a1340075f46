-- Lists of links that ascend, and where a link belongs in one.
use Rattle.std.specs.Prelude.{◌≡◌, ℕ, ◌<◌, ◌≤◌, Bool, true, false, cond, ◌&&◌, List, [], ◌∷◌, length, Ok, Err, Result, slice_index_or}
use Rattle.std.specs.List.{insert}
use Rattle.model.specs.declared.link.Link.{Link}
use Rattle.model.specs.Links.{before, is_link}
use Rattle.model.specs.Rows.{is_in}

-- x comes before each of the links
abbrev pub before_all : Link → List Link → Bool
before_all x [] = true
before_all x (y ∷ ys) = before x y && before_all x ys

-- each link comes before each that stands after it
abbrev pub ascending : List Link → Bool
ascending [] = true
ascending (x ∷ xs) = before_all x xs && ascending xs

-- each joins two different nodes of 32-bit numbers, the lower one first
abbrev pub proper : List Link → Bool
proper [] = true
proper (x ∷ xs) = is_link x && proper xs

-- the links with l put at its place, or as they are where l is in
abbrev pub insert_link : Link → List Link → List Link
insert_link l [] = l ∷ []
insert_link l (x ∷ xs) = cond (before l x) (l ∷ x ∷ xs) (cond (before x l) (x ∷ insert_link l xs) (x ∷ xs))

-- what stands for a link past the last
abbrev pub no_link : Link
no_link = record { low = 0; high = 0 }

-- at is the place of l: the links below it come before l, and those from it on do not
pub record Place (l : Link) (xs : List Link) (at : ℕ) : Type 0 where
  pub within : at ≤ length xs
  pub below : (k : ℕ) → k < at → before (slice_index_or xs k no_link) l ≡ true
  pub above : (k : ℕ) → at ≤ k → k < length xs → before (slice_index_or xs k no_link) l ≡ false

-- what a search for l says: l is in; or else it is not, and belongs at this place
abbrev pub Found : Link → List Link → Result ℕ ℕ → Type 0
Found l xs (Ok at) = (is_in l xs ≡ true) × (insert_link l xs ≡ xs)
Found l xs (Err at) =
    (is_in l xs ≡ false)
    × (at ≤ length xs)
    × (insert_link l xs ≡ insert xs at l)
    × (ascending (insert xs at l) ≡ true)
    × (is_link l ≡ true → proper (insert xs at l) ≡ true)
